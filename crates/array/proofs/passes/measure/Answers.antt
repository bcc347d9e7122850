-- It is a pass from zeros, and outputs of no length stay empty.
use borrow.Author.Rules.{rules}
use Rattle.array.proofs.PassLaws.{measures}
use Rattle.array.proofs.passes.measure.Goals as goal

pub returns : goal.returns
returns c = measures _ _ _ _ _ _ (search rules) (search rules) (search rules) (search rules) c.pass.ensures.played
