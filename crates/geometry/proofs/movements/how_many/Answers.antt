-- `geometry::movements::how_many` meets its contract: each of the two adds 1 where it holds.
use Rattle.std.proofs.Common.{rules}
use Rattle.geometry.specs.Movements.{how_many_lem}
use Rattle.geometry.proofs.movements.how_many.Goals as goal

pub returns : goal.returns
unfolding how_many_lem
returns c = search rules
