-- Its two tests are the definition's, and else the cycle walks the root level.
use native.Mathlib.Omega.{arith}
use mathlib.Core.Path.{sym, ◌∙◌}
use Rattle.steps.proofs.TallyLaws.{count_error}
use Rattle.array.proofs.PassLaws.{played_silent, played_past, played_level}
use Rattle.array.proofs.passes.pass.Goals as goal

pub returns-then-is_silent-clause-played : goal.returns-then-is_silent-clause-played
returns-then-is_silent-clause-played c =
    played_silent c.args.walk _ _ _ _ _ (sym c.is_silent.ensures ∙ c.if-is_silent.true)

pub returns-then-bytes-size-clause-played : goal.returns-then-bytes-size-clause-played
returns-then-bytes-size-clause-played c =
    played_past c.args.walk _ _ _ _ _ _ (sym c.is_silent.ensures ∙ c.if-is_silent.false) c.if-bytes-size.true
    (count_error _ _ _ _ _ c.count.ensures)

pub walk_level-requires : goal.walk_level-requires
walk_level-requires c =
    record { lies = omega arith; path = omega arith; labels = c.requires.labels }

pub returns-clause-played : goal.returns-clause-played
returns-clause-played c =
    played_level c.args.walk _ _ _ _ _ _ (sym c.is_silent.ensures ∙ c.if-is_silent.false) c.if-bytes-size.false
    c.walk_level.ensures.walked.out
