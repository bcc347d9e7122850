-- Each exit is one of the laws of the tests and of the two passes.
use mathlib.Core.Path.{sym, ◌∙◌}
use Rattle.array.proofs.PassLaws.{passable}
use Rattle.array.proofs.CallLaws.{leaves_long, leaves_broken, leaves_answered}
use Rattle.array.proofs.decode_leaves.Goals as goal

pub returns-then-is_too_long : goal.returns-then-is_too_long
returns-then-is_too_long c = leaves_long _ c.requires _ _ _ _ _ _ (sym c.is_too_long.ensures ∙ c.if-is_too_long.true)

pub returns-then-not-check_tables : goal.returns-then-not-check_tables
returns-then-not-check_tables c =
    leaves_broken _ c.requires _ _ _ _ _ _ (sym c.is_too_long.ensures ∙ c.if-is_too_long.false)
    (sym c.check_tables.ensures ∙ c.if-not-check_tables.true)

pub two_passes-requires : goal.two_passes-requires
two_passes-requires c =
    passable _ _ _ _ (sym c.is_too_long.ensures ∙ c.if-is_too_long.false) (sym c.check_tables.ensures ∙ c.if-not-check_tables.false)

pub returns : goal.returns
returns c =
    leaves_answered _ c.requires _ _ _ _ _ _ (sym c.is_too_long.ensures ∙ c.if-is_too_long.false)
    (sym c.check_tables.ensures ∙ c.if-not-check_tables.false) _ _ c.two_passes.ensures c.map_err.ensures.cases
