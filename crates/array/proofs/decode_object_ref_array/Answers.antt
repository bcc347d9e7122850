-- Each exit is one of the laws of the test and of the two passes.
use Rattle.std.specs.Prelude.{Ok, Err}
use mathlib.Core.Path.{sym, ◌∙◌}
use Rattle.array.proofs.PassLaws.{passable, none_laid}
use Rattle.array.proofs.CallLaws.{objects_long, objects_answered}
use Rattle.array.proofs.decode_object_ref_array.Goals as goal

pub returns-then-is_too_long : goal.returns-then-is_too_long
returns-then-is_too_long c = objects_long _ _ _ (sym c.is_too_long.ensures ∙ c.if-is_too_long.true)

pub two_passes-passed-requires : goal.two_passes-passed-requires
two_passes-passed-requires c =
    passable _ _ _ _ (sym c.is_too_long.ensures ∙ c.if-is_too_long.false) none_laid

pub returns-in-Ok : goal.returns-in-Ok
returns-in-Ok c =
    objects_answered _ _ _ (sym c.is_too_long.ensures ∙ c.if-is_too_long.false) (Ok c.in-Ok.walked) _ c.in-Ok.ensures

pub returns-in-Err : goal.returns-in-Err
returns-in-Err c =
    objects_answered _ _ _ (sym c.is_too_long.ensures ∙ c.if-is_too_long.false) (Err c.in-Err.need) _ c.in-Err.ensures
