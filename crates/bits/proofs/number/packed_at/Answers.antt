-- `bits::packed_at` meets its contract: the first byte ends the number, or the rest is read after it.
use Rattle.std.proofs.lemmas.Result.{err_from_is_err_and}
use mathlib.Core.Path.{sym, ap, ◌∙◌}
use native.Mathlib.Omega.{arith}
use Rattle.bits.proofs.FieldLaws.{bound}
use Rattle.bits.proofs.PackedLaws.{packed_one, packed_more}
use Rattle.bits.proofs.PaddedLaws.{found_first_cut, found_one}
use Rattle.bits.specs.Padded.{found}
use Rattle.bits.proofs.number.packed_at.Goals as goal

pub returns-in_err-b : goal.returns-in_err-b
returns-in_err-b c =
    let p = err_from_is_err_and c.from_residual.result c.from_residual.ensures.1 in
    rw (p.1, p.2) (found_first_cut _ _ _ c.in_err-b.ensures)

pub overflow_cast-result : goal.overflow_cast-result
overflow_cast-result c = omega (arith, bound _ _ _ _ c.in_ok-b.ensures.1)

pub returns-then-b-eq0 : goal.returns-then-b-eq0
unfolding found
returns-then-b-eq0 c = found_one _ ∙ ap found (sym (packed_one _ _ _ _ c.in_ok-b.ensures.0 c.in_ok-b.ensures.1 c.if-b-eq0.true))

pub packed_more-requires : goal.packed_more-requires
packed_more-requires c = omega (arith, bound _ _ _ _ c.in_ok-b.ensures.1, c.in_ok-b.ensures.0)

pub returns : goal.returns
returns c =
    c.packed_more.ensures ∙ ap found (sym (packed_more _ _ _ _ c.in_ok-b.ensures.0 c.in_ok-b.ensures.1 c.if-b-eq0.false))
