-- `bits::packed_fifth` meets its contract: one law for each thing that a fifth byte can be.
use Rattle.std.proofs.lemmas.Result.{err_from_is_err_and}
use mathlib.Core.Path.{sym, ap, ◌∙◌}
use native.Mathlib.Omega.{arith}
use Rattle.bits.proofs.PackedLaws.{fifth_goes_on, fifth_over, fifth_ends}
use Rattle.bits.proofs.PaddedLaws.{found_cut, found_more}
use Rattle.bits.specs.Padded.{found}
use Rattle.bits.proofs.number.packed_fifth.Goals as goal

pub returns-in_err-b : goal.returns-in_err-b
returns-in_err-b c =
    let p = err_from_is_err_and c.from_residual.result c.from_residual.ensures.1 in
    rw (p.1, p.2) (found_cut _ _ _ _ _ _ c.in_err-b.ensures)

pub returns-then-b-eq1 : goal.returns-then-b-eq1
unfolding found
returns-then-b-eq1 c = ap found (sym (fifth_goes_on _ _ _ _ _ _ c.in_ok-b.ensures.0 c.in_ok-b.ensures.1 c.if-b-eq1.true))

pub returns-then-group-gt15 : goal.returns-then-group-gt15
unfolding found
returns-then-group-gt15 c = ap found (sym (fifth_over _ _ _ _ _ _ c.in_ok-b.ensures.0 c.in_ok-b.ensures.1 c.if-b-eq1.false c.if-group-gt15.true))

pub returns : goal.returns
unfolding found
returns c = found_more _ 4 (omega arith) ∙ ap found (sym (fifth_ends _ _ _ _ _ _ c.in_ok-b.ensures.0 c.in_ok-b.ensures.1 c.if-b-eq1.false (omega arith)))
