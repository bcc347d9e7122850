-- `floats::normal_axis` meets its contract: k less 32768 fits an `i32`, and the literal 32767.0 is the integer.
use Rattle.std.proofs.Common.{◌≡◌, ℕ, ◌<◌, ℤ, pos, ◌-ℤ◌, refl, ap, ◌∙◌, le_trans, arith, lit≤, to_z-of_z, w32, SFits, to_z}
use lib.Signed.{nat_abs-le}
use lib.IntN.{sub_ℕ}
use lib.Ieee.{binary64, div, of_int, of_bits}
use mir.Facts.{to_z_pos}
use Rattle.bits.proofs.TwosLaws.{sub_is, sub_fits}
use Rattle.floats.proofs.Rounding.{quotient_once}
use Rattle.floats.proofs.normal_axis.Goals as goal

module _ (k : ℕ) (h : k < 65536) where
  is : to_z w32 k -ℤ pos 32768 ≡ sub_ℕ k 32768
  is = rw (to_z_pos w32 {n = k} (omega arith)) (sub_is k 32768)

  fine : SFits w32 (to_z w32 k -ℤ pos 32768)
  fine = rw is (sub_fits k 32768 (omega arith) (omega arith))

literal : of_bits binary64 4674736138332667904 ≡ of_int binary64 (pos 32767)
unfolding of_bits of_int
literal = refl

pub overflow_sub-result : goal.overflow_sub-result
overflow_sub-result c = fine c.args.k c.requires

pub returns : goal.returns
returns c =
    let k = c.args.k in
    let h = c.requires in
    ap (λ (z : ℤ). div binary64 (of_int binary64 z) (of_bits binary64 4674736138332667904)) (to_z-of_z (fine k h) ∙ is k h)
    ∙ ap (div binary64 (of_int binary64 (sub_ℕ k 32768))) literal
    ∙ quotient_once (sub_ℕ k 32768) 32767 (le_trans (nat_abs-le (sub_ℕ k 32768) (sub_fits {w = w32} k 32768 (omega arith) (omega arith)).sfits) (lit≤ tt)) (omega arith) (omega arith)
