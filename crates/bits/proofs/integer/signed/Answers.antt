-- `bits::signed` meets its contract: the shift is half of 2 ^ w, and the difference of the rest and that half is raw less 2 ^ w.
-- Assumes nothing.
use mathlib.Core.Path.{◌≡◌, sym, ◌∙◌}
use Prim.Native.Nat.{ℕ, ◌-◌, ◌*◌, ◌%◌, ◌^◌, ◌≤◌, ◌<◌}
use native.Mathlib.Omega.{arith}
use lib.IntN.{ℤ, sub_ℕ, ◌-ℤ◌}
use mir.Val.{SFits, to_z}
use mir.Syntax.{w64}
use mir.Facts.{to_z_pos, to_z-of_z}
use Rattle.bits.proofs.TwosLaws.{sub_is, sub_fits, half_is, half_small, twice, twos_low, twos_high}
use Rattle.bits.proofs.integer.signed.Goals as goal

-- the code's difference is the definition's, and it fits
module _ (w raw : ℕ) (lo : 1 ≤ w) (hi : w ≤ 63) (f : raw < 2 ^ w) where
  small : raw < 9223372036854775808
  small = omega (arith, twice w lo hi, half_small w lo hi)

  differ : ℤ
  differ = to_z w64 (raw - (1 * 2 ^ (w - 1)) % 18446744073709551616) -ℤ to_z w64 ((1 * 2 ^ (w - 1)) % 18446744073709551616)

  differ_is : differ ≡ sub_ℕ (raw - 2 ^ (w - 1)) (2 ^ (w - 1))
  unfolding differ
  differ_is =
      rw (half_is w lo hi, to_z_pos w64 {n = raw - 2 ^ (w - 1)} (omega (arith, small)), to_z_pos w64 {n = 2 ^ (w - 1)} (omega (arith, half_small w lo hi)))
      (sub_is (raw - 2 ^ (w - 1)) (2 ^ (w - 1)))

  differ_fits : SFits w64 differ
  differ_fits = rw differ_is (sub_fits (raw - 2 ^ (w - 1)) (2 ^ (w - 1)) (omega (arith, small)) (omega (arith, half_small w lo hi)))

pub overflow_cast-result : goal.overflow_cast-result
overflow_cast-result c = let p = c.requires in record { sfits = small c.args.w c.args.raw p.0 p.1 p.2 }

pub overflow_cast-result-else-raw-half : goal.overflow_cast-result-else-raw-half
overflow_cast-result-else-raw-half c = let p = c.requires in record { sfits = omega (arith, small c.args.w c.args.raw p.0 p.1 p.2) }

pub overflow_cast-result-else-raw-half-2 : goal.overflow_cast-result-else-raw-half-2
overflow_cast-result-else-raw-half-2 c = let p = c.requires in record { sfits = omega (arith, half_is c.args.w p.0 p.1, half_small c.args.w p.0 p.1) }

pub overflow_sub-result-else-raw-half : goal.overflow_sub-result-else-raw-half
unfolding differ
overflow_sub-result-else-raw-half c = let p = c.requires in differ_fits c.args.w c.args.raw p.0 p.1 p.2

pub returns-then-raw-half : goal.returns-then-raw-half
returns-then-raw-half c =
    let p = c.requires in
    let w = c.args.w in
    let raw = c.args.raw in
    to_z_pos w64 {n = raw} (small w raw p.0 p.1 p.2) ∙ sym (twos_low w raw (rw (half_is w p.0 p.1) at c.if-raw-half.true))

pub returns-else-raw-half : goal.returns-else-raw-half
unfolding differ
returns-else-raw-half c =
    let p = c.requires in
    let w = c.args.w in
    let raw = c.args.raw in
    to_z-of_z (differ_fits w raw p.0 p.1 p.2) ∙ differ_is w raw p.0 p.1 p.2
    ∙ twos_high w raw p.0 p.1 p.2 (rw (half_is w p.0 p.1) at c.if-raw-half.false)
