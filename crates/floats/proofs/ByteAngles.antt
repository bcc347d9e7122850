-- The laws of byte angles: 45 k / 32 is a value of binary32, so the whole number over 32 and the product of k and 360 / 256 are both that
-- value, without a rounding.
use Rattle.std.proofs.Common.{◌≡◌, ℕ, ◌*◌, ◌<◌, false, pos, sym, refl, ap, ◌∙◌, arith}
use lib.Ieee.{binary32, round, div, of_int, to_bits}
use Rattle.floats.specs.Numbers.{Angle}
use Rattle.floats.specs.ByteAngles.{by_the_whole, by_the_product, AsBefore}
use Rattle.floats.proofs.Rounding.{steps, whole_over, divided_angle}

product_over_32 : (k : ℕ) → k < 256 → by_the_product k ≡ round binary32 false (45 * k) 32
unfolding of_int div
product_over_32 k h = steps k 5 (div binary32 (of_int binary32 (pos 360)) (of_int binary32 (pos 256))) (refl, refl) (omega arith) (omega arith)

-- so made, the angle of a byte is what the contract of `angle` asks: exactly k times 45 / 32
pub whole_angle : (k : ℕ) → k < 256 → Angle 8 k (by_the_whole k)
whole_angle k h = divided_angle 8 k (omega arith) (omega arith) h

-- For every byte the division is exact, and gives the bits that the multiplication by 360 / 256 gave.
pub as_before : (k : ℕ) → k < 256 → AsBefore k
as_before k h =
    let same : by_the_whole k ≡ by_the_product k = whole_over (45 * k) 5 (omega arith) (omega arith) ∙ sym (product_over_32 k h) in
    record { exact = (whole_angle k h).exact; same = same; bits = ap (to_bits binary32) same }
