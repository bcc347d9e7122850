-- The angle of a byte: counted in thirty-seconds of a degree, which is a whole number, and divided by 32.
use Rattle.std.specs.Prelude.{◌≡◌, ℕ, ◌*◌, false, pos, to_bits, Float}
use Rattle.std.specs.Float.{binary32}
use Rattle.std.specs.Float.Ieee.{mul, div, of_int}
use Rattle.std.specs.Float.Ieee.Exact.{HasValue}

-- k times 360 / 256 degrees, counted in thirty-seconds of a degree
abbrev pub thirty_seconds : (k : ℕ) → ℕ
thirty_seconds k = 45 * k

-- the angle of k as the rotation reader makes it: that number as binary32, divided by 32
abbrev pub by_the_whole : (k : ℕ) → Float
by_the_whole k = div binary32 (of_int binary32 (pos (thirty_seconds k))) (of_int binary32 (pos 32))

-- the original's formula, (k as f32) * (360.0 / 256.0), each operation in binary32
abbrev pub by_the_product : (k : ℕ) → Float
by_the_product k = mul binary32 (of_int binary32 (pos k)) (div binary32 (of_int binary32 (pos 360)) (of_int binary32 (pos 256)))

-- the division loses nothing, and gives the float that the product gave, bit for bit
pub record AsBefore (k : ℕ) : Type 0 where
  pub exact : HasValue (by_the_whole k) false (thirty_seconds k) 32
  pub same : by_the_whole k ≡ by_the_product k
  pub bits : to_bits binary32 (by_the_whole k) ≡ to_bits binary32 (by_the_product k)
