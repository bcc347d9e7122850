-- The numbers of the vector, normal and rotation readers, in IEEE 754's terms as `lib.Ieee` has them (01, Bits and numbers).
use Rattle.std.specs.Prelude.{◌≡◌, ℕ, zero, suc, ◌+◌, ◌-◌, ◌*◌, ◌^◌, true, false, ℤ, pos, negsuc, Float}
use Rattle.std.proofs.Math.IntN.{sub_ℕ}
use Rattle.std.specs.Float.{binary32, binary64}
use Rattle.std.specs.Float.Ieee.{round, div, of_int}
use Rattle.std.specs.Float.Ieee.Exact.{HasValue}

-- the integer z rounded to binary64, then its quotient by d rounded to binary64
abbrev pub quotient : (z : ℤ) (d : ℕ) → Float
quotient z d = div binary64 (of_int binary64 z) (of_int binary64 (pos d))

-- z / d rounded once to binary64, d above 0: the nearest value, at a tie the one with an even last digit. 0 / d is +0
abbrev pub rounded : (z : ℤ) (d : ℕ) → Float
rounded (pos n) d = round binary64 false n d
rounded (negsuc n) d = round binary64 true (suc n) d

-- one axis of a fixed normal, from its integer k: (k - 32768) / 32767, rounded once
abbrev pub normal_axis_lem : (k : ℕ) → Float
normal_axis_lem k = rounded (sub_ℕ k 32768) 32767

-- k steps of 360 / 2 ^ w degrees: k * 360 / 2 ^ w as binary32 has it
abbrev pub angle : (w k : ℕ) → Float
angle w k = round binary32 false (k * 360) (2 ^ w)

-- a float that is this angle, and that no rounding changed: it is exactly k times 45 / 2 ^ (w - 3), so k * 45 / 32 at 8 bits and k * 45 / 8192
-- at 16
pub record Angle (w k : ℕ) (r : Float) : Type 0 where
  pub value : r ≡ angle w k
  pub exact : HasValue r false (45 * k) (2 ^ (w - 3))

-- what a pattern with the exponent's field x and the digits t stands for, in units of the format's smallest value; h is the weight of the
-- leading digit, which a subnormal (x = 0) lacks
abbrev pub field_units : (h x t : ℕ) → ℕ
field_units h zero t = t
field_units h (suc x) t = (h + t) * 2 ^ x
