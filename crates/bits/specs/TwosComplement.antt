-- Two's complement.
use Rattle.std.specs.Prelude.{ℕ, ◌-◌, ◌^◌, ltb, ℤ, pos, if◌then◌else◌}
use Rattle.std.proofs.Math.IntN.{sub_ℕ}

-- w bits as an integer: below half of 2 ^ w the number itself, from there on the number less 2 ^ w
unfoldable pub twos : (w raw : ℕ) → ℤ
twos w raw = if ltb raw (2 ^ (w - 1)) then pos raw else sub_ℕ raw (2 ^ w)
