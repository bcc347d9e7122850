-- Each public call on decimals is determined by its contract.
use Prim.Native.Nat.{ℕ}
use mathlib.Core.Path.{◌≡◌}
use mathlib.Core.List.{List}
use Rattle.bits.specs.Decimals.{decimal_length_lem, WritesDecimal}
use Rattle.promises.specs.Determining.{Determines, DeterminesAll}
use Rattle.promises.proofs.Determined.{one_equal, both_equal}

-- `decimal_length` has one answer.
pub one_decimal_length : (n : ℕ) → Determines (λ r. r ≡ decimal_length_lem n)
one_decimal_length n = one_equal (decimal_length_lem n)

-- `write_decimal` has one answer and leaves its buffer in one state.
pub one_write_decimal : (d : List ℕ) (at n : ℕ) → DeterminesAll (WritesDecimal d at n)
one_write_decimal d at n = both_equal _ _
