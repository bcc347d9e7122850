-- Decimals: a number's digits as ASCII.
use Rattle.std.specs.Prelude.{ℕ, zero, suc, ◌+◌, ◌-◌, ◌/◌, ◌%◌, ◌^◌, min, ◌≡◌, List, [], ◌∷◌, ◌++◌, length, ltb, if◌then◌else◌}
use Rattle.bits.specs.Runs.{store}

-- `more` digits may stand before the last one
unfoldable pub digits : (more n : ℕ) → List ℕ
digits zero n = (48 + n) ∷ []
digits (suc more) n = if ltb n 10 then (48 + n) ∷ [] else digits more (n / 10) ++ ((48 + n % 10) ∷ [])

-- the digits of a u32, which has at most ten
unfoldable pub decimal : ℕ → List ℕ
decimal n = digits 9 n

abbrev pub decimal_length_lem : ℕ → ℕ
decimal_length_lem n = length (decimal n)

-- the place after n bytes, or the largest usize where that is less
abbrev pub place_after_lem : (at n : ℕ) → ℕ
place_after_lem at n = min (at + n) (2 ^ 64 - 1)

-- The digits of n are written to d from byte at on: r is the place after them, and `end` what d holds then. Where they don't fit nothing is
-- written.
abbrev pub WritesDecimal : (d : List ℕ) (at n : ℕ) (r : ℕ) (end : List ℕ) → Type 0
WritesDecimal d at n r end = (r ≡ place_after_lem at (decimal_length_lem n)) × (end ≡ store d at (decimal n))
