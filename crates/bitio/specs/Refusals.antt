-- Document 01's refusal numbers: for each refusal the number, and the values that 01's table names, in its order; a value that it doesn't name
-- is 0. And where the cursor stands after it. Positions count from the window's first bit.
use Rattle.std.specs.Prelude.{ℕ, ◌+◌, ◌*◌, ◌%◌, ◌^◌}
use Rattle.bits.specs.Packed.{most_bytes}
use Rattle.bits.specs.Refusals.{Numbered, refusal}
use Rattle.bitio.specs.declared.Refusal.{Refusal}
use Rattle.bitio.specs.declared.Refusal.TheVariants.{TooLong, TooFew, GoesOn, Overflows, NoMaximum, TooMany, Past}
use Rattle.bitio.specs.declared.said.Saying.{Saying}

abbrev pub numbered : Refusal → Numbered
numbered TooLong = refusal 1 0 0 0
numbered (TooFew position length asked) = refusal 7 position length asked
numbered (GoesOn number) = refusal 8 number 0 0
numbered (Overflows number) = refusal 9 number 0 0
numbered NoMaximum = refusal 10 0 0 0
numbered TooMany = refusal 13 0 0 0
numbered (Past asked available) = refusal 14 asked available 0

-- the number and the values as the code's record of them
abbrev pub saying_of : Numbered → Saying
saying_of n = record { number = n.number; first = n.first; second = n.second; third = n.third }

abbrev pub said : Refusal → Saying
said why = saying_of (numbered why)

-- The cursor, which stood at `at`: after 7 it stands where the part that lacks bits begins, after 8 and 9 behind the number's five bytes, after
-- the others where it stood. (A reader that is not opened has none.)
abbrev pub stands_after_lem : (at : ℕ) → Refusal → ℕ
stands_after_lem at TooLong = at
stands_after_lem at (TooFew position length asked) = position
stands_after_lem at (GoesOn number) = number + 8 * most_bytes
stands_after_lem at (Overflows number) = number + 8 * most_bytes
stands_after_lem at NoMaximum = at
stands_after_lem at TooMany = at
stands_after_lem at (Past asked available) = at

-- A position in 64 bits. After a refusal none is past them: after 8 and 9 the cursor stands in its window (of a packed number, 40 bits on:
-- exports/proofs/PackedPositions), after the others where it stood or where a part begins.
abbrev pub as64 : ℕ → ℕ
as64 p = p % 2 ^ 64

abbrev pub stands_after64 : Refusal → (at : ℕ) → ℕ
stands_after64 why at = as64 (stands_after_lem at why)
