-- Document 01's refusal numbers: for each refusal the number, and the values that 01's table names; a value that it doesn't name is 0. And
-- where the cursor stands after it.
use Rattle.std.specs.Prelude.{ℕ}
use Rattle.bits.specs.Refusals.{Numbered, refusal}
use Rattle.bitio.specs.Refusals as bitio
use Rattle.bitio.specs.declared.said.Saying.{Saying}
use Rattle.geometry.specs.declared.Refusal.{Refusal}
use Rattle.geometry.specs.declared.Refusal.TheVariants.{Unread, NoScale, NotFinite, NoSuchWidth}

abbrev pub numbered : Refusal → Numbered
numbered (Unread r) = bitio.numbered r
numbered NoScale = refusal 11 0 0 0
numbered (NotFinite position) = refusal 12 0 0 0
numbered NoSuchWidth = refusal 13 0 0 0

-- the number and the values as the bit reader's record of them
abbrev pub said : Refusal → Saying
said why = bitio.saying_of (numbered why)

-- the cursor, which stood at `at`: after a refusal of the bit reader as bitio says, after 12 behind the three components, after 11 and 13 where it
-- stood
abbrev pub stands_after_lem : (at : ℕ) → Refusal → ℕ
stands_after_lem at (Unread r) = bitio.stands_after_lem at r
stands_after_lem at NoScale = at
stands_after_lem at (NotFinite position) = position
stands_after_lem at NoSuchWidth = at

-- the same in 64 bits
abbrev pub stands_after64 : Refusal → (at : ℕ) → ℕ
stands_after64 why at = bitio.as64 (stands_after_lem at why)
