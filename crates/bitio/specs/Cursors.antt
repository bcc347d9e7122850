-- Cursors: when one is good, the window that it stands in, and what every call makes of a bad one (01, Bits and numbers; Refusal numbers).
use Rattle.std.specs.Prelude.{ℕ, ◌+◌, ◌-◌, ◌*◌, ◌^◌, min, Bool, ◌&&◌, ltb, List, length, ◌==◌, nat_le, nat_lt, if◌then◌else◌, Result, Ok, Err}
use Rattle.bits.specs.Bits.{num, field}
use Rattle.bits.specs.Sizes.{longest_window}
use Rattle.bitio.specs.declared.Cursor.{Cursor}
use Rattle.bitio.specs.declared.Refusal.{Refusal}
use Rattle.bitio.specs.declared.Refusal.TheVariants.{TooLong, TooFew, Past}
use Rattle.bitio.specs.declared.Read.{Read}

-- the bits that the bytes hold: 8 times their number, or the largest u64 where that is less
abbrev pub bits_of : List ℕ → ℕ
bits_of s = min (8 * length s) (2 ^ 64 - 1)

-- the cursor lies in its length, and its window in the bytes
unfoldable pub good : List ℕ → Cursor → Bool
good s c = nat_le c.pos c.len && nat_le (c.start + c.len) (bits_of s)

-- the window as a number: its bit k is bit start + k of the bytes
unfoldable pub window : List ℕ → Cursor → ℕ
window s c = field (num s) c.start c.len

-- what a bad cursor gets: its length as the bits asked, also where the bytes hold that many and its position or start is at fault
abbrev pub bad_cursor_lem : List ℕ → Cursor → Refusal
bad_cursor_lem s c = Past c.len (bits_of s)

-- What a call answers: 14 for a bad cursor, before all else; else what `inside` makes of the window.
unfoldable pub at_cursor : {A : Type 0} → List ℕ → Cursor → (inside : (W : ℕ) → Result A Refusal) → Result A Refusal
at_cursor s c inside = if good s c then inside (window s c) else Err (bad_cursor_lem s c)

-- the same of a call that makes nothing of the window
abbrev pub good_or_refused_lem : List ℕ → Cursor → Result (Unit {0}) Refusal
good_or_refused_lem s c = at_cursor s c (λ W. Ok tt)

-- Where n bits are asked at bit pos of len: 7 if there are fewer; else `enough`. Positions count from the window's first bit.
unfoldable pub asking : {A : Type 0} → (len pos n : ℕ) → (enough : Result A Refusal) → Result A Refusal
asking len pos n enough = if nat_lt len (pos + n) then Err (TooFew pos len n) else enough

-- `open`, a reader of the first n bits: 1 if that is too long, then 14 if the bytes hold fewer
unfoldable pub opened : List ℕ → (n : ℕ) → Result Cursor Refusal
opened s n =
    if nat_lt longest_window n then Err TooLong else
    (if ltb (bits_of s) n then Err (Past n (bits_of s)) else Ok (record { start = 0; pos = 0; len = n }))

-- `new`, a reader of all bits, however many: no bit count is given, and none is refused
abbrev pub whole_of : List ℕ → Cursor
whole_of s = record { start = 0; pos = 0; len = bits_of s }

-- what a reader says of itself: `position`, `len_bits`, `bits_remaining`, `at_end`
abbrev pub position_of : List ℕ → Cursor → Result ℕ Refusal
position_of s c = at_cursor s c (λ W. Ok c.pos)

abbrev pub length_of : List ℕ → Cursor → Result ℕ Refusal
length_of s c = at_cursor s c (λ W. Ok c.len)

abbrev pub remaining_of : List ℕ → Cursor → Result ℕ Refusal
remaining_of s c = at_cursor s c (λ W. Ok (c.len - c.pos))

abbrev pub end_of : List ℕ → Cursor → Result Bool Refusal
end_of s c = at_cursor s c (λ W. Ok (c.pos == c.len))

-- `skip_bits`, past the next n bits, and `skip_remaining`, past all that are left
abbrev pub skipped : List ℕ → Cursor → (n : ℕ) → Result ℕ Refusal
skipped s c n = at_cursor s c (λ W. asking c.len c.pos n (Ok (c.pos + n)))

abbrev pub skipped_all : List ℕ → Cursor → Result ℕ Refusal
skipped_all s c = at_cursor s c (λ W. Ok c.len)

-- the x that stands in the bits that were skipped, and the position past them
unfoldable pub seen : {A : Type 0} → (x : A) → Result ℕ Refusal → Result (Read A) Refusal
seen x (Ok next) = Ok (record { value = x; next = next })
seen x (Err r) = Err r

-- `sub_reader`, the next n bits as a window of their own, and the position past them
abbrev pub sub_reader_lem : List ℕ → Cursor → (n : ℕ) → Result (Read Cursor) Refusal
sub_reader_lem s c n = seen (record { start = c.start + c.pos; pos = 0; len = n }) (skipped s c n)
