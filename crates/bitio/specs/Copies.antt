-- `copy_bits_to`, a copy of n bits to a lent buffer d, from its first byte on: 14 for a bad cursor, then 14 if d has fewer bytes than n bits
-- take, then 7 (01, Refusal numbers).
use Rattle.std.specs.Prelude.{◌≡◌, ℕ, ◌+◌, List, length, nat_lt, if◌then◌else◌, Result, Ok, Err}
use Rattle.bits.specs.Bits.{field}
use Rattle.bits.specs.Runs.{bytes_of, bytes_for, put}
use Rattle.bitio.specs.Cursors.{bits_of, window, at_cursor, asking}
use Rattle.bitio.specs.declared.Cursor.{Cursor}
use Rattle.bitio.specs.declared.Refusal.{Refusal}
use Rattle.bitio.specs.declared.Refusal.TheVariants.{Past}

abbrev pub copy_answer : List ℕ → Cursor → (n : ℕ) → (d : List ℕ) → Result ℕ Refusal
copy_answer s c n d =
    at_cursor s c (λ W. if nat_lt (length d) (bytes_for n) then Err (Past n (bits_of d)) else asking c.len c.pos n (Ok (c.pos + n)))

-- the buffer afterwards: the bits x as bytes, zeros above them in the last one, the rest unchanged; all unchanged after a refusal
unfoldable pub pasted : (d : List ℕ) (n x : ℕ) → Result ℕ Refusal → List ℕ
pasted d n x (Ok next) = put d 0 (bytes_of (bytes_for n) x)
pasted d n x (Err r) = d

abbrev pub copy_target : List ℕ → Cursor → (n : ℕ) → (d : List ℕ) → List ℕ
copy_target s c n d = pasted d n (field (window s c) c.pos n) (copy_answer s c n d)

-- the contract: what is answered, and what the buffer holds at the exit
abbrev pub CopiesBits : List ℕ → Cursor → (n : ℕ) → (d : List ℕ) → Result ℕ Refusal → (end : List ℕ) → Type 0
CopiesBits s c n d r end = (r ≡ copy_answer s c n d) × (end ≡ copy_target s c n d)
