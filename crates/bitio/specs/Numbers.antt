-- Reads whose width depends on what is read: the packed number and the serialized integer (01, Bits and numbers).
use Rattle.std.specs.Prelude.{ℕ, zero, suc, ◌+◌, ◌*◌, ◌/◌, ◌^◌, List, ◌==◌, nat_le, if◌then◌else◌, Result, Ok, Err}
use Rattle.bits.specs.Bits.{field}
use Rattle.bits.specs.Packed.{Packed, packed}
use Rattle.bits.specs.Padded.{padded}
use Rattle.bits.specs.declared.Broken.TheVariants as Num
use Rattle.bitio.specs.Cursors.{at_cursor, asking}
use Rattle.bitio.specs.declared.Cursor.{Cursor}
use Rattle.bitio.specs.declared.Refusal.{Refusal}
use Rattle.bitio.specs.declared.Refusal.TheVariants.{TooFew, GoesOn, Overflows, NoMaximum}
use Rattle.bitio.specs.declared.PackedNumber.{PackedNumber}
use Rattle.bitio.specs.declared.Read.{Read}

-- a packed number that was read: its value in so many bytes, and whether these are more than it needs
abbrev pub packed_number : (v n : ℕ) → PackedNumber
packed_number v n = record { value = v; bytes = n; padded = padded v n }

-- A packed number that starts at bit pos of len. Cut short, it asks 8 bits after its whole bytes; 8 and 9 give its start.
unfoldable pub packed_answer : (len pos : ℕ) → Packed → Result (Read PackedNumber) Refusal
packed_answer len pos (Ok x) = Ok (record { value = packed_number x.value x.bytes; next = pos + 8 * x.bytes })
packed_answer len pos (Err (Num.Cut n)) = Err (TooFew (pos + 8 * n) len 8)
packed_answer len pos (Err Num.GoesOn) = Err (GoesOn pos)
packed_answer len pos (Err Num.Overflows) = Err (Overflows pos)

-- `read_int_packed`
abbrev pub read_int_packed_lem : List ℕ → Cursor → Result (Read PackedNumber) Refusal
read_int_packed_lem s c = at_cursor s c (λ W. packed_answer c.len c.pos (packed W c.len c.pos))

-- how often a number from 1 on can be halved, at most k times, until it is 1
unfoldable pub halvings : (k n : ℕ) → ℕ
halvings zero n = 0
halvings (suc k) n = if nat_le n 1 then 0 else suc (halvings k (n / 2))

-- the logarithm to the base 2, rounded down, of a u32 above 0
unfoldable pub log2 : ℕ → ℕ
log2 n = halvings 32 n

-- A serialized integer below m, whose low b bits v stand before pos: the next bit, worth 2 ^ b, is read only where the sum would still be below
-- m.
unfoldable pub serialized_top : (W len m b v pos : ℕ) → Result (Read ℕ) Refusal
serialized_top W len m b v pos =
    if nat_le m (v + 2 ^ b) then Ok (record { value = v; next = pos }) else
    asking len pos 1 (Ok (record { value = v + field W pos 1 * 2 ^ b; next = pos + 1 }))

-- 10 for the maximum 0, before any read; else as many low bits as log2 m, then, where the maximum leaves it open, the top bit
unfoldable pub serialized_at : (W len m pos : ℕ) → Result (Read ℕ) Refusal
serialized_at W len m pos =
    if m == 0 then Err NoMaximum else
    asking len pos (log2 m) (serialized_top W len m (log2 m) (field W pos (log2 m)) (pos + log2 m))

-- `read_serialized_int`
abbrev pub read_serialized_int_lem : List ℕ → Cursor → (m : ℕ) → Result (Read ℕ) Refusal
read_serialized_int_lem s c m = at_cursor s c (λ W. serialized_at W c.len m c.pos)
