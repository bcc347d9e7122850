-- Cursors from C, and the answers of the bit reader as structs for C: the refusal's number and values, or zeros; the value read, or 0; where the
-- cursor stands, refused or not; of a packed number also its bytes and whether it is padded, of a refused one 0 and no.
use Rattle.std.specs.Prelude.{◌≡◌, ℕ, false, Result, Ok, Err}
use Rattle.bits.specs.Refusals.{Numbered}
use Rattle.bitio.specs.Refusals.{numbered, stands_after_lem, as64}
use Rattle.bitio.specs.declared.Cursor.{Cursor}
use Rattle.bitio.specs.declared.PackedNumber.{PackedNumber}
use Rattle.bitio.specs.declared.Read.{Read}
use Rattle.bitio.specs.declared.Refusal.{Refusal}
use Rattle.exports.specs.declared.VrfCursor.{VrfCursor}
use Rattle.exports.specs.declared.VrfPacked.{VrfPacked}
use Rattle.exports.specs.declared.VrfRead.{VrfRead}

abbrev pub cursor_of_lem : VrfCursor → Cursor
cursor_of_lem c = record { start = c.start; pos = c.pos; len = c.len }

abbrev pub read_value_lem : (value position : ℕ) → VrfRead
read_value_lem x p = record { refusal = 0; first = 0; second = 0; third = 0; value = x; position = p }

abbrev pub refused_at : (number first second third position : ℕ) → VrfRead
refused_at n a b c p = record { refusal = n; first = a; second = b; third = c; value = 0; position = p }

abbrev pub refused_read : Numbered → (stands : ℕ) → VrfRead
refused_read n p = refused_at n.number n.first n.second n.third (as64 p)

abbrev pub packed_value_lem : PackedNumber → (position : ℕ) → VrfPacked
packed_value_lem x p =
    record { refusal = 0; first = 0; second = 0; third = 0; value = x.value; position = p; bytes = x.bytes; padded = x.padded }

abbrev pub no_packed_lem : VrfRead → VrfPacked
no_packed_lem r =
    record {
      refusal = r.refusal;
      first = r.first;
      second = r.second;
      third = r.third;
      value = 0;
      position = r.position;
      bytes = 0;
      padded = false;
    }

-- ---- the answers of calls at a cursor that stood at `at`

-- of `read_bits` and `read_serialized_int`
abbrev pub read_result : (at : ℕ) → Result (Read ℕ) Refusal → VrfRead
read_result at (Ok x) = read_value_lem x.value x.next
read_result at (Err r) = refused_read (numbered r) (stands_after_lem at r)

-- a number that a value converts to
abbrev pub NumberRead : (converts : ℕ → Type 0) → (next : ℕ) → VrfRead → Type 0
NumberRead converts next r = (n : ℕ) × converts n × (r ≡ read_value_lem n next)

abbrev pub packed_result : (at : ℕ) → Result (Read PackedNumber) Refusal → VrfPacked
packed_result at (Ok x) = packed_value_lem x.value x.next
packed_result at (Err r) = no_packed_lem (refused_read (numbered r) (stands_after_lem at r))

abbrev pub copy_result : (at : ℕ) → Result ℕ Refusal → VrfRead
copy_result at (Ok p) = read_value_lem 0 p
copy_result at (Err r) = refused_read (numbered r) (stands_after_lem at r)
