-- What `decode_fast_array_delta` answers and what it leaves in the lent buffers, as functions of the call's inputs alone.
use Rattle.std.specs.Prelude.{ℕ, ◌/◌, ◌≡◌, Bool, ◌&&◌, List, [], length, leb, ltb, eqb, ℤ, Option, None, Some, Result, Ok, Err, if◌then◌else◌}
use Rattle.bits.specs.Runs.{bytes_for, filled}
use Rattle.bits.specs.Sizes.{longest_window}
use Rattle.fastarray.specs.Body.{window, flag_bits_lem, Item, Body, body_of, fields_of}
use Rattle.fastarray.specs.Records.{item_words, item_record, field_words, field_record, records}
use Rattle.fastarray.specs.Parts.{delta_of, need_of}
use Rattle.fastarray.specs.declared.ChecksumMode.{ChecksumMode}
use Rattle.fastarray.specs.declared.Delta.{Delta}
use Rattle.fastarray.specs.declared.Refusal.{Refusal}
use Rattle.fastarray.specs.declared.Refusal.TheVariants.{TooLong, NotFastArray, Short}

pub record Call : Type 0 where
  pub bytes : List ℕ
  pub bits : ℕ
  pub mode : ChecksumMode

abbrev pub call : (bytes : List ℕ) (bits : ℕ) → ChecksumMode → Call
call s n m = record { bytes = s; bits = n; mode = m }

pub record Lent : Type 0 where
  pub deleted : List ℤ
  pub items : List ℕ
  pub fields : List ℕ

abbrev pub lent : (deleted : List ℤ) (items fields : List ℕ) → Lent
lent d i f = record { deleted = d; items = i; fields = f }

-- the body that the bytes hold; as many bytes as the bits take, no more and no fewer
unfoldable pub found : Call → Option Body
found c = if eqb (length c.bytes) (bytes_for c.bits) then body_of (flag_bits_lem c.mode) (window c.bytes c.bits) c.bits else None

-- room for so many records in buffers of these lengths: only whole records count, and a ragged end is never written
unfoldable pub room_for : (deletes items fields : ℕ) → (deletedLen itemsLen fieldsLen : ℕ) → Bool
room_for d i f dl il fl = leb d dl && (leb i (il / item_words) && leb f (fl / field_words))

abbrev pub fits_in : Body → Lent → Bool
fits_in b l =
    room_for (length b.deleted) (length b.items) (length (fields_of b.items)) (length l.deleted) (length l.items) (length l.fields)

-- refusals 6 and 3
unfoldable pub decided : Option Body → Lent → Result Delta Refusal
decided None l = Err NotFastArray
decided (Some b) l = if fits_in b l then Ok (delta_of b) else Err (Short (need_of b))

-- refusal 1 comes before them
unfoldable pub answer : Call → Lent → Result Delta Refusal
answer c l = if ltb longest_window c.bits then Err TooLong else decided (found c) l

-- a buffer at the end: the new contents and behind them what was lent; if the call is refused, what was lent
unfoldable pub at_exit : {A : Type 0} → Result Delta Refusal → (new lent : List A) → List A
at_exit (Ok d) new lent = filled new lent
at_exit (Err e) new lent = lent

unfoldable pub deleted_in : Option Body → List ℤ
deleted_in None = []
deleted_in (Some b) = b.deleted

unfoldable pub items_in : Option Body → List Item
items_in None = []
items_in (Some b) = b.items

abbrev pub final_deleted : Call → Lent → List ℤ
final_deleted c l = at_exit (answer c l) (deleted_in (found c)) l.deleted

abbrev pub final_items : Call → Lent → List ℕ
final_items c l = at_exit (answer c l) (records item_record (items_in (found c))) l.items

abbrev pub final_fields : Call → Lent → List ℕ
final_fields c l = at_exit (answer c l) (records field_record (fields_of (items_in (found c)))) l.fields

-- the contract: r is the answer, and `end` what the buffers hold at the exit
pub record Answered (c : Call) (l : Lent) (r : Result Delta Refusal) (end : Lent) : Type 0 where
  pub says : r ≡ answer c l
  pub deleted : end.deleted ≡ final_deleted c l
  pub items : end.items ≡ final_items c l
  pub fields : end.fields ≡ final_fields c l
