-- Bits outside the window alter nothing: the body is found in the window's number and the number of bytes alone.
use Rattle.std.specs.Prelude.{Option, None, Result, Err, if◌then◌else◌}
use Prim.Native.Nat.{ℕ, ◌+◌, ◌<◌}
use mathlib.Core.Path.{◌≡◌, refl, ap, ap₂}
use mathlib.Core.List.{List}
use lib.ListN.{length}
use lib.Dec.{ltb, eqb}
use borrow.Author.Tests.{ne_eqb}
use Rattle.bits.specs.Bits.{num, field}
use Rattle.bits.specs.Runs.{bytes_for}
use Rattle.bits.proofs.FieldLaws.{field_same}
use Rattle.bits.specs.Sizes.{longest_window}
use Rattle.fastarray.specs.Body.{window, flag_bits_lem, Body, body_of, fields_of}
use Rattle.fastarray.specs.Records.{item_record, field_record, records}
use Rattle.fastarray.specs.Answers.{call, Lent, found, decided, answer, at_exit, deleted_in, items_in, final_deleted, final_items, final_fields}
use Rattle.fastarray.specs.declared.ChecksumMode.{ChecksumMode}
use Rattle.fastarray.specs.declared.Delta.{Delta}
use Rattle.fastarray.specs.declared.Refusal.{Refusal}
use Rattle.fastarray.specs.declared.Refusal.TheVariants.{TooLong}

-- Two calls that find the same body, or both none, have the same answer and leave the same buffers.
module _ (s t : List ℕ) (n : ℕ) (m : ChecksumMode) (same : found (call s n m) ≡ found (call t n m)) where
  pub outside_answer : (l : Lent) → answer (call s n m) l ≡ answer (call t n m) l
  unfolding answer
  outside_answer l = ap (λ (o : Option Body). if ltb longest_window n then Err TooLong else decided o l) same

  pub outside_buffers : (l : Lent)
      → (final_deleted (call s n m) l ≡ final_deleted (call t n m) l) × (final_items (call s n m) l ≡ final_items (call t n m) l)
      × (final_fields (call s n m) l ≡ final_fields (call t n m) l)
  outside_buffers l = (
    ap₂ (λ (r : Result Delta Refusal) (o : Option Body). at_exit r (deleted_in o) l.deleted) (outside_answer l) same,
    ap₂ (λ (r : Result Delta Refusal) (o : Option Body). at_exit r (records item_record (items_in o)) l.items) (outside_answer l) same,
    ap₂ (λ (r : Result Delta Refusal) (o : Option Body). at_exit r (records field_record (fields_of (items_in o))) l.fields) (outside_answer l) same,
  )

-- The padding bits of the last byte alter nothing: as many bytes with the same first n bits hold the same body.
pub outside_found : (s t : List ℕ) (n : ℕ) (m : ChecksumMode) → length s ≡ length t
    → ((k : ℕ) → k < n → field (num s) (0 + k) 1 ≡ field (num t) (0 + k) 1) → found (call s n m) ≡ found (call t n m)
unfolding found window
outside_found s t n m same bits =
    ap₂ (λ (j W : ℕ). if eqb j (bytes_for n) then body_of (flag_bits_lem m) W n else None) same (field_same (num s) (num t) 0 0 n bits)

-- More or fewer bytes than the bits take hold none, whatever they are.
pub none_found : (s t : List ℕ) (n : ℕ) (m : ChecksumMode) → (length s ≡ bytes_for n → ⊥) → (length t ≡ bytes_for n → ⊥)
    → found (call s n m) ≡ found (call t n m)
unfolding found
none_found s t n m hs ht = rw (ne_eqb (length s) (bytes_for n) hs, ne_eqb (length t) (bytes_for n) ht) refl
