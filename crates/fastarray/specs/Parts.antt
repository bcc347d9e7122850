-- What the inner functions say of the parts of a body: what the code's types hold, and what a reading leaves in the lent buffers.
use Rattle.std.specs.Prelude.{ℕ, ◌+◌, ◌-◌, ◌*◌, ◌≡◌, List, [], ◌∷◌, length, Option, None, Some}
use Rattle.bits.specs.Packed.{Number}
use Rattle.bits.specs.Padded.{padded, once, padded_among}
use Rattle.fastarray.specs.Body.{number_end, Lead, breaks, closes, opens, Stream, Items, Body, fields_of, numbers_of}
use Rattle.fastarray.specs.Records.{item_words, item_record, field_words, field_record, store_all}
use Rattle.fastarray.specs.declared.Delta.{Delta}
use Rattle.fastarray.specs.declared.Need.{Need}
use Rattle.fastarray.specs.declared.Taken.{Taken}
use Rattle.fastarray.specs.declared.Reached.{Reached}
use Rattle.fastarray.specs.declared.FieldHead.{FieldHead}
use Rattle.fastarray.specs.declared.FieldHead.TheVariants as H

unfoldable pub taken_of : Option Number → Option Taken
taken_of None = None
taken_of (Some x) = Some (record { value = x.value; bytes = x.bytes })

-- what a value in so many bytes adds to the count of padded numbers
abbrev pub padded_one_lem : (value bytes : ℕ) → ℕ
padded_one_lem v n = once (padded v n)

-- before: how many of the numbers before these are padded
unfoldable pub head_of : (before : ℕ) → Lead → Option FieldHead
head_of before breaks = None
head_of before (closes h) = Some (H.Closes (number_end h) (before + padded_among (h ∷ [])))
head_of before (opens h w) = Some (H.Opens (h.value - 1) (number_end w) w.value (before + padded_among (h ∷ w ∷ [])))

-- slot: the fields before these
unfoldable pub fields_read_of : (slot before : ℕ) → Option Stream → Option Reached
fields_read_of slot before None = None
fields_read_of slot before (Some r) =
    Some (record { fields = slot + length r.fields; next = r.next; padded = before + padded_among r.numbers })

unfoldable pub items_read_of : (slot before : ℕ) → Option Items → Option Reached
items_read_of slot before None = None
items_read_of slot before (Some r) =
    Some (record { fields = slot + length (fields_of r.items); next = r.next; padded = before + padded_among (numbers_of r.items) })

abbrev pub delta_of : Body → Delta
delta_of b =
    record {
      key = b.key;
      base = b.base_key;
      deletes = length b.deleted;
      changes = length b.items;
      fields = length (fields_of b.items);
      used = b.used;
      padded = padded_among (numbers_of b.items);
    }

-- what the body needs of the lent buffers
abbrev pub need_of : Body → Need
need_of b = record { deletes = length b.deleted; items = length b.items; fields = length (fields_of b.items) }

unfoldable pub measured_of : Option Body → Option Delta
measured_of None = None
measured_of (Some b) = Some (delta_of b)

-- What a reading leaves, from d to e: where it succeeds, each record is stored; where it does not, the caller uses nothing of it.
unfoldable pub FieldsStored : Option Stream → (d : List ℕ) (slot : ℕ) (e : List ℕ) → Type 0
FieldsStored None d slot e = Unit
FieldsStored (Some r) d slot e = e ≡ store_all field_record d (field_words * slot) r.fields

-- done, slot: the items and fields before these
unfoldable pub ItemsStored : Option Items → (done slot : ℕ) (items fields items' fields' : List ℕ) → Type 0
ItemsStored None done slot di df ei ef = Unit
ItemsStored (Some r) done slot di df ei ef =
    (ei ≡ store_all item_record di (item_words * done) r.items) × (ef ≡ store_all field_record df (field_words * slot) (fields_of r.items))
