-- Three bodies, computed: one deleted id and one item with one field; the same item behind a checksum flag; the same item in padded numbers.
use mathlib.Core.Path.{◌≡◌, refl}
use mathlib.Core.List.{[], ◌∷◌}
use Rattle.std.specs.Prelude.{Some}
use lib.IntN.{pos, negsuc}
use Rattle.bits.specs.Bits.{num, field}
use Rattle.bits.specs.Packed.{after, earlier_byte, fifth_byte, packed_from, packed}
use Rattle.bits.specs.Padded.{padded, padded_among}
use Rattle.bits.specs.TwosComplement.{twos}
use Rattle.fastarray.specs.Body.{window, as_number, lead_width, lead_handle, with_field, on_lead, fields_from, with_item_lem, on_fields, items_from, headed, deleted_from, ended, body_of, fields_of, numbers_of}
use Rattle.fastarray.specs.Parts.{measured_of}
use Rattle.fastarray.specs.Answers.{call, found}
use Rattle.fastarray.specs.declared.ChecksumMode.TheVariants.{Absent, Present}

-- key 7, base key -1, deleted id -2; item 5 with field handle 2, whose 4 bits of payload start at bit 209; the numbers are 3, 4 and the closing 0
pub deleted_and_item : found (call (15 ∷ 0 ∷ 0 ∷ 0 ∷ 254 ∷ 255 ∷ 255 ∷ 255 ∷ 3 ∷ 0 ∷ 0 ∷ 0 ∷ 2 ∷ 0 ∷ 0 ∷ 0 ∷ 252 ∷ 255 ∷ 255 ∷ 255 ∷ 11 ∷ 0 ∷ 0 ∷ 0 ∷ 12 ∷ 16 ∷ 20 ∷ 0 ∷ []) 221 Absent)
    ≡ Some
    (record {
      key = pos 7;
      base_key = negsuc 0;
      deleted = negsuc 1 ∷ [];
      items = record {
        id = 5;
        fields = record { handle = 2; offset = 209; width = 4 } ∷ [];
        numbers = record { start = 193; bytes = 1; value = 3 } ∷ record { start = 201; bytes = 1; value = 4 } ∷ record { start = 213; bytes = 1; value = 0 } ∷ [];
      } ∷ [];
      used = 221;
    })
unfolding found body_of window num field headed ended deleted_from items_from on_fields with_item_lem fields_from on_lead with_field lead_handle lead_width as_number packed packed_from earlier_byte fifth_byte after twos
deleted_and_item = refl

-- the same keys and item, nothing deleted, and a flag of 1 before the fields
pub item_with_flag : found (call (15 ∷ 0 ∷ 0 ∷ 0 ∷ 254 ∷ 255 ∷ 255 ∷ 255 ∷ 1 ∷ 0 ∷ 0 ∷ 0 ∷ 2 ∷ 0 ∷ 0 ∷ 0 ∷ 10 ∷ 0 ∷ 0 ∷ 0 ∷ 26 ∷ 32 ∷ 40 ∷ 0 ∷ []) 190 Present)
    ≡ Some
    (record {
      key = pos 7;
      base_key = negsuc 0;
      deleted = [];
      items = record {
        id = 5;
        fields = record { handle = 2; offset = 178; width = 4 } ∷ [];
        numbers = record { start = 162; bytes = 1; value = 3 } ∷ record { start = 170; bytes = 1; value = 4 } ∷ record { start = 182; bytes = 1; value = 0 } ∷ [];
      } ∷ [];
      used = 190;
    })
unfolding found body_of window num field headed ended deleted_from items_from on_fields with_item_lem fields_from on_lead with_field lead_handle lead_width as_number packed packed_from earlier_byte fifth_byte after twos
item_with_flag = refl

-- the same keys and item, nothing deleted, no flag; handle, width and closing zero in two bytes each where one would do
pub item_padded : measured_of (found (call (15 ∷ 0 ∷ 0 ∷ 0 ∷ 254 ∷ 255 ∷ 255 ∷ 255 ∷ 1 ∷ 0 ∷ 0 ∷ 0 ∷ 2 ∷ 0 ∷ 0 ∷ 0 ∷ 10 ∷ 0 ∷ 0 ∷ 0 ∷ 14 ∷ 0 ∷ 18 ∷ 0 ∷ 32 ∷ 0 ∷ 0 ∷ []) 213 Absent))
    ≡ Some (record { key = pos 7; base = negsuc 0; deletes = 0; changes = 1; fields = 1; used = 213; padded = 3 })
unfolding measured_of found body_of window num field headed ended deleted_from items_from on_fields with_item_lem fields_from on_lead with_field lead_handle lead_width as_number packed packed_from earlier_byte fifth_byte after twos fields_of numbers_of padded_among padded
item_padded = refl
