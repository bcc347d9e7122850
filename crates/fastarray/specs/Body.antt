-- The fast-array body (01, Fast-array body; the header of fastarray.rs). It fills its window of bits exactly:
--
--     body    = support bit (1), key, base key, deletes, changes, deleted id * deletes, item * changes
--     item    = id, checksum flag (one bit, in present mode only), field*, the packed number 0
--     field   = handle + 1 (packed), width (packed), `width` bits of payload
--
-- Keys, counts and ids are i32. The window is a number W of len bits.
use Rattle.std.specs.Prelude.{ℕ, zero, suc, ◌+◌, ◌-◌, ◌*◌, ◌^◌, Bool, ◌&&◌, List, [], ◌∷◌, ◌++◌, leb, ltb, eqb, ℤ, Option, None, Some, if◌then◌else◌, Ok, Err}
use Rattle.bits.specs.Bits.{num, field}
use Rattle.bits.specs.Packed.{Packed, packed, Number}
use Rattle.bits.specs.TwosComplement.{twos}
use Rattle.fastarray.specs.declared.ChecksumMode.{ChecksumMode}
use Rattle.fastarray.specs.declared.ChecksumMode.TheVariants.{Absent, Present}

-- the first `bits` bits of the bytes as a number
unfoldable pub window : List ℕ → (bits : ℕ) → ℕ
window s bits = field (num s) 0 bits

-- ---- numbers

-- the bit behind it
abbrev pub number_end : Number → ℕ
number_end x = x.start + 8 * x.bytes

unfoldable pub as_number : (p : ℕ) → Packed → Option Number
as_number p (Ok x) = Some (record { start = p; bytes = x.bytes; value = x.value })
as_number p (Err why) = None

-- the packed number at bit p, if one can be read
abbrev pub packed_at : (W len p : ℕ) → Option Number
packed_at W len p = as_number p (packed W len p)

-- ---- fields

-- offset: the payload's first bit, counted from the body's first
pub record RawField : Type 0 where
  pub handle : ℕ
  pub offset : ℕ
  pub width : ℕ

-- Where a handle number is due: what can't be read, or a payload that passes the window; the number 0; or one more than a handle, and a width
-- behind it.
pub data Lead : Type 0 where
  breaks : Lead
  closes : (handle : Number) → Lead
  opens : (handle width : Number) → Lead

unfoldable pub lead_width : (len : ℕ) (handle : Number) → Option Number → Lead
lead_width len h None = breaks
lead_width len h (Some w) = if leb (number_end w + w.value) len then opens h w else breaks

unfoldable pub lead_handle : (W len : ℕ) → Option Number → Lead
lead_handle W len None = breaks
lead_handle W len (Some h) = if eqb h.value 0 then closes h else lead_width len h (packed_at W len (number_end h))

abbrev pub lead_at : (W len p : ℕ) → Lead
lead_at W len p = lead_handle W len (packed_at W len p)

abbrev pub raw_field : (handle width : Number) → RawField
raw_field h w = record { handle = h.value - 1; offset = number_end w; width = w.value }

-- an item's fields, the bit behind the closing zero, and the numbers read: handles, widths and that zero, of which the padded ones are counted
pub record Stream : Type 0 where
  pub fields : List RawField
  pub numbers : List Number
  pub next : ℕ

abbrev pub closing_stream : (handle : Number) → Stream
closing_stream h = record { fields = []; numbers = h ∷ []; next = number_end h }

abbrev pub before : (handle width : Number) → Stream → Stream
before h w r = record { fields = raw_field h w ∷ r.fields; numbers = h ∷ w ∷ r.numbers; next = r.next }

unfoldable pub with_field : (handle width : Number) → Option Stream → Option Stream
with_field h w None = None
with_field h w (Some r) = Some (before h w r)

unfoldable pub on_lead : Lead → (rest : (p : ℕ) → Option Stream) → Option Stream
on_lead breaks rest = None
on_lead (closes h) rest = Some (closing_stream h)
on_lead (opens h w) rest = with_field h w (rest (number_end w + w.value))

-- The fields from bit p on, of which there are fewer than `most`: a bound for the recursion, no limit of the format.
unfoldable pub fields_from : (most W len p : ℕ) → Option Stream
fields_from zero W len p = None
fields_from (suc most) W len p = on_lead (lead_at W len p) (λ next. fields_from most W len next)

-- The fields from bit p on. Each takes 16 bits at least, so there are fewer than bits left, and a larger bound gives the same (`fields_enough`
-- in proofs/FieldLaws).
abbrev pub fields_at : (W len p : ℕ) → Option Stream
fields_at W len p = fields_from (len - p) W len p

-- ---- items

-- id: its 32 bits
pub record Item : Type 0 where
  pub id : ℕ
  pub fields : List RawField
  pub numbers : List Number

-- some items, and the bit behind them
pub record Items : Type 0 where
  pub items : List Item
  pub next : ℕ

abbrev pub item : (id : ℕ) → Stream → Item
item id st = record { id = id; fields = st.fields; numbers = st.numbers }

unfoldable pub with_item_lem : Item → Option Items → Option Items
with_item_lem x None = None
with_item_lem x (Some r) = Some (record { items = x ∷ r.items; next = r.next })

unfoldable pub on_fields : (id : ℕ) → Option Stream → (rest : (p : ℕ) → Option Items) → Option Items
on_fields id None rest = None
on_fields id (Some st) rest = with_item_lem (item id st) (rest st.next)

-- the flag is stepped past; its value says nothing
abbrev pub flag_bits_lem : ChecksumMode → ℕ
flag_bits_lem Absent = 0
flag_bits_lem Present = 1

-- `count` items from bit p on; flag: the bits between an id and its fields
unfoldable pub items_from : (count flag W len p : ℕ) → Option Items
items_from zero flag W len p = Some (record { items = []; next = p })
items_from (suc count) flag W len p =
    if leb (p + (32 + flag)) len
    then on_fields (field W p 32) (fields_at W len (p + (32 + flag))) (λ next. items_from count flag W len next) else None

-- ---- the body

-- where the four words behind the support bit start, and what follows them
abbrev pub key_bit : ℕ
key_bit = 1

abbrev pub base_bit : ℕ
base_bit = 33

abbrev pub deletes_bit : ℕ
deletes_bit = 65

abbrev pub changes_bit : ℕ
changes_bit = 97

abbrev pub header_bits : ℕ
header_bits = 129

-- the 32 bits at bit p as an i32
abbrev pub signed_at : (W p : ℕ) → ℤ
signed_at W p = twos 32 (field W p 32)

-- the two counts, where they are not negative
abbrev pub deletes : (W : ℕ) → ℕ
deletes W = field W deletes_bit 32

abbrev pub changes : (W : ℕ) → ℕ
changes W = field W changes_bit 32

abbrev pub not_negative_lem : (count : ℕ) → Bool
not_negative_lem n = ltb n (2 ^ 31)

-- an item takes its id, the flag and the closing zero at least
abbrev pub least_bits : (flag W : ℕ) → ℕ
least_bits flag W = 32 * deletes W + (40 + flag) * changes W

-- what the header asks of a body
unfoldable pub headed : (flag W len : ℕ) → Bool
headed flag W len =
    leb header_bits len
    && (eqb (field W 0 1) 1 && (not_negative_lem (deletes W) && (not_negative_lem (changes W) && leb (header_bits + least_bits flag W) len)))

unfoldable pub deleted_from : (count W p : ℕ) → List ℤ
deleted_from zero W p = []
deleted_from (suc count) W p = signed_at W p ∷ deleted_from count W (p + 32)

pub record Body : Type 0 where
  pub key : ℤ
  pub base_key : ℤ
  pub deleted : List ℤ
  pub items : List Item
  pub used : ℕ

-- the items have to use all bits
unfoldable pub ended : (W len : ℕ) → Option Items → Option Body
ended W len None = None
ended W len (Some r) =
    if eqb r.next len
    then Some (record { key = signed_at W key_bit; base_key = signed_at W base_bit; deleted = deleted_from (deletes W) W header_bits; items = r.items; used = r.next })
    else None

-- the body that the len bits of W are, if they are one
unfoldable pub body_of : (flag W len : ℕ) → Option Body
body_of flag W len =
    if headed flag W len then ended W len (items_from (changes W) flag W len (header_bits + 32 * deletes W)) else None

-- all fields of some items, and all packed numbers
unfoldable pub fields_of : List Item → List RawField
fields_of [] = []
fields_of (x ∷ l) = x.fields ++ fields_of l

unfoldable pub numbers_of : List Item → List Number
numbers_of [] = []
numbers_of (x ∷ l) = x.numbers ++ numbers_of l
