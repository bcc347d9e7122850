-- The format of an array as a grammar: what array.rs says of it in its header, 01's sizes, and the trailer of 01's rule 3. No step of a walker is
-- mentioned.
--
-- An array is a packed number, its count; then elements; then a zero, behind which a trailer may stand. An element is a packed number, its index
-- and one; then fields; then a zero. A field is a packed number, its handle and one; a packed number, the width of its payload in bits; and the
-- payload, which the schema may call an array.
use Rattle.std.specs.Prelude.{ℕ, zero, suc, ◌+◌, ◌*◌, ◌/◌, ◌%◌, ◌^◌, ◌≤◌, ◌<◌, Bool, true, false, List, [], ◌∷◌}
use Rattle.bits.specs.Sizes.{trailer_bits}

-- ---- bits, the first bit lowest

pub record Bits : Type 0 where
  pub number : ℕ
  pub size : ℕ

abbrev pub no_bits_lem : Bits
no_bits_lem = record { number = 0; size = 0 }

-- b behind a
infixr 5 ◌then◌
abbrev pub ◌then◌ : Bits → Bits → Bits
a then b = record { number = a.number + 2 ^ a.size * b.number; size = a.size + b.size }

-- ---- packed numbers: a value, in one of its accepted lengths

pub record Num : Type 0 where
  pub value : ℕ
  pub bytes : ℕ

-- groups of seven bits, the lowest first, each above a bit that says whether another follows
unfoldable pub packed_bits : (bytes value : ℕ) → ℕ
packed_bits zero v = 0
packed_bits (suc zero) v = 2 * v
packed_bits (suc (suc n)) v = 2 * (v % 2 ^ 7) + 1 + 2 ^ 8 * packed_bits (suc n) (v / 2 ^ 7)

abbrev pub num_bits : Num → Bits
num_bits n = record { number = packed_bits n.bytes n.value; size = 8 * n.bytes }

pub record IsNum (n : Num) : Type 0 where
  pub some : 1 ≤ n.bytes
  pub most : n.bytes ≤ 5
  pub fits : n.value < 2 ^ (7 * n.bytes)
  pub word : n.value < 2 ^ 32

-- ---- fields, elements, arrays, over what a payload is

pub record Field (P : Type 0) : Type 0 where
  pub handle : Num  -- one more than the handle
  pub width : Num
  pub payload : P

pub record Element (P : Type 0) : Type 0 where
  pub index : Num  -- one more than the index
  pub fields : List (Field P)
  pub close : Num

pub record Array (P : Type 0) : Type 0 where
  pub count : Num
  pub elements : List (Element P)
  pub close : Num
  pub trailer : Bool  -- a zero of the trailer's bits behind the terminator

module _ {P : Type 0} (bits_of : P → Bits) where
  abbrev pub field_bits : Field P → Bits
  field_bits f = num_bits f.handle then num_bits f.width then bits_of f.payload

  abbrev pub fields_bits : List (Field P) → Bits
  fields_bits [] = no_bits_lem
  fields_bits (f ∷ fs) = field_bits f then fields_bits fs

  abbrev pub element_bits : Element P → Bits
  element_bits e = num_bits e.index then fields_bits e.fields then num_bits e.close

  abbrev pub elements_bits : List (Element P) → Bits
  elements_bits [] = no_bits_lem
  elements_bits (e ∷ es) = element_bits e then elements_bits es

  abbrev pub trailing : Bool → Bits
  trailing true = record { number = 0; size = trailer_bits }
  trailing false = no_bits_lem

  abbrev pub array_bits : Array P → Bits
  array_bits a = num_bits a.count then elements_bits a.elements then num_bits a.close then trailing a.trailer
