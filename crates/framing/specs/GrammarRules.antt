-- Which arrays the grammar allows: 01's limits, indices below the count (rule 3), and what a payload may be in a struct walk (rule 6) and in
-- an object walk (rule 8).
use Rattle.std.specs.Prelude.{ℕ, zero, suc, ◌-◌, ◌^◌, ◌≤◌, ◌<◌, ◌≡◌, Bool, true, ◌&&◌, List, [], ◌∷◌, length, eqb, Option, Some, None}
use Rattle.bits.specs.Sizes.{max_elements, max_fields}
use Rattle.schema.specs.Tables.{child}
use Rattle.framing.specs.Grammar.{Bits, no_bits_lem, Num, num_bits, IsNum, Field, Element, Array, array_bits}

-- ---- fields, elements and arrays

abbrev pub Each : {A : Type 0} → (A → Type 0) → List A → Type 0
Each ok [] = Unit
Each ok (x ∷ l) = ok x × Each ok l

-- allowed: the payloads that a field of that handle may have; first: no field before it in its element had a payload
module _ {P : Type 0} (bits_of : P → Bits) (allowed : (first : Bool) (handle : ℕ) → P → Type 0) where
  pub record FieldOk (first : Bool) (f : Field P) : Type 0 where
    pub handle : IsNum f.handle
    pub opens : 1 ≤ f.handle.value
    pub width : IsNum f.width
    pub wide : f.width.value ≡ (bits_of f.payload).size
    pub content : allowed first (f.handle.value - 1) f.payload

  abbrev pub FieldsOk : (first : Bool) → List (Field P) → Type 0
  FieldsOk first [] = Unit
  FieldsOk first (f ∷ fs) = FieldOk first f × FieldsOk (first && eqb f.width.value 0) fs

  pub record ElementOk (count : ℕ) (e : Element P) : Type 0 where
    pub index : IsNum e.index
    pub opens : 1 ≤ e.index.value
    pub below : e.index.value - 1 < count
    pub few : length e.fields ≤ max_fields
    pub fields : FieldsOk true e.fields
    pub close : IsNum e.close
    pub closes : e.close.value ≡ 0

  -- trailer: whether the walk takes one
  pub record ArrayOk (trailer : Bool) (a : Array P) : Type 0 where
    pub count : IsNum a.count
    pub small : a.count.value ≤ max_elements
    pub few : length a.elements ≤ max_elements
    pub elements : Each (ElementOk a.count.value) a.elements
    pub close : IsNum a.close
    pub closes : a.close.value ≡ 0
    pub ends : a.trailer ≡ true → trailer ≡ true

-- ---- what a payload is in a struct walk: plain bits, or an array that fills it

pub data Payload (Inner : Type 0) : Type 0 where
  plain : Bits → Payload Inner
  nested : Inner → Payload Inner

-- a payload with so many levels below it
abbrev pub Content : (deeper : ℕ) → Type 0
Content zero = Payload ⊥
Content (suc deeper) = Payload (Array (Content deeper))

abbrev pub content_bits : (deeper : ℕ) → Content deeper → Bits
content_bits zero (plain b) = b
content_bits zero (nested a) = absurd a
content_bits (suc deeper) (plain b) = b
content_bits (suc deeper) (nested a) = array_bits (content_bits deeper) a

-- plain bits where the schema says no array, or an array without payload
pub data PlainOk (b : Bits) : Option ℕ → Type 0 where
  leaf : PlainOk b None
  empty : {below : ℕ} → b.size ≡ 0 → PlainOk b (Some below)

-- an array where the schema says array; `inside` says what is allowed at the level of its elements
pub data NestedOk (size : ℕ) (inside : (below : ℕ) → Type 0) : Option ℕ → Type 0 where
  array : {below : ℕ} → 1 ≤ size → inside below → NestedOk size inside (Some below)

abbrev pub allowed_in : (deeper : ℕ) (rows : List ℕ) (takes : Bool) (level : ℕ) (first : Bool) (handle : ℕ) → Content deeper → Type 0
allowed_in zero rows takes lvl first h (plain b) = (b.number < 2 ^ b.size) × PlainOk b (child rows lvl h)
allowed_in zero rows takes lvl first h (nested a) = ⊥
allowed_in (suc deeper) rows takes lvl first h (plain b) = (b.number < 2 ^ b.size) × PlainOk b (child rows lvl h)
allowed_in (suc deeper) rows takes lvl first h (nested a) =
    NestedOk (array_bits (content_bits deeper) a).size
    (λ below. ArrayOk (content_bits deeper) (λ f k x. allowed_in deeper rows takes below f k x) takes a) (child rows lvl h)

-- an array of the struct walk, with so many levels below it, whose elements have that level of the schema
abbrev pub IsStructArray : (deeper : ℕ) (rows : List ℕ) (takes : Bool) (level : ℕ) → Array (Content deeper) → Type 0
IsStructArray deeper rows takes lvl a = ArrayOk (content_bits deeper) (λ f k x. allowed_in deeper rows takes lvl f k x) takes a

-- ---- in an object walk: a field is empty, or one packed number that fills its payload; at most one of an element is not empty

pub data Reference : Type 0 where
  no_guid : Reference
  guid : Num → Reference

abbrev pub reference_bits : Reference → Bits
reference_bits no_guid = no_bits_lem
reference_bits (guid n) = num_bits n

abbrev pub reference_in : (first : Bool) (handle : ℕ) → Reference → Type 0
reference_in first h no_guid = Unit
reference_in first h (guid n) = (first ≡ true) × IsNum n

abbrev pub IsObjectArray : Array Reference → Type 0
IsObjectArray a = ArrayOk reference_bits reference_in true a
