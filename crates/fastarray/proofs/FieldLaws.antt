-- The fields of an item, read one after the other.
use Prim.Native.Nat.{ℕ, zero, suc, ◌+◌, ◌-◌, ◌*◌, ◌≤◌, ◌<◌}
use mathlib.Core.Path.{◌≡◌, refl, sym, ap, ap₂, ◌∙◌, subst}
use mathlib.Core.Bool.{Bool, true, false}
use mathlib.Core.List.{List, [], ◌∷◌}
use Rattle.std.specs.Prelude.{Option, None, Some}
use native.Mathlib.Omega.{arith}
use native.Mathlib.Nat.{add-zero}
use lib.ListN.{length}
use lib.Dec.{leb, eqb}
use borrow.Author.Tests.{leb-true}
use Rattle.bits.specs.Packed.{Number}
use Rattle.bits.specs.Padded.{padded_among}
use Rattle.bits.specs.Runs.{store}
use Rattle.bits.proofs.PaddedLaws.{among_append}
use Rattle.bits.proofs.Never.{never}
use Rattle.fastarray.specs.Body.{number_end, packed_at, Lead, breaks, closes, opens, lead_width, lead_handle, lead_at, raw_field, Stream, closing_stream, before, with_field, on_lead, fields_from, fields_at}
use Rattle.fastarray.specs.Records.{field_record, store_all}
use Rattle.fastarray.specs.Parts.{head_of, fields_read_of, FieldsStored}
use Rattle.fastarray.proofs.ReadLaws.{number_within, one_at_most, two_at_most}
use Rattle.fastarray.specs.declared.FieldHead.TheVariants as H
use Rattle.fastarray.specs.declared.Reached.{Reached}

-- ---- a lead lies in the window: a closing zero takes 8 bits at least, a field's two numbers 16

abbrev Within : (len p : ℕ) → Lead → Type 0
Within len p breaks = Unit
Within len p (closes h) = (p + 8 ≤ number_end h) × (number_end h ≤ len)
Within len p (opens h w) = (p + 16 ≤ number_end w) × (number_end w + w.value ≤ len)

width_within : (len p : ℕ) (h : Number) (o : Option Number) → ((w : Number) → o ≡ Some w → p + 16 ≤ number_end w) → Within len p (lead_width len h o)
unfolding lead_width
width_within len p h None k = tt
width_within len p h (Some w) k = go (leb (number_end w + w.value) len) refl
  where
    go : (x : Bool) → leb (number_end w + w.value) len ≡ x → Within len p (lead_width len h (Some w))
    go true e = rw e (k w refl, leb-true _ _ e)
    go false e = rw e tt

handle_within : (W len p : ℕ) (o : Option Number) → ((h : Number) → o ≡ Some h → (p + 8 ≤ number_end h) × (number_end h ≤ len)) → Within len p (lead_handle W len o)
unfolding lead_handle
handle_within W len p None k = tt
handle_within W len p (Some h) k = go (eqb h.value 0) refl
  where
    second : (w : Number) → packed_at W len (number_end h) ≡ Some w → p + 16 ≤ number_end w
    second w e = omega (arith, number_within W len (number_end h) w e, k h refl)

    go : (x : Bool) → eqb h.value 0 ≡ x → Within len p (lead_handle W len (Some h))
    go true e = rw e (k h refl)
    go false e = rw e (width_within len p h (packed_at W len (number_end h)) second)

pub lead_within : (W len p : ℕ) → Within len p (lead_at W len p)
lead_within W len p = handle_within W len p (packed_at W len p) (λ h e. number_within W len p h e)

-- ---- what the code saw there

head_breaks : (l : Lead) (b : ℕ) → head_of b l ≡ None → l ≡ breaks
unfolding head_of
head_breaks breaks b e = refl
head_breaks (closes h) b e = let z : ◌≡◌ {A = ℕ} 0 1 = cc in never z
head_breaks (opens h w) b e = let z : ◌≡◌ {A = ℕ} 0 1 = cc in never z

record ClosesAs (l : Lead) (b q c : ℕ) : Type 0 where
  pub handle : Number
  pub is : l ≡ closes handle
  pub behind_is : number_end handle ≡ q
  pub padded_is : b + padded_among (handle ∷ []) ≡ c

closes_as : (l : Lead) (b q c : ℕ) → head_of b l ≡ Some (H.Closes q c) → ClosesAs l b q c
unfolding head_of
closes_as breaks b q c e = let z : ◌≡◌ {A = ℕ} 0 1 = cc in never z
closes_as (closes h) b q c e = record { handle = h; is = refl; behind_is = cc; padded_is = cc }
closes_as (opens h w) b q c e = let z : ◌≡◌ {A = ℕ} 0 1 = cc in never z

record OpensAs (l : Lead) (b h o w c : ℕ) : Type 0 where
  pub handle : Number
  pub width : Number
  pub is : l ≡ opens handle width
  pub handle_is : handle.value - 1 ≡ h
  pub offset_is : number_end width ≡ o
  pub width_is : width.value ≡ w
  pub padded_is : b + padded_among (handle ∷ width ∷ []) ≡ c

opens_as : (l : Lead) (b h o w c : ℕ) → head_of b l ≡ Some (H.Opens h o w c) → OpensAs l b h o w c
unfolding head_of
opens_as breaks b h o w c e = let z : ◌≡◌ {A = ℕ} 0 1 = cc in never z
opens_as (closes x) b h o w c e = let z : ◌≡◌ {A = ℕ} 0 1 = cc in never z
opens_as (opens x y) b h o w c e = record { handle = x; width = y; is = refl; handle_is = cc; offset_is = cc; width_is = cc; padded_is = cc }

module _ (b W len p : ℕ) where
  closes_within : (q c : ℕ) → head_of b (lead_at W len p) ≡ Some (H.Closes q c) → (p + 8 ≤ q) × (q ≤ len)
  closes_within q c e =
      let t = closes_as _ b q c e in
      let i = t.is in
      let d = t.behind_is in
      let k : Within len p (closes t.handle) = subst (Within len p) i (lead_within W len p) in
      omega arith

  pub opens_within : (h o w c : ℕ) → head_of b (lead_at W len p) ≡ Some (H.Opens h o w c) → (p + 16 ≤ o) × (o + w ≤ len) × (c ≤ b + 2)
  opens_within h o w c e =
      let t = opens_as _ b h o w c e in
      let b₁ = t.offset_is in
      let b₂ = t.width_is in
      let n = t.padded_is in
      let l = two_at_most t.handle t.width in
      let k : Within len p (opens t.handle t.width) = subst (Within len p) t.is (lead_within W len p) in
      omega arith

-- ---- fields: a stream takes 8 bits at least, and 16 more for each field; so each padded number has 8 bits, too

pub record Lying (len p : ℕ) (r : Stream) : Type 0 where
  pub takes : p + 8 + 16 * length r.fields ≤ r.next
  pub counts : p + 8 * padded_among r.numbers ≤ r.next
  pub within : r.next ≤ len

one_more : (len p : ℕ) (h w : Number) (r : Stream) → p + 16 ≤ number_end w → Lying len (number_end w + w.value) r → Lying len p (before h w r)
one_more len p h w r k l =
    record {
      takes = omega (arith, l.takes);
      counts = omega (arith, l.counts, among_append (h ∷ w ∷ []) r.numbers, two_at_most h w);
      within = l.within;
    }

with_lies : (len p : ℕ) (h w : Number) (o : Option Stream) (r : Stream) → p + 16 ≤ number_end w
    → ((st : Stream) → o ≡ Some st → Lying len (number_end w + w.value) st) → with_field h w o ≡ Some r → Lying len p r
unfolding with_field
with_lies len p h w None r k f e = let z : ◌≡◌ {A = ℕ} 0 1 = cc in never z
with_lies len p h w (Some st) r k f e =
    let q : before h w st ≡ r = cc in
    subst (Lying len p) q (one_more len p h w st k (f st refl))

on_lies : (len p : ℕ) (l : Lead) (rest : ℕ → Option Stream) (r : Stream) → Within len p l
    → ((q : ℕ) (st : Stream) → rest q ≡ Some st → Lying len q st) → on_lead l rest ≡ Some r → Lying len p r
unfolding on_lead
on_lies len p breaks rest r k f e = let z : ◌≡◌ {A = ℕ} 0 1 = cc in never z
on_lies len p (closes h) rest r k f e =
    let q : closing_stream h ≡ r = cc in
    subst (Lying len p) q (record { takes = omega (arith, k.0); counts = omega (arith, k.0, one_at_most h); within = k.1 })
on_lies len p (opens h w) rest r k f e =
    with_lies len p h w (rest (number_end w + w.value)) r k.0 (λ st s. f (number_end w + w.value) st s) e

pub fields_lie : (most W len p : ℕ) (r : Stream) → fields_from most W len p ≡ Some r → Lying len p r
unfolding fields_from
fields_lie zero W len p r e = let z : ◌≡◌ {A = ℕ} 0 1 = cc in never z
fields_lie (suc most) W len p r e =
    on_lies len p (lead_at W len p) (λ q. fields_from most W len q) r (lead_within W len p) (λ q st s. fields_lie most W len q st s) e

-- a bound of as many fields as there are bits left is enough

no_bits : (W len p : ℕ) (rest : ℕ → Option Stream) (l : Lead) → len ≤ p → Within len p l → on_lead l rest ≡ None
unfolding on_lead
no_bits W len p rest breaks h k = refl
no_bits W len p rest (closes x) h k = never (let z : ◌≡◌ {A = ℕ} 0 1 = omega arith in z)
no_bits W len p rest (opens x y) h k = never (let z : ◌≡◌ {A = ℕ} 0 1 = omega arith in z)

same_rest : (len p : ℕ) (rest rest' : ℕ → Option Stream) (l : Lead) → Within len p l → ((q : ℕ) → p < q → rest q ≡ rest' q) → on_lead l rest ≡ on_lead l rest'
unfolding on_lead
same_rest len p rest rest' breaks k f = refl
same_rest len p rest rest' (closes x) k f = refl
same_rest len p rest rest' (opens x y) k f = ap (with_field x y) (f (number_end y + y.value) (omega arith))

pub fields_enough : (most more W len p : ℕ) → len - p ≤ most → len - p ≤ more → fields_from most W len p ≡ fields_from more W len p
unfolding fields_from
fields_enough zero zero W len p h k = refl
fields_enough zero (suc more) W len p h k = sym (no_bits W len p _ (lead_at W len p) (omega arith) (lead_within W len p))
fields_enough (suc most) zero W len p h k = no_bits W len p _ (lead_at W len p) (omega arith) (lead_within W len p)
fields_enough (suc most) (suc more) W len p h k =
    same_rest len p _ _ (lead_at W len p) (lead_within W len p) (λ q l. fields_enough most more W len q (omega arith) (omega arith))

-- how far a reading has come
abbrev pub reached : (fields next padded : ℕ) → Reached
reached n q a = record { fields = n; next = q; padded = a }

-- ---- the reading of an item's fields, which started at bit `at` behind `slot` others and `padded` padded numbers, now at bit pos behind n and c

pub record Reading (W end at slot padded : ℕ) (d₀ d : List ℕ) (pos n c : ℕ) : Type 0 where
  pub most : ℕ
  pub enough : end - pos ≤ most
  pub within : pos ≤ end
  pub slots : n ≤ pos
  pub counts : c ≤ pos
  pub says : fields_read_of n c (fields_from most W end pos) ≡ fields_read_of slot padded (fields_at W end at)
  pub stores : (e : List ℕ) → FieldsStored (fields_from most W end pos) d n e → FieldsStored (fields_at W end at) d₀ slot e

from_lead : (most W len p : ℕ) (l : Lead) → 0 < most → lead_at W len p ≡ l
    → fields_from most W len p ≡ on_lead l (λ q. fields_from (most - 1) W len q)
unfolding fields_from
from_lead zero W len p l h e = never (let z : ◌≡◌ {A = ℕ} 0 1 = omega arith in z)
from_lead (suc most) W len p l h e =
    let m : suc most - 1 ≡ most = omega arith in
    rw m (ap (λ (x : Lead). on_lead x (λ q. fields_from most W len q)) e)

from_breaks : (most W len p : ℕ) → lead_at W len p ≡ breaks → fields_from most W len p ≡ None
unfolding fields_from on_lead
from_breaks zero W len p e = refl
from_breaks (suc most) W len p e = ap (λ (x : Lead). on_lead x (λ q. fields_from most W len q)) e

-- one field more, in what is said and in what is stored
said_more : (n b c : ℕ) (h w : Number) (o : Option Stream) → b + padded_among (h ∷ w ∷ []) ≡ c
    → fields_read_of (n + 1) c o ≡ fields_read_of n b (with_field h w o)
unfolding fields_read_of with_field
said_more n b c h w None q = refl
said_more n b c h w (Some r) q =
    let l = among_append (h ∷ w ∷ []) r.numbers in
    let e : n + 1 + length r.fields ≡ n + suc (length r.fields) = omega arith in
    let f : c + padded_among r.numbers ≡ b + padded_among (h ∷ w ∷ r.numbers) = omega arith in
    ap₂ (λ (j k : ℕ). Some (reached j r.next k)) e f

stored_more : (n : ℕ) (h w : Number) (o : Option Stream) (d e : List ℕ)
    → FieldsStored o (store d (3 * n) (field_record (raw_field h w))) (n + 1) e → FieldsStored (with_field h w o) d n e
unfolding FieldsStored with_field store_all
stored_more n h w None d e s = tt
stored_more n h w (Some r) d e s =
    s
    ∙ ap (λ (k : ℕ). store_all field_record (store d (3 * n) (field_record (raw_field h w))) k r.fields)
    (let q : 3 * (n + 1) ≡ 3 * n + 3 = omega arith in q)

module _ (W end at slot padded : ℕ) (d₀ : List ℕ) where
  module _ (d : List ℕ) (pos n c : ℕ) (v : Reading W end at slot padded d₀ d pos n c) where
    pub read_broken : head_of c (lead_at W end pos) ≡ None
        → (None ≡ fields_read_of slot padded (fields_at W end at)) × FieldsStored (fields_at W end at) d₀ slot d
    unfolding fields_read_of FieldsStored
    read_broken e =
        let f : fields_from v.most W end pos ≡ None = from_breaks v.most W end pos (head_breaks _ c e) in (
          sym (ap (fields_read_of n c) f) ∙ v.says,
          v.stores d (subst (λ (o : Option Stream). FieldsStored o d n d) (sym f) tt),
        )

    pub read_closed : (q a : ℕ) → head_of c (lead_at W end pos) ≡ Some (H.Closes q a)
        → (Some (reached n q a) ≡ fields_read_of slot padded (fields_at W end at)) × FieldsStored (fields_at W end at) d₀ slot d
    unfolding fields_read_of FieldsStored on_lead store_all
    read_closed q a e =
        let t = closes_as _ c q a e in
        let k = closes_within c W end pos q a e in
        let m : 0 < v.most = omega (arith, v.enough) in
        let f : fields_from v.most W end pos ≡ Some (closing_stream t.handle) = from_lead v.most W end pos (closes t.handle) m t.is in (
          ap₂ (λ (x y : ℕ). Some (reached x y a)) (sym (add-zero n)) (sym t.behind_is)
              ∙ sym (ap (λ (z : ℕ). Some (reached (n + 0) (number_end t.handle) z)) t.padded_is)
              ∙ sym (ap (fields_read_of n c) f)
              ∙ v.says,
          v.stores d (subst (λ (o : Option Stream). FieldsStored o d n d) (sym f) refl),
        )

    pub read_opened : (h o w a : ℕ) (d' : List ℕ) → head_of c (lead_at W end pos) ≡ Some (H.Opens h o w a) → d' ≡ store d (3 * n) (h ∷ o ∷ w ∷ [])
        → Reading W end at slot padded d₀ d' (o + w) (n + 1) a
    unfolding on_lead
    read_opened h o w a d' e s =
        let t = opens_as _ c h o w a e in
        let k = opens_within c W end pos h o w a e in
        let x = t.handle in
        let y = t.width in
        let next : number_end y + y.value ≡ o + w = ap₂ (λ (a b : ℕ). a + b) t.offset_is t.width_is in
        let m : 0 < v.most = omega (arith, v.enough) in
        let f : fields_from v.most W end pos ≡ with_field x y (fields_from (v.most - 1) W end (o + w))
        = from_lead v.most W end pos (opens x y) m t.is ∙ ap (λ (q : ℕ). with_field x y (fields_from (v.most - 1) W end q)) next in
        let rec-is : field_record (raw_field x y) ≡ h ∷ o ∷ w ∷ [] = simp (t.handle_is, t.offset_is, t.width_is) in
        let s' : d' ≡ store d (3 * n) (field_record (raw_field x y)) = s ∙ ap (store d (3 * n)) (sym rec-is) in
        record {
          most = v.most - 1;
          enough = omega (arith, v.enough);
          within = k.1;
          slots = omega (arith, v.slots);
          counts = omega (arith, v.counts);
          says = said_more n c a x y (fields_from (v.most - 1) W end (o + w)) t.padded_is ∙ sym (ap (fields_read_of n c) f) ∙ v.says;
          stores = λ e u. v.stores e
              (subst (λ (r : Option Stream). FieldsStored r d n e) (sym f)
              (stored_more n x y (fields_from (v.most - 1) W end (o + w)) d e
              (subst (λ (a : List ℕ). FieldsStored (fields_from (v.most - 1) W end (o + w)) a (n + 1) e) s' u)));
        }
