-- Deleted ids and items, read one after the other.
use Prim.Native.Nat.{ℕ, zero, suc, ◌+◌, ◌-◌, ◌*◌, ◌≤◌, ◌<◌}
use mathlib.Core.Path.{◌≡◌, refl, sym, ap, ap₂, ◌∙◌, subst}
use mathlib.Core.Bool.{Bool, true, false}
use mathlib.Core.List.{List, [], ◌∷◌, ◌++◌}
use Rattle.std.specs.Prelude.{Option, None, Some}
use native.Mathlib.Omega.{arith}
use native.Mathlib.Nat.{add-zero}
use lib.ListN.{length, length-append}
use lib.Dec.{leb}
use lib.IntN.{ℤ}
use borrow.Author.Tests.{le-leb, lt-leb, leb-true, leb-false}
use Rattle.bits.specs.Bits.{field}
use Rattle.bits.specs.Padded.{padded_among}
use Rattle.bits.specs.Runs.{store}
use Rattle.bits.proofs.PaddedLaws.{among_append}
use Rattle.bits.proofs.Never.{never}
use Rattle.fastarray.specs.Body.{signed_at, deleted_from, Stream, fields_at, Item, Items, item, with_item_lem, on_fields, items_from, fields_of, numbers_of}
use Rattle.fastarray.specs.Records.{deleted_record, item_record, field_record, records, store_all}
use Rattle.fastarray.specs.Parts.{fields_read_of, items_read_of, FieldsStored, ItemsStored}
use Rattle.fastarray.proofs.StoreLaws.{store_append, records_length}
use Rattle.fastarray.proofs.FieldLaws.{Lying, fields_lie, reached}
use Rattle.fastarray.specs.declared.Reached.{Reached}

-- ---- deleted ids

-- the reading of `count` ids from bit `at` on, of which `done` are stored
pub record Deleting (W at count : ℕ) (d₀ d : List ℤ) (done : ℕ) : Type 0 where
  pub stores : store_all deleted_record d done (deleted_from (count - done) W (at + 32 * done)) ≡ store_all deleted_record d₀ 0 (deleted_from count W at)

deleted_more : (n W p : ℕ) → 0 < n → deleted_from n W p ≡ signed_at W p ∷ deleted_from (n - 1) W (p + 32)
unfolding deleted_from
deleted_more zero W p h = never (let z : ◌≡◌ {A = ℕ} 0 1 = omega arith in z)
deleted_more (suc n) W p h = let e : suc n - 1 ≡ n = omega arith in rw e refl

stored_cons : (d : List ℤ) (i : ℕ) (z : ℤ) (l : List ℤ) → store_all deleted_record d i (z ∷ l) ≡ store_all deleted_record (store d i (z ∷ [])) (i + 1) l
unfolding store_all
stored_cons d i z l = refl

stored_none : (d : List ℤ) (i W p : ℕ) → store_all deleted_record d i (deleted_from 0 W p) ≡ d
unfolding store_all deleted_from
stored_none d i W p = refl

module _ (W at count : ℕ) (d₀ : List ℤ) where
  module _ (d : List ℤ) (done : ℕ) where
    pub deleting_next : (z : ℤ) (d' : List ℤ) → done < count → Deleting W at count d₀ d done → z ≡ signed_at W (at + 32 * done) → d' ≡ store d done (z ∷ [])
        → Deleting W at count d₀ d' (done + 1)
    deleting_next z d' h v ez es =
        let e₁ : count - (done + 1) ≡ count - done - 1 = omega arith in
        let e₂ : at + 32 * (done + 1) ≡ at + 32 * done + 32 = omega arith in
        let rest = deleted_from (count - done - 1) W (at + 32 * done + 32) in
        record {
          stores = ap₂ (λ (n p : ℕ). store_all deleted_record d' (done + 1) (deleted_from n W p)) e₁ e₂
              ∙ ap (λ (x : List ℤ). store_all deleted_record x (done + 1) rest) es
              ∙ sym (stored_cons d done z rest)
              ∙ ap (λ (y : ℤ). store_all deleted_record d done (y ∷ rest)) ez
              ∙ sym (ap (store_all deleted_record d done) (deleted_more (count - done) W (at + 32 * done) (omega arith)))
              ∙ v.stores;
        }

    pub deleting_ends : count ≤ done → Deleting W at count d₀ d done → d ≡ store_all deleted_record d₀ 0 (deleted_from count W at)
    deleting_ends h v =
        let e : count - done ≡ 0 = omega arith in
        sym (stored_none d done W (at + 32 * done))
        ∙ sym (ap (λ (n : ℕ). store_all deleted_record d done (deleted_from n W (at + 32 * done))) e)
        ∙ v.stores

-- ---- items

-- an item's fields, as the code read them
pub record ReadAs (o : Option Stream) (slot padded after next count : ℕ) : Type 0 where
  pub stream : Stream
  pub is : o ≡ Some stream
  pub after_is : slot + length stream.fields ≡ after
  pub next_is : stream.next ≡ next
  pub count_is : padded + padded_among stream.numbers ≡ count

read_as : (o : Option Stream) (slot padded : ℕ) (t : Reached) → fields_read_of slot padded o ≡ Some t → ReadAs o slot padded t.fields t.next t.padded
unfolding fields_read_of
read_as None slot padded t e = let z : ◌≡◌ {A = ℕ} 0 1 = cc in never z
read_as (Some r) slot padded t e =
    let told : reached (slot + length r.fields) r.next (padded + padded_among r.numbers) ≡ t = cc in
    record {
      stream = r;
      is = refl;
      after_is = ap (λ (x : Reached). x.fields) told;
      next_is = ap (λ (x : Reached). x.next) told;
      count_is = ap (λ (x : Reached). x.padded) told;
    }

read_none : (o : Option Stream) (slot padded : ℕ) → fields_read_of slot padded o ≡ None → o ≡ None
unfolding fields_read_of
read_none None slot padded e = refl
read_none (Some r) slot padded e = let z : ◌≡◌ {A = ℕ} 0 1 = cc in never z

-- they take at least as many bits as they are, and as the padded numbers are
pub read_within : (W end p slot padded : ℕ) (r : Reached) → slot ≤ p → padded ≤ p
    → fields_read_of slot padded (fields_at W end p) ≡ Some r
    → (slot ≤ r.fields) × (r.fields ≤ r.next) × (p ≤ r.next) × (r.next ≤ end) × (r.padded ≤ r.next)
read_within W end p slot padded r h g e =
    let t = read_as _ slot padded r e in
    let l = fields_lie (end - p) W end p t.stream t.is in
    let a = t.after_is in
    let b = t.next_is in
    let c = t.count_is in
    let c₁ = l.takes in
    let c₂ = l.within in
    let c₃ = l.counts in
    (omega arith, omega arith, omega arith, omega arith, omega arith)

module _ (flag W len p : ℕ) where
  items_cut : (n : ℕ) → 0 < n → len < p + (32 + flag) → items_from n flag W len p ≡ None
  unfolding items_from
  items_cut zero z k = never (let e : ◌≡◌ {A = ℕ} 0 1 = omega arith in e)
  items_cut (suc n) z k = simp (lt-leb _ _ k)

  items_more : (n : ℕ) → 0 < n → p + (32 + flag) ≤ len
      → items_from n flag W len p ≡ on_fields (field W p 32) (fields_at W len (p + (32 + flag))) (λ q. items_from (n - 1) flag W len q)
  unfolding items_from
  items_more zero z k = never (let e : ◌≡◌ {A = ℕ} 0 1 = omega arith in e)
  items_more (suc n) z k = let m : suc n - 1 ≡ n = omega arith in simp (le-leb _ _ k, m)

-- one item more, in what is said and in what is stored
said_item : (slot padded after count : ℕ) (x : Item) (o : Option Items) → slot + length x.fields ≡ after
    → padded + padded_among x.numbers ≡ count → items_read_of after count o ≡ items_read_of slot padded (with_item_lem x o)
unfolding items_read_of with_item_lem fields_of numbers_of
said_item slot padded after count x None e f = refl
said_item slot padded after count x (Some r) e f =
    let l = length-append x.fields (fields_of r.items) in
    let m = among_append x.numbers (numbers_of r.items) in
    let q : after + length (fields_of r.items) ≡ slot + length (x.fields ++ fields_of r.items) = omega arith in
    let s : count + padded_among (numbers_of r.items) ≡ padded + padded_among (x.numbers ++ numbers_of r.items) = omega arith in
    ap₂ (λ (j k : ℕ). Some (reached j r.next k)) q s

stored_item : (done slot after : ℕ) (x : Item) (o : Option Items) (di df df' ei ef : List ℕ) → slot + length x.fields ≡ after
    → df' ≡ store_all field_record df (3 * slot) x.fields → ItemsStored o (done + 1) after (store di (2 * done) (item_record x)) df' ei ef
    → ItemsStored (with_item_lem x o) done slot di df ei ef
unfolding ItemsStored with_item_lem fields_of store_all
stored_item done slot after x None di df df' ei ef e f s = tt
stored_item done slot after x (Some r) di df df' ei ef e f s =
    let q₁ : 2 * (done + 1) ≡ 2 * done + 2 = omega arith in
    let n = records_length field_record 3 (λ y. refl) x.fields in
    let q₂ : 3 * after ≡ 3 * slot + length (records field_record x.fields) = omega arith in (
      s.0 ∙ ap (λ (k : ℕ). store_all item_record (store di (2 * done) (item_record x)) k r.items) q₁,
      s.1
          ∙ ap₂ (λ (a : List ℕ) (k : ℕ). store_all field_record a k (fields_of r.items)) f q₂
          ∙ sym (store_append field_record x.fields (fields_of r.items) df (3 * slot)),
    )

-- the reading of `count` items from bit `at` on, of which `done` are stored, with `slot` fields and c padded numbers, up to bit pos
pub record Walking (W end at count flag : ℕ) (di₀ df₀ di df : List ℕ) (pos done slot c : ℕ) : Type 0 where
  pub within : pos ≤ end
  pub slots : slot ≤ pos
  pub counts : c ≤ pos
  pub says : items_read_of slot c (items_from (count - done) flag W end pos) ≡ items_read_of 0 0 (items_from count flag W end at)
  pub stores : (ei ef : List ℕ) → ItemsStored (items_from (count - done) flag W end pos) done slot di df ei ef
      → ItemsStored (items_from count flag W end at) 0 0 di₀ df₀ ei ef

module _ (W end at count flag : ℕ) (di₀ df₀ : List ℕ) where
  -- what the reading answers and leaves
  abbrev pub Walked : Option Reached → (ei ef : List ℕ) → Type 0
  Walked r ei ef = (r ≡ items_read_of 0 0 (items_from count flag W end at)) × ItemsStored (items_from count flag W end at) 0 0 di₀ df₀ ei ef

  module _ (di df : List ℕ) (pos done slot c : ℕ) (v : Walking W end at count flag di₀ df₀ di df pos done slot c) where
    nothing : items_from (count - done) flag W end pos ≡ None → (ei ef : List ℕ) → Walked None ei ef
    unfolding items_read_of ItemsStored
    nothing f ei ef = (
      sym (ap (items_read_of slot c) f) ∙ v.says,
      v.stores ei ef (subst (λ (o : Option Items). ItemsStored o done slot di df ei ef) (sym f) tt),
    )

    pub walk_cut : done < count → end < pos + (32 + flag) → (ei ef : List ℕ) → Walked None ei ef
    walk_cut h k ei ef = nothing (items_cut flag W end pos (count - done) (omega arith) k) ei ef

    pub walk_ends : count ≤ done → Walked (Some (reached slot pos c)) di df
    unfolding items_read_of ItemsStored items_from fields_of numbers_of padded_among store_all
    walk_ends h =
        let e : count - done ≡ 0 = omega arith in (
          ap₂ (λ (j k : ℕ). Some (reached j pos k)) (sym (add-zero slot)) (sym (add-zero c))
              ∙ sym (ap (λ (n : ℕ). items_read_of slot c (items_from n flag W end pos)) e)
              ∙ v.says,
          v.stores di df (subst (λ (n : ℕ). ItemsStored (items_from n flag W end pos) done slot di df di df) (sym e) (refl, refl)),
        )

    module _ (h : done < count) (k : pos + (32 + flag) ≤ end) where
      more : items_from (count - done) flag W end pos
          ≡ on_fields (field W pos 32) (fields_at W end (pos + (32 + flag))) (λ q. items_from (count - done - 1) flag W end q)
      more = items_more flag W end pos (count - done) (omega arith) k

      -- the fields behind a lead of f bits
      led : (f : ℕ) → f ≡ flag → fields_at W end (pos + (32 + f)) ≡ fields_at W end (pos + (32 + flag))
      led f z = ap (λ (x : ℕ). fields_at W end (pos + (32 + x))) z

      pub walk_broken : (f : ℕ) → f ≡ flag → fields_read_of slot c (fields_at W end (pos + (32 + f))) ≡ None → (ei ef : List ℕ) → Walked None ei ef
      unfolding on_fields
      walk_broken f z e ei ef =
          nothing
          (more ∙ ap (λ (o : Option Stream). on_fields (field W pos 32) o (λ q. items_from (count - done - 1) flag W end q)) (read_none _ slot c (ap (fields_read_of slot c) (sym (led f z)) ∙ e)))
          ei
          ef

      pub walk_next : (f : ℕ) → f ≡ flag → (id here : ℕ) (r : Reached) (di' df' : List ℕ)
          → fields_read_of slot c (fields_at W end (pos + (32 + f))) ≡ Some r
          → FieldsStored (fields_at W end (pos + (32 + f))) df slot df' → id ≡ field W pos 32 → here ≡ r.fields - slot
          → di' ≡ store di (2 * done) (id ∷ here ∷ [])
          → Walking W end at count flag di₀ df₀ di' df' r.next (done + 1) r.fields r.padded
      unfolding on_fields FieldsStored
      walk_next f z id here r di' df' e fs ei eh s =
          let g = ap (fields_read_of slot c) (sym (led f z)) ∙ e in
          let t = read_as _ slot c r g in
          let st = t.stream in
          let x = item (field W pos 32) st in
          let b = read_within W end (pos + (32 + flag)) slot c r (omega (arith, v.slots)) (omega (arith, v.counts)) g in
          let ai = t.after_is in
          let hi : here ≡ length st.fields = omega arith in
          let c₁ : count - (done + 1) ≡ count - done - 1 = omega arith in
          let rest = items_from (count - done - 1) flag W end r.next in
          let i : items_from (count - done) flag W end pos ≡ with_item_lem x rest
          = more
          ∙ ap (λ (o : Option Stream). on_fields (field W pos 32) o (λ q. items_from (count - done - 1) flag W end q)) t.is
          ∙ ap (λ (q : ℕ). with_item_lem x (items_from (count - done - 1) flag W end q)) t.next_is in
          let fs' : df' ≡ store_all field_record df (3 * slot) st.fields = subst (λ (o : Option Stream). FieldsStored o df slot df') (led f z ∙ t.is) fs in
          let s' : di' ≡ store di (2 * done) (item_record x) = s ∙ ap₂ (λ (a n : ℕ). store di (2 * done) (a ∷ n ∷ [])) ei hi in
          record {
            within = b.3;
            slots = b.1;
            counts = b.4;
            says = ap (λ (n : ℕ). items_read_of r.fields r.padded (items_from n flag W end r.next)) c₁
                ∙ said_item slot c r.fields r.padded x rest ai t.count_is
                ∙ sym (ap (items_read_of slot c) i)
                ∙ v.says;
            stores = λ a z u.
                v.stores a z
                (subst (λ (o : Option Items). ItemsStored o done slot di df a z) (sym i)
                (stored_item done slot r.fields x rest di df df' a z ai fs'
                (subst (λ (y : List ℕ). ItemsStored rest (done + 1) r.fields y df' a z) s'
                (subst (λ (n : ℕ). ItemsStored (items_from n flag W end r.next) (done + 1) r.fields di' df' a z) c₁ u))));
          }

-- ---- how many items there are, and the bits that they take: as many as they have fields, and eight for each padded number

pub record ItemsLying (n len p : ℕ) (r : Items) : Type 0 where
  pub counted : length r.items ≡ n
  pub takes : p + length (fields_of r.items) ≤ r.next
  pub counts : p + 8 * padded_among (numbers_of r.items) ≤ r.next
  pub within : r.next ≤ len

with_item_lies : (n len p : ℕ) (x : Item) (o : Option Items) (r : Items) (q : ℕ) → p + length x.fields ≤ q
    → p + 8 * padded_among x.numbers ≤ q → ((rs : Items) → o ≡ Some rs → ItemsLying n len q rs) → with_item_lem x o ≡ Some r → ItemsLying (suc n) len p r
unfolding with_item_lem fields_of numbers_of
with_item_lies n len p x None r q h g f e = let z : ◌≡◌ {A = ℕ} 0 1 = cc in never z
with_item_lies n len p x (Some rs) r q h g f e =
    let l = f rs refl in
    let a = length-append x.fields (fields_of rs.items) in
    let b = among_append x.numbers (numbers_of rs.items) in
    let w : ◌≡◌ {A = Items} (record { items = x ∷ rs.items; next = rs.next }) r = cc in
    subst (ItemsLying (suc n) len p) w
    (record { counted = ap suc l.counted; takes = omega (arith, l.takes); counts = omega (arith, l.counts); within = l.within })

on_fields_lie : (n len p q id : ℕ) (o : Option Stream) (rest : ℕ → Option Items) (r : Items) → p ≤ q
    → ((st : Stream) → o ≡ Some st → Lying len q st) → ((k : ℕ) (rs : Items) → k ≤ len → rest k ≡ Some rs → ItemsLying n len k rs)
    → on_fields id o rest ≡ Some r → ItemsLying (suc n) len p r
unfolding on_fields
on_fields_lie n len p q id None rest r h f g e = let z : ◌≡◌ {A = ℕ} 0 1 = cc in never z
on_fields_lie n len p q id (Some st) rest r h f g e =
    let l = f st refl in
    let a = l.takes in
    let b = l.within in
    with_item_lies n len p (item id st) (rest st.next) r st.next (omega arith) (omega (arith, l.counts)) (λ rs k. g st.next rs b k) e

pub items_lie : (n flag W len p : ℕ) (r : Items) → p ≤ len → items_from n flag W len p ≡ Some r → ItemsLying n len p r
unfolding items_from fields_of numbers_of padded_among
items_lie zero flag W len p r h e =
    let w : ◌≡◌ {A = Items} (record { items = []; next = p }) r = cc in
    subst (ItemsLying zero len p) w (record { counted = refl; takes = omega arith; counts = omega arith; within = h })
items_lie (suc n) flag W len p r h e = go (leb (p + (32 + flag)) len) refl (λ k rs b s. items_lie n flag W len k rs b s)
  where
    less : on_fields (field W p 32) (fields_at W len (p + (32 + flag))) (λ q. items_from (suc n - 1) flag W len q)
        ≡ on_fields (field W p 32) (fields_at W len (p + (32 + flag))) (λ q. items_from n flag W len q)
    less = let m : suc n - 1 ≡ n = omega arith in rw m refl

    go : (x : Bool) → leb (p + (32 + flag)) len ≡ x → ((k : ℕ) (rs : Items) → k ≤ len → items_from n flag W len k ≡ Some rs → ItemsLying n len k rs)
        → ItemsLying (suc n) len p r
    go true t g =
        on_fields_lie n len p (p + (32 + flag)) (field W p 32) (fields_at W len (p + (32 + flag))) (λ q. items_from n flag W len q) r (omega arith)
        (λ st k. fields_lie (len - (p + (32 + flag))) W len (p + (32 + flag)) st k)
        g
        (sym (items_more flag W len p (suc n) (omega arith) (leb-true _ _ t) ∙ less) ∙ e)
    go false t g = let c = items_cut flag W len p (suc n) (omega arith) (leb-false _ _ t) in let z : ◌≡◌ {A = ℕ} 0 1 = cc in never z

pub deleted_length : (n W p : ℕ) → length (deleted_from n W p) ≡ n
unfolding deleted_from
deleted_length zero W p = refl
deleted_length (suc n) W p = ap suc (deleted_length n W (p + 32))
