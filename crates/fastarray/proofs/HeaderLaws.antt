-- The header's tests, one after the other, and what the measuring pass makes of them.
use Prim.Native.Nat.{ℕ, ◌+◌, ◌*◌, ◌^◌, ◌≤◌, ◌<◌}
use mathlib.Core.Path.{◌≡◌, refl, sym, ap, ◌∙◌}
use mathlib.Core.Bool.{Bool, true, false, ◌&&◌}
use Rattle.std.specs.Prelude.{Option, None, Some}
use native.Mathlib.Nat.{mul-le-mul_right}
use native.Mathlib.Omega.{arith}
use lib.ListN.{length}
use lib.Dec.{leb, eqb}
use lib.IntN.{ℤ}
use borrow.Author.Tests.{le-leb, lt-leb, lt-ltb, le-ltb, eq-eqb, ne_eqb, leb-true, eqb-true, eqb-false}
use Rattle.bits.proofs.ChoiceLaws.{and_true}
use Rattle.bits.specs.Bits.{field}
use Rattle.bits.specs.Padded.{padded_among}
use Rattle.bits.proofs.Never.{never}
use Rattle.fastarray.specs.Body.{signed_at, deletes, changes, not_negative_lem, least_bits, headed, Items, items_from, deleted_from, Body, ended, body_of, fields_of, numbers_of}
use Rattle.fastarray.specs.Parts.{items_read_of, delta_of, measured_of}
use Rattle.fastarray.proofs.ItemLaws.{ItemsLying, items_lie, deleted_length}
use Rattle.fastarray.proofs.FieldLaws.{reached}
use Rattle.fastarray.specs.declared.Delta.{Delta}
use Rattle.fastarray.specs.declared.Reached.{Reached}

pub least_above : (flag c : ℕ) → 40 * c ≤ (40 + flag) * c
least_above flag c = let l : 40 ≤ 40 + flag = omega arith in mul-le-mul_right c l

module _ (flag W len : ℕ) where
  pub headed_short : len < 129 → false ≡ headed flag W len
  unfolding headed
  headed_short h = simp (lt-leb _ _ h)

  module _ (h : 129 ≤ len) (b : ℕ) (eb : b ≡ field W 0 1) where
    pub headed_unsupported : (b ≡ 1 → ⊥) → false ≡ headed flag W len
    unfolding headed
    headed_unsupported n = simp (le-leb _ _ h, ← eb, ne_eqb _ _ n)

    module _ (d : ℕ) (ed : d ≡ deletes W) (one : b ≡ 1) where
      pub headed_deletes : 2 ^ 31 ≤ d → false ≡ headed flag W len
      unfolding headed
      headed_deletes l = simp (le-leb _ _ h, ← eb, eq-eqb _ _ one, ← ed, le-ltb _ _ l)

      module _ (c : ℕ) (ec : c ≡ changes W) (ld : d < 2 ^ 31) where
        pub headed_changes : 2 ^ 31 ≤ c → false ≡ headed flag W len
        unfolding headed
        headed_changes l = simp (le-leb _ _ h, ← eb, eq-eqb _ _ one, ← ed, lt-ltb _ _ ld, ← ec, le-ltb _ _ l)

        pub headed_last : c < 2 ^ 31 → leb (129 + (32 * d + (40 + flag) * c)) len ≡ headed flag W len
        unfolding headed
        headed_last l = simp (le-leb _ _ h, ← eb, eq-eqb _ _ one, ← ed, lt-ltb _ _ ld, ← ec, lt-ltb _ _ l)

-- a header that is accepted leaves bits enough
pub record Fitting (W len : ℕ) : Type 0 where
  pub header : 129 ≤ len
  pub lists : 129 + 32 * deletes W + 40 * changes W ≤ len

pub headed_fits : (flag W len : ℕ) → headed flag W len ≡ true → Fitting W len
unfolding headed
headed_fits flag W len e =
    let four : Bool = leb (129 + least_bits flag W) len in
    let three : Bool = not_negative_lem (changes W) && four in
    let two : Bool = not_negative_lem (deletes W) && three in
    let one : Bool = eqb (field W 0 1) 1 && two in
    let a = and_true (leb 129 len) one e in
    let b = and_true (eqb (field W 0 1) 1) two a.1 in
    let c = and_true (not_negative_lem (deletes W)) three b.1 in
    let d = and_true (not_negative_lem (changes W)) four c.1 in
    let h = leb-true 129 len a.0 in
    let l : 129 + least_bits flag W ≤ len = leb-true (129 + least_bits flag W) len d.1 in
    record { header = h; lists = omega (arith, least_above flag (changes W)) }

-- ---- the measuring pass

record ReadAs (o : Option Items) (count next padded : ℕ) : Type 0 where
  pub read : Items
  pub is : o ≡ Some read
  pub count_is : 0 + length (fields_of read.items) ≡ count
  pub next_is : read.next ≡ next
  pub padded_is : 0 + padded_among (numbers_of read.items) ≡ padded

read_as : (o : Option Items) (t : Reached) → items_read_of 0 0 o ≡ Some t → ReadAs o t.fields t.next t.padded
unfolding items_read_of
read_as None t e = let z : ◌≡◌ {A = ℕ} 0 1 = cc in never z
read_as (Some r) t e =
    let told : reached (0 + length (fields_of r.items)) r.next (0 + padded_among (numbers_of r.items)) ≡ t = cc in
    record {
      read = r;
      is = refl;
      count_is = ap (λ (x : Reached). x.fields) told;
      next_is = ap (λ (x : Reached). x.next) told;
      padded_is = ap (λ (x : Reached). x.padded) told;
    }

read_none : (o : Option Items) → items_read_of 0 0 o ≡ None → o ≡ None
unfolding items_read_of
read_none None e = refl
read_none (Some r) e = let z : ◌≡◌ {A = ℕ} 0 1 = cc in never z

-- items that end elsewhere, and items that use all bits
ends_elsewhere : (W len : ℕ) (r : Items) → (r.next ≡ len → ⊥) → ended W len (Some r) ≡ None
unfolding ended
ends_elsewhere W len r n = simp (ne_eqb r.next len n)

abbrev pub body_with : (W : ℕ) → Items → Body
body_with W r = record { key = signed_at W 1; base_key = signed_at W 33; deleted = deleted_from (deletes W) W 129; items = r.items; used = r.next }

ends_here : (W len : ℕ) (r : Items) → r.next ≡ len → ended W len (Some r) ≡ Some (body_with W r)
unfolding ended
ends_here W len r n = simp (eq-eqb r.next len n)

module _ (flag W len : ℕ) where
  pub not_headed : headed flag W len ≡ false → None ≡ measured_of (body_of flag W len)
  unfolding body_of measured_of
  not_headed e = simp e

  module _ (h : headed flag W len ≡ true) where
    abbrev pub items : Option Items
    items = items_from (changes W) flag W len (129 + 32 * deletes W)

    body_is : body_of flag W len ≡ ended W len items
    unfolding body_of
    body_is = simp h

    pub no_items : items_read_of 0 0 items ≡ None → None ≡ measured_of (body_of flag W len)
    unfolding measured_of ended
    no_items e = sym (ap measured_of (body_is ∙ ap (ended W len) (read_none items e)))

    module _ (r : Reached) (e : items_read_of 0 0 items ≡ Some r) where
      lying : ItemsLying (changes W) len (129 + 32 * deletes W) (read_as items r e).read
      lying =
          let f = (headed_fits flag W len h).lists in
          items_lie (changes W) flag W len (129 + 32 * deletes W) _ (omega arith) (read_as items r e).is

      pub counted_within : (r.fields ≤ len) × (r.next ≤ len) × (r.padded ≤ len)
      counted_within =
          let t = read_as items r e in
          let c = t.count_is in
          let n = t.next_is in
          let m = t.padded_is in
          let l = lying in
          (omega (arith, l.takes, l.within), omega (arith, l.within), omega (arith, l.counts, l.within))

      pub not_ended : (r.next ≡ len → ⊥) → None ≡ measured_of (body_of flag W len)
      unfolding measured_of
      not_ended n =
          let t = read_as items r e in
          sym (ap measured_of (body_is ∙ ap (ended W len) t.is ∙ ends_elsewhere W len t.read (λ z. n (sym t.next_is ∙ z))))

      pub body_measured : r.next ≡ len → (key base : ℤ) (d c : ℕ) → key ≡ signed_at W 1 → base ≡ signed_at W 33 → d ≡ deletes W → c ≡ changes W
          → Some (record { key = key; base = base; deletes = d; changes = c; fields = r.fields; used = r.next; padded = r.padded }) ≡ measured_of (body_of flag W len)
      unfolding measured_of
      body_measured n key base d c ek eb ed ec =
          let t = read_as items r e in
          let l = lying in
          let e₁ : length (deleted_from (deletes W) W 129) ≡ d = deleted_length (deletes W) W 129 ∙ sym ed in
          let e₂ : length t.read.items ≡ c = l.counted ∙ sym ec in
          let e₃ : length (fields_of t.read.items) ≡ r.fields = (let q = t.count_is in omega arith) in
          let e₄ : t.read.next ≡ r.next = t.next_is in
          let e₅ : padded_among (numbers_of t.read.items) ≡ r.padded = (let q = t.padded_is in omega arith) in
          sym
          (ap measured_of (body_is ∙ ap (ended W len) t.is ∙ ends_here W len t.read (e₄ ∙ n))
          ∙ ap Some
          (λ i. record { key = sym ek i; base = sym eb i; deletes = e₁ i; changes = e₂ i; fields = e₃ i; used = e₄ i; padded = e₅ i }))

-- ---- what a measure says of the body

pub record MeasuredAs (flag W len : ℕ) (delta : Delta) : Type 0 where
  pub read : Items
  pub fits : Fitting W len
  pub items_are : items_from (changes W) flag W len (129 + 32 * deletes W) ≡ Some read
  pub body_is : body_of flag W len ≡ Some (body_with W read)
  pub delta_is : delta_of (body_with W read) ≡ delta
  pub deletes_are : delta.deletes ≡ deletes W
  pub changes_are : delta.changes ≡ changes W

module _ (flag W len : ℕ) (delta : Delta) where
  absent : body_of flag W len ≡ None → measured_of (body_of flag W len) ≡ Some delta → MeasuredAs flag W len delta
  unfolding measured_of
  absent n e = let f = ap measured_of n in let z : ◌≡◌ {A = ℕ} 0 1 = cc in never z

  present : headed flag W len ≡ true → (r : Items) → items_from (changes W) flag W len (129 + 32 * deletes W) ≡ Some r → body_of flag W len ≡ Some (body_with W r)
      → measured_of (body_of flag W len) ≡ Some delta → MeasuredAs flag W len delta
  unfolding measured_of
  present h r i b e =
      let f = ap measured_of b in
      let d : delta_of (body_with W r) ≡ delta = cc in
      let k = headed_fits flag W len h in
      let l = k.lists in
      record {
        read = r;
        fits = k;
        items_are = i;
        body_is = b;
        delta_is = d;
        deletes_are = sym (ap (λ (x : Delta). x.deletes) d) ∙ deleted_length (deletes W) W 129;
        changes_are = sym (ap (λ (x : Delta). x.changes) d) ∙ (items_lie (changes W) flag W len (129 + 32 * deletes W) r (omega arith) i).counted;
      }

  ended_as : headed flag W len ≡ true → (o : Option Items) → items_from (changes W) flag W len (129 + 32 * deletes W) ≡ o
      → measured_of (body_of flag W len) ≡ Some delta → MeasuredAs flag W len delta
  unfolding ended
  ended_as h None i e = absent (body_is flag W len h ∙ ap (ended W len) i) e
  ended_as h (Some r) i e = go (eqb r.next len) refl
    where
      go : (x : Bool) → eqb r.next len ≡ x → MeasuredAs flag W len delta
      go true t = present h r i (body_is flag W len h ∙ ap (ended W len) i ∙ ends_here W len r (eqb-true _ _ t)) e
      go false t = absent (body_is flag W len h ∙ ap (ended W len) i ∙ ends_elsewhere W len r (eqb-false _ _ t)) e

  pub measured_as : measured_of (body_of flag W len) ≡ Some delta → MeasuredAs flag W len delta
  unfolding body_of
  measured_as e = go (headed flag W len) refl
    where
      go : (x : Bool) → headed flag W len ≡ x → MeasuredAs flag W len delta
      go true h = ended_as h (items_from (changes W) flag W len (129 + 32 * deletes W)) refl e
      go false h = absent (simp h) e
