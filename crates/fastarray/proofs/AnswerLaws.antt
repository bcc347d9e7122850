-- The answer of a call, case by case, with what it leaves in the lent buffers.
use Rattle.std.specs.Prelude.{Option, None, Some, Result, Ok, Err, if◌then◌else◌}
use Prim.Native.Nat.{ℕ, ◌+◌, ◌*◌, ◌/◌, ◌≤◌, ◌<◌}
use mathlib.Core.Path.{◌≡◌, refl, sym, ap, ap₂, ◌∙◌, subst}
use mathlib.Core.Bool.{Bool, true, false, ◌&&◌}
use mathlib.Core.List.{List, [], ◌∷◌}
use native.Mathlib.Omega.{arith}
use lib.ListN.{length}
use lib.Dec.{leb}
use lib.IntN.{ℤ}
use borrow.Author.Tests.{lt-ltb, le-ltb, eq-eqb, ne_eqb, leb-true}
use Rattle.bits.proofs.ChoiceLaws.{and_true}
use Rattle.bits.specs.Runs.{bytes_for, filled}
use Rattle.bits.specs.Sizes.{longest_window}
use Rattle.bits.proofs.Never.{never}
use Rattle.fastarray.specs.Body.{window, flag_bits_lem, deleted_from, items_from, Items, Body, body_of, fields_of}
use Rattle.fastarray.specs.Records.{deleted_record, item_record, field_record, records, store_all}
use Rattle.fastarray.specs.Parts.{delta_of, need_of, measured_of, ItemsStored}
use Rattle.fastarray.specs.Answers.{Call, Lent, lent, found, room_for, fits_in, decided, answer, at_exit, deleted_in, items_in, Answered}
use Rattle.fastarray.proofs.StoreLaws.{stored_front, records_length}
use Rattle.fastarray.proofs.HeaderLaws.{body_with, measured_as}
use Rattle.fastarray.specs.declared.Delta.{Delta}
use Rattle.fastarray.specs.declared.Need.{Need}
use Rattle.fastarray.specs.declared.Refusal.{Refusal}
use Rattle.fastarray.specs.declared.Refusal.TheVariants.{TooLong, NotFastArray, Short}

-- ---- room

module _ (d i f dl il fl : ℕ) where
  roomy : room_for d i f dl il fl ≡ true → (d ≤ dl) × (2 * i ≤ il) × (3 * f ≤ fl)
  unfolding room_for
  roomy e =
      let a = and_true (leb d dl) (leb i (il / 2) && leb f (fl / 3)) e in
      let b = and_true (leb i (il / 2)) (leb f (fl / 3)) a.1 in
      let h₁ : d ≤ dl = leb-true _ _ a.0 in
      let h₂ : i ≤ il / 2 = leb-true _ _ b.0 in
      let h₃ : f ≤ fl / 3 = leb-true _ _ b.1 in
      (h₁, omega arith, omega arith)

-- ids stand by themselves
ids : (l : List ℤ) → records deleted_record l ≡ l
unfolding records
ids [] = refl
ids (z ∷ l) = ap (λ (m : List ℤ). z ∷ m) (ids l)

measured_none : (o : Option Body) → measured_of o ≡ None → o ≡ None
unfolding measured_of
measured_none None e = refl
measured_none (Some b) e = let z : ◌≡◌ {A = ℕ} 0 1 = cc in never z

-- ---- answers

module _ (c : Call) (l : Lent) where
  -- a refusal leaves all as lent
  pub refused : (e : Refusal) → Err e ≡ answer c l → Answered c l (Err e) l
  unfolding at_exit
  refused r e = record { says = e; deleted = rw (← e) refl; items = rw (← e) refl; fields = rw (← e) refl }

  pub answer_long : longest_window < c.bits → Answered c l (Err TooLong) l
  unfolding answer
  answer_long h = refused TooLong (simp (lt-ltb _ _ h))

  module _ (b : c.bits ≤ longest_window) where
    short_enough : answer c l ≡ decided (found c) l
    unfolding answer
    short_enough = simp (le-ltb _ _ b)

    pub answer_length : (length c.bytes ≡ bytes_for c.bits → ⊥) → Answered c l (Err NotFastArray) l
    unfolding found decided
    answer_length n = refused NotFastArray (sym (short_enough ∙ simp (ne_eqb _ _ n)))

    module _ (e : length c.bytes ≡ bytes_for c.bits) where
      abbrev pub body : Option Body
      body = body_of (flag_bits_lem c.mode) (window c.bytes c.bits) c.bits

      found_is : found c ≡ body
      unfolding found
      found_is = simp (eq-eqb _ _ e)

      pub answer_none : measured_of body ≡ None → Answered c l (Err NotFastArray) l
      unfolding decided
      answer_none m =
          refused NotFastArray (sym (short_enough ∙ ap (λ (o : Option Body). decided o l) (found_is ∙ measured_none body m)))

      -- the answer where there is a body b
      with_body : (b : Body) (t : Bool) → body ≡ Some b → fits_in b l ≡ t
          → answer c l ≡ (if t then Ok (delta_of b) else Err (Short (need_of b)))
      unfolding decided
      with_body b t f h = short_enough ∙ ap (λ (o : Option Body). decided o l) (found_is ∙ f) ∙ simp h

      module _ (delta : Delta) (m : measured_of body ≡ Some delta) where
        abbrev pub need : Need
        need = record { deletes = delta.deletes; items = delta.changes; fields = delta.fields }

        pub answer_short : room_for delta.deletes delta.changes delta.fields (length l.deleted) (length l.items) (length l.fields) ≡ false
            → Answered c l (Err (Short need)) l
        answer_short h =
            let a = measured_as _ _ _ delta m in
            refused (Short need)
            (subst
            (λ (x : Delta). room_for x.deletes x.changes x.fields (length l.deleted) (length l.items) (length l.fields) ≡ false
            → Err (Short (record { deletes = x.deletes; items = x.changes; fields = x.fields })) ≡ answer c l)
            a.delta_is
            (λ k. sym (with_body _ false a.body_is k))
            h)

        pub answer_written : (d' : List ℤ) (i' f' : List ℕ)
            → room_for delta.deletes delta.changes delta.fields (length l.deleted) (length l.items) (length l.fields) ≡ true
            → d' ≡ store_all deleted_record l.deleted 0 (deleted_from delta.deletes (window c.bytes c.bits) 129)
            → ItemsStored (items_from delta.changes (flag_bits_lem c.mode) (window c.bytes c.bits) c.bits (129 + 32 * delta.deletes)) 0 0 l.items l.fields i' f'
            → Answered c l (Ok delta) (lent d' i' f')
        unfolding ItemsStored at_exit deleted_in items_in
        answer_written d' i' f' h ed es =
            let a = measured_as _ _ _ delta m in
            let W = window c.bytes c.bits in
            let b = body_with W a.read in
            let e₁ = a.deletes_are in
            let e₂ = a.changes_are in
            let says : Ok delta ≡ answer c l
            = subst
            (λ (x : Delta). room_for x.deletes x.changes x.fields (length l.deleted) (length l.items) (length l.fields) ≡ true → Ok x ≡ answer c l)
            a.delta_is
            (λ k. sym (with_body b true a.body_is k))
            h in
            let room = roomy _ _ _ _ _ _ h in
            let n₁ : length b.deleted ≡ delta.deletes = ap (λ (x : Delta). x.deletes) a.delta_is in
            let n₂ : length b.items ≡ delta.changes = ap (λ (x : Delta). x.changes) a.delta_is in
            let n₃ : length (fields_of b.items) ≡ delta.fields = ap (λ (x : Delta). x.fields) a.delta_is in
            let l₁ = ap length (ids b.deleted) in
            let l₂ = records_length item_record 2 (λ y. refl) b.items in
            let l₃ = records_length field_record 3 (λ y. refl) (fields_of b.items) in
            let f : found c ≡ Some b = found_is ∙ a.body_is in
            let stored : ItemsStored (Some a.read) 0 0 l.items l.fields i' f'
            = subst (λ (o : Option Items). ItemsStored o 0 0 l.items l.fields i' f') (ap₂ (λ (n k : ℕ). items_from k (flag_bits_lem c.mode) W c.bits (129 + 32 * n)) e₁ e₂ ∙ a.items_are) es in
            let d-is : d' ≡ filled b.deleted l.deleted
            = ed
            ∙ ap (λ (n : ℕ). store_all deleted_record l.deleted 0 (deleted_from n W 129)) e₁
            ∙ stored_front deleted_record b.deleted l.deleted (omega arith)
            ∙ ap (λ (x : List ℤ). filled x l.deleted) (ids b.deleted) in
            let i-is : i' ≡ filled (records item_record b.items) l.items = stored.0 ∙ stored_front item_record b.items l.items (omega arith) in
            let f-is : f' ≡ filled (records field_record (fields_of b.items)) l.fields = stored.1 ∙ stored_front field_record (fields_of b.items) l.fields (omega arith) in
            record {
              says = says;
              deleted = d-is ∙ ap₂ (λ (r : Result Delta Refusal) (o : Option Body). at_exit r (deleted_in o) l.deleted) says (sym f);
              items = i-is ∙ ap₂ (λ (r : Result Delta Refusal) (o : Option Body). at_exit r (records item_record (items_in o)) l.items) says (sym f);
              fields = f-is ∙ ap₂ (λ (r : Result Delta Refusal) (o : Option Body). at_exit r (records field_record (fields_of (items_in o))) l.fields) says (sym f);
            }

-- Two answers that meet the contract are the same, with the same buffers.
pub one_answer : (c : Call) (l : Lent) (r r' : Result Delta Refusal) (e e' : Lent) → Answered c l r e → Answered c l r' e' → (r ≡ r') × (e ≡ e')
one_answer c l r r' e e' a b =
    let p : e.deleted ≡ e'.deleted = a.deleted ∙ sym b.deleted in
    let q : e.items ≡ e'.items = a.items ∙ sym b.items in
    let s : e.fields ≡ e'.fields = a.fields ∙ sym b.fields in
    (a.says ∙ sym b.says, λ i. record { deleted = p i; items = q i; fields = s i })
