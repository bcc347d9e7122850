-- Request 13, of any merge whose answers are bounded sums. A plan then comes to the bounded sums over its sets, or is refused: sums over a list are those
-- of every order of it, and no part of a sum is larger than it, so that a merge on the way is refused only where the total is too large.
use Rattle.std.specs.Prelude.{if◌then◌else◌}
use mathlib.Core.Path.{◌≡◌, refl, sym, ap, ap₂, ◌∙◌, subst}
use mathlib.Core.Bool.{true, false}
use mathlib.Core.List.{List, [], ◌∷◌, ◌++◌, append_assoc, append-nil}
use mathlib.Core.Option.{Option, none, some}
use Prim.Native.Nat.{ℕ}
use Rattle.bits.specs.Members.{Reorders}
use Rattle.bits.proofs.ChoiceLaws.{by_cases}
use Rattle.bits.proofs.Never.{never}
use Rattle.bits.proofs.MemberLaws.{any_order, all_reordered}
use Rattle.framing.specs.Counters.{Counters, counted, sums}
use Rattle.framing.proofs.TraceLaws.{sums_zero, sums_none, sums_comm, sums_assoc, sums_swap}
use Rattle.array.specs.Merges.{bounded}
use Rattle.array.proofs.StatsLaws.{zero_bounded, part_bounded}
use Rattle.promises.specs.Verdicts.{Exactly}
use Rattle.promises.specs.Totals.{ReadAs, Held, AllHeld, Plan, from_zero, one, both, sets, onto, in_turn, Given, MergesTo, ComesTo, sums_over, Commutes, Associates, ZeroKeeps, Comes, Totals}

-- ---- what is to be known of a merge

pub record Met {A R : Type 0} (adds : A → A → R → Type 0) (a b : A) : Type 0 where
  pub answer : R
  pub meets : adds a b answer

-- a sum of counters as a set, or none if one is too large
abbrev pub within : {A : Type 0} → (Counters → A) → Counters → Option A
within back c = if bounded c then some (back c) else none

-- An answer gives the bounded sum; a set is known by its counters; every two sets have an answer.
pub record Tells {A R : Type 0} (adds : A → A → R → Type 0) (f : ReadAs A R) : Type 0 where
  pub back : Counters → A
  pub back_counts : (a : A) → back (f.counts a) ≡ a
  pub counts_back : (c : Counters) → f.counts (back c) ≡ c
  pub zero_counts : f.counts f.zero ≡ counted 0 0 0 0 0 0 0
  pub told : (a b : A) (r : R) → adds a b r → f.sum_in r ≡ within back (sums (f.counts a) (f.counts b))
  pub answers : (a b : A) → Met adds a b

module _ {A R : Type 0} {adds : A → A → R → Type 0} (f : ReadAs A R) (t : Tells adds f) where
  -- what x may be where the sums are c: refused, and then they are too large; or the set that has them
  data Stands (x : Option A) (c : Counters) : Type 0 where
    lost : x ≡ none → bounded c ≡ false → Stands x c
    kept : x ≡ some (t.back c) → Stands x c

  within_kept : (c : Counters) → bounded c ≡ true → within t.back c ≡ some (t.back c)
  within_kept c e = simp e

  within_lost : (c : Counters) → bounded c ≡ false → within t.back c ≡ none
  within_lost c e = simp e

  stands : (x : Option A) (c : Counters) → x ≡ within t.back c → Stands x c
  stands x c e = by_cases (bounded c) (λ h. kept (e ∙ within_kept c h)) (λ h. lost (e ∙ within_lost c h) h)

  stands_some : (a : A) (c : Counters) → Stands (some a) c → f.counts a ≡ c
  stands_some a c (lost h k) = let n : ◌≡◌ {A = ℕ} 0 1 = cc in never n
  stands_some a c (kept h) = let g : a ≡ t.back c = cc in ap f.counts g ∙ t.counts_back c

  part_lost : (c d : Counters) → bounded c ≡ false → bounded (sums c d) ≡ false
  part_lost c d h =
      by_cases (bounded (sums c d)) (λ e. let k : true ≡ false = sym (part_bounded c d e) ∙ h in let z : ◌≡◌ {A = ℕ} 0 1 = cc in never z) (λ e. e)

  -- Two totals merged: a refused one's sums are too large already, and two that stand for their sums give these sums or are refused.
  merged_fits : (x y z : Option A) (c d : Counters) → Stands x c → Stands y d → MergesTo adds f x y z → z ≡ within t.back (sums c d)
  merged_fits x y z c d (lost e h) k m =
      subst (λ (o : Option A). MergesTo adds f o y z) e m ∙ sym (within_lost (sums c d) (part_lost c d h))
  merged_fits x y z c d (kept e) (lost g h) m =
      subst (λ (o : Option A). MergesTo adds f (some (t.back c)) o z) g (subst (λ (o : Option A). MergesTo adds f o y z) e m)
      ∙ sym (within_lost (sums c d) (ap bounded (sums_comm c d) ∙ part_lost d c h))
  merged_fits x y z c d (kept e) (kept g) m =
      let n : Given adds f (t.back c) (t.back d) z =
      subst (λ (o : Option A). MergesTo adds f (some (t.back c)) o z) g (subst (λ (o : Option A). MergesTo adds f o y z) e m) in
      n.sum
      ∙ t.told (t.back c) (t.back d) n.answer n.meets
      ∙ ap₂ (λ a b. within t.back (sums a b)) (t.counts_back c) (t.counts_back d)

  -- ---- plans

  sums_append : (l m : List A) → sums_over f (l ++ m) ≡ sums (sums_over f l) (sums_over f m)
  sums_append [] m = sym (sums_zero (sums_over f m))
  sums_append (a ∷ l) m = ap (λ s. sums (f.counts a) s) (sums_append l m) ∙ sym (sums_assoc (f.counts a) (sums_over f l) (sums_over f m))

  one_total : (a : A) → t.back (sums_over f (a ∷ [])) ≡ a
  one_total a = ap t.back (sums_none (f.counts a)) ∙ t.back_counts a

  zero_total : f.zero ≡ t.back (counted 0 0 0 0 0 0 0)
  zero_total = sym (t.back_counts f.zero) ∙ ap t.back t.zero_counts

  -- a plan that comes to the bounded sums over its sets
  abbrev Fits : Plan A → Type 0
  Fits p = (x : Option A) → ComesTo adds f p x → x ≡ within t.back (sums_over f (sets p))

  joined : (p q : Plan A) → ((x : Option A) → ComesTo adds f p x → Stands x (sums_over f (sets p)))
      → ((y : Option A) → ComesTo adds f q y → Stands y (sums_over f (sets q))) → Fits (both p q)
  joined p q g h x e =
      merged_fits e.left_total e.right_total x (sums_over f (sets p)) (sums_over f (sets q)) (g e.left_total e.comes_left)
      (h e.right_total e.comes_right) e.merges
      ∙ ap (within t.back) (sym (sums_append (sets p) (sets q)))

  plan_stands : (p : Plan A) (x : Option A) → ComesTo adds f p x → Stands x (sums_over f (sets p))
  plan_stands from_zero x e = kept (e ∙ ap some zero_total)
  plan_stands (one a) x e = kept (e ∙ ap some (sym (one_total a)))
  plan_stands (both p q) x e = stands x (sums_over f (sets p ++ sets q)) (joined p q (plan_stands p) (plan_stands q) x e)

  zero_fits : Fits from_zero
  zero_fits x e = e ∙ ap some zero_total ∙ sym (within_kept (counted 0 0 0 0 0 0 0) zero_bounded)

  both_fit : (p q : Plan A) → Fits (both p q)
  both_fit p q = joined p q (plan_stands p) (plan_stands q)

  held_fits : (p : Plan A) → AllHeld f (sets p) → Fits p
  held_fits from_zero h = zero_fits
  held_fits (one a) h = λ x e.
      e ∙ ap some (sym (one_total a)) ∙ sym (within_kept (sums_over f (a ∷ [])) (ap bounded (sums_none (f.counts a)) ∙ h.0))
  held_fits (both p q) h = both_fit p q

  onto_fits : (p : Plan A) (l : List A) → Fits p → Fits (onto p l)
  onto_fits p [] h = h
  onto_fits p (a ∷ l) h = onto_fits (both p (one a)) l (both_fit p (one a))

  sets_onto : (p : Plan A) (l : List A) → sets (onto p l) ≡ sets p ++ l
  sets_onto p [] = sym (append-nil (sets p))
  sets_onto p (a ∷ l) = sets_onto (both p (one a)) l ∙ append_assoc (sets p) (a ∷ []) l

  turn_fits : (l : List A) (x : Option A) → ComesTo adds f (in_turn l) x → x ≡ within t.back (sums_over f l)
  turn_fits l x e = onto_fits from_zero l zero_fits x e ∙ ap (λ s. within t.back (sums_over f s)) (sets_onto from_zero l)

  -- ---- the laws

  pub commutes : Commutes adds f
  commutes a b r s g h =
      t.told a b r g ∙ ap (within t.back) (sums_comm (f.counts a) (f.counts b)) ∙ sym (t.told b a s h)

  pub associates : Associates adds f
  associates a b c x y g h =
      both_fit (both (one a) (one b)) (one c) x g ∙ sym (both_fit (one a) (both (one b) (one c)) y h)

  pub zero_keeps : ZeroKeeps adds f
  zero_keeps =
      record {
        all_zero = t.zero_counts;
        on_the_left = λ a r h g. t.told f.zero a r g ∙ ap (within t.back) (ap (λ s. sums s (f.counts a)) t.zero_counts ∙ sums_zero (f.counts a)) ∙ self a h;
        on_the_right = λ a r h g. t.told a f.zero r g ∙ ap (within t.back) (ap (λ s. sums (f.counts a) s) t.zero_counts ∙ sums_none (f.counts a)) ∙ self a h;
      }
    where
      self : (a : A) → Held f a → within t.back (f.counts a) ≡ some a
      self a h = within_kept (f.counts a) h ∙ ap some (t.back_counts a)

  same_total : (l m : List A) → Reorders l m → sums_over f l ≡ sums_over f m
  same_total = any_order (λ a s. sums (f.counts a) s) (λ a b s. sums_swap (f.counts a) (f.counts b) s) (sums_over f) (λ a l. refl)

  refused_exactly : (x : Option A) (c : Counters) → x ≡ within t.back c → Exactly (x ≡ none) (bounded c ≡ false)
  refused_exactly x c e = (
    λ h. by_cases (bounded c) (λ k. let z : some (t.back c) ≡ none = sym (within_kept c k) ∙ sym e ∙ h in let n : ◌≡◌ {A = ℕ} 0 1 = cc in never n) (λ k. k),
    λ h. e ∙ within_lost c h,
  )

  pub merge_sum : (a b s : A) (r : R) → adds a b r → f.sum_in r ≡ some s → f.counts s ≡ sums (f.counts a) (f.counts b)
  merge_sum a b s r g h =
      let c = sums (f.counts a) (f.counts b) in
      stands_some s c (stands (some s) c (sym h ∙ t.told a b r g))

  pub is_sum : (p : Plan A) (a : A) → ComesTo adds f p (some a) → f.counts a ≡ sums_over f (sets p)
  is_sum p a e = stands_some a (sums_over f (sets p)) (plan_stands p (some a) e)

  pub list_sum : (l : List A) (a : A) → ComesTo adds f (in_turn l) (some a) → f.counts a ≡ sums_over f l
  list_sum l a e = is_sum (in_turn l) a e ∙ ap (sums_over f) (sets_onto from_zero l)

  all_come : (p : Plan A) → Comes adds f p
  all_come from_zero = record { outcome = some f.zero; comes = refl }
  all_come (one a) = record { outcome = some a; comes = refl }
  all_come (both p q) = go (all_come p) (all_come q)
    where
      merges : (x y : Option A) → ComesTo adds f p x → ComesTo adds f q y → Comes adds f (both p q)
      merges (some a) (some b) g h =
          let m = t.answers a b in
          record {
            outcome = f.sum_in m.answer;
            comes = record {
              left_total = some a;
              right_total = some b;
              comes_left = g;
              comes_right = h;
              merges = record { answer = m.answer; meets = m.meets; sum = refl };
            };
          }
      merges (some a) none g h = record { outcome = none; comes = record { left_total = some a; right_total = none; comes_left = g; comes_right = h; merges = refl } }
      merges none y g h = record { outcome = none; comes = record { left_total = none; right_total = y; comes_left = g; comes_right = h; merges = refl } }

      go : Comes adds f p → Comes adds f q → Comes adds f (both p q)
      go c d = merges c.outcome d.outcome c.comes d.comes

  pub totals : Totals adds f
  totals =
      record {
        orders = λ l m o x y g h. turn_fits l x g ∙ ap (within t.back) (same_total l m o) ∙ sym (turn_fits m y h);
        brackets = λ p q k o x y g h.
            let s = same_total (sets p) (sets q) o in
            held_fits p k x g ∙ ap (within t.back) s ∙ sym (held_fits q (all_reordered (Held f) (sets p) (sets q) o k) y h);
        refused = λ l x g. refused_exactly x (sums_over f l) (turn_fits l x g);
        brackets_refused = λ p k x g. refused_exactly x (sums_over f (sets p)) (held_fits p k x g);
        has_sums = list_sum;
        brackets_have_sums = is_sum;
        all_come = all_come;
      }
