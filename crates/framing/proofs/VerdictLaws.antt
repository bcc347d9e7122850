-- When a verdict is clean, partial or empty: each case of the definition, and what a verdict says of the window.
use Rattle.std.specs.Prelude.{if◌then◌else◌}
use mathlib.Core.Path.{◌≡◌, refl, ◌∙◌}
use mathlib.Core.Bool.{Bool, true, false}
use Prim.Native.Nat.{ℕ, ◌≤◌}
use native.Mathlib.Omega.{arith}
use lib.Dec.{eqb}
use borrow.Author.Tests.{eqb-true, eqb-false, ne_eqb}
use Rattle.bits.proofs.ChoiceLaws.{by_cases, and_true}
use Rattle.bits.proofs.Never.{never}
use Rattle.framing.specs.declared.Walk.TheVariants as how
use Rattle.framing.specs.Counters.{Counters, counted, faults, is_clean}
use Rattle.framing.specs.Sinks.{Walker, walker, gives_leaves_lem, Leafy, silent}
use Rattle.framing.specs.Verdicts.{clean, partial, empty, counters_verdict, verdict_of}

-- ---- a set of counters

module _ (c : Counters) where
  -- what a clean set counts: elements and fields
  pub clean_counts : is_clean c ≡ true → c ≡ counted c.elements c.fields 0 0 0 0 0
  clean_counts e =
      let z = eqb-true (faults c) 0 e in
      let t : c.truncations ≡ 0 = omega (arith, z) in
      let r : c.errors ≡ 0 = omega (arith, z) in
      let n : c.nested_bits_lem ≡ 0 = omega (arith, z) in
      let b : c.root_bits_lem ≡ 0 = omega (arith, z) in
      let m : c.implicits ≡ 0 = omega (arith, z) in
      λ i. counted c.elements c.fields (t i) (r i) (n i) (b i) (m i)

  pub set_clean : is_clean c ≡ true → counters_verdict c ≡ clean
  unfolding counters_verdict
  set_clean e = simp e

  pub set_partial : is_clean c ≡ false → counters_verdict c ≡ partial
  unfolding counters_verdict
  set_partial e = simp e

  pub clean_set : counters_verdict c ≡ clean → is_clean c ≡ true
  unfolding counters_verdict
  clean_set h = go (is_clean c) refl h
    where
      go : (x : Bool) → is_clean c ≡ x → (if x then clean else partial) ≡ clean → is_clean c ≡ true
      go true e h = e
      go false e h = let z : ◌≡◌ {A = ℕ} 0 1 = cc in never z

  pub partial_set : counters_verdict c ≡ partial → is_clean c ≡ false
  unfolding counters_verdict
  partial_set h = go (is_clean c) refl h
    where
      go : (x : Bool) → is_clean c ≡ x → (if x then clean else partial) ≡ partial → is_clean c ≡ false
      go true e h = let z : ◌≡◌ {A = ℕ} 0 1 = cc in never z
      go false e h = e

  -- whatever was counted, a set isn't empty
  pub set_not_empty : counters_verdict c ≡ empty → ⊥
  unfolding counters_verdict
  set_not_empty h = go (is_clean c) h
    where
      go : (x : Bool) → (if x then clean else partial) ≡ empty → ⊥
      go true h = let z : ◌≡◌ {A = ℕ} 0 1 = cc in never z
      go false h = let z : ◌≡◌ {A = ℕ} 0 1 = cc in never z

-- ---- a window

-- silent: a struct or exact walk, of no bits
pub silent_none : (k : Walker) (n : ℕ) → silent k n ≡ true → Leafy k × (n ≡ 0)
silent_none (walker s t lvl) n e = let h = and_true (gives_leaves_lem s) (eqb n 0) e in (h.0, eqb-true n 0 h.1)

pub none_silent : (k : Walker) (n : ℕ) → Leafy k → n ≡ 0 → silent k n ≡ true
none_silent (walker s t lvl) n e z = rw (e, z)

-- an object walk is never silent
pub object_loud : (k : Walker) (n : ℕ) → (Leafy k → ⊥) → silent k n ≡ false
object_loud (walker s t lvl) n h = by_cases (gives_leaves_lem s) (λ e. absurd (h e)) (λ e. rw e refl)

-- a walk of one bit or more isn't silent
pub loud : (k : Walker) (bits : ℕ) → 1 ≤ bits → silent k bits ≡ false
loud (walker how.Struct t lvl) bits h = ne_eqb bits 0 (λ z. omega arith)
loud (walker how.Exact t lvl) bits h = ne_eqb bits 0 (λ z. omega arith)
loud (walker how.Object t lvl) bits h = refl

module _ (k : Walker) (bits : ℕ) (c : Counters) where
  -- of no bits, in a struct or exact walk
  pub silent_empty : silent k bits ≡ true → verdict_of k bits c ≡ empty
  unfolding verdict_of
  silent_empty e = simp e

  -- of no bits, in an object walk
  pub none_partial : silent k bits ≡ false → bits ≡ 0 → verdict_of k bits c ≡ partial
  unfolding verdict_of
  none_partial e z = rw (e, z)

  -- of one bit or more
  pub some_verdict : 1 ≤ bits → verdict_of k bits c ≡ counters_verdict c
  unfolding verdict_of
  some_verdict h = simp (loud k bits h, ne_eqb bits 0 (λ z. omega arith))

  -- What clean says: there are bits, and nothing but elements and fields was counted.
  pub record SaysClean : Type 0 where
    pub some : 1 ≤ bits
    pub no_faults : is_clean c ≡ true

  pub says_clean : verdict_of k bits c ≡ clean → SaysClean
  unfolding verdict_of
  says_clean h = go (silent k bits) (eqb bits 0) refl h
    where
      go : (x y : Bool) → eqb bits 0 ≡ y → (if x then empty else (if y then partial else counters_verdict c)) ≡ clean → SaysClean
      go true y e h = let z : ◌≡◌ {A = ℕ} 0 1 = cc in never z
      go false true e h = let z : ◌≡◌ {A = ℕ} 0 1 = cc in never z
      go false false e h = let f = eqb-false bits 0 e in record { some = omega arith; no_faults = clean_set c h }

  pub some_clean : SaysClean → verdict_of k bits c ≡ clean
  some_clean s = some_verdict s.some ∙ set_clean c s.no_faults

  -- What empty says: a struct or exact walk was sent no bits.
  pub says_empty : verdict_of k bits c ≡ empty → silent k bits ≡ true
  unfolding verdict_of
  says_empty h = go (silent k bits) (eqb bits 0) refl h
    where
      go : (x y : Bool) → silent k bits ≡ x → (if x then empty else (if y then partial else counters_verdict c)) ≡ empty → silent k bits ≡ true
      go true y e h = e
      go false true e h = let z : ◌≡◌ {A = ℕ} 0 1 = cc in never z
      go false false e h = absurd (set_not_empty c h)

  -- What partial says: it is no struct or exact walk of no bits.
  pub says_partial : verdict_of k bits c ≡ partial → silent k bits ≡ false
  unfolding verdict_of
  says_partial h = go (silent k bits) refl h
    where
      go : (x : Bool) → silent k bits ≡ x → (if x then empty else (if eqb bits 0 then partial else counters_verdict c)) ≡ partial → silent k bits ≡ false
      go true e h = let z : ◌≡◌ {A = ℕ} 0 1 = cc in never z
      go false e h = e
