-- Counters: when they are clean, which verdict they and their windows get, and when two of them have sums.
use mathlib.Core.Path.{◌≡◌, refl, ap}
use mathlib.Core.Bool.{true, false, ◌&&◌}
use Prim.Native.Nat.{ℕ, ◌<◌}
use Rattle.std.proofs.Common.{arith}
use Rattle.std.proofs.lemmas.Bool.Decides.{nat_tests}
use lib.Dec.{eqb, ltb}
use borrow.Author.Tests.{ltb-true}
use Rattle.bits.proofs.ChoiceLaws.{and_true}
use Rattle.framing.specs.Counters.{Counters, counted, sums, faults, is_clean}
use Rattle.array.specs.Merges.{summed, overflowing, counter_limit, bounded, merge}

-- ---- clean

-- where four of the five are 0 the last decides
pub last_decides : (c : Counters) → c.truncations ≡ 0 → c.errors ≡ 0 → c.nested_bits_lem ≡ 0 → c.root_bits_lem ≡ 0 → eqb c.implicits 0 ≡ is_clean c
last_decides c t r n b = let e : c.implicits ≡ faults c = omega arith in ap (λ (k : ℕ). eqb k 0) e

-- ---- sums

-- each counter, where none is too large
pub record Below (c : Counters) : Type 0 where
  pub elements : c.elements < counter_limit
  pub fields : c.fields < counter_limit
  pub truncations : c.truncations < counter_limit
  pub errors : c.errors < counter_limit
  pub nested_bits_lem : c.nested_bits_lem < counter_limit
  pub root_bits_lem : c.root_bits_lem < counter_limit
  pub implicits : c.implicits < counter_limit

pub each_below : (c : Counters) → bounded c ≡ true → Below c
unfolding bounded
each_below c h =
    let a₇ = ltb c.implicits counter_limit in
    let a₆ = ltb c.root_bits_lem counter_limit && a₇ in
    let a₅ = ltb c.nested_bits_lem counter_limit && a₆ in
    let a₄ = ltb c.errors counter_limit && a₅ in
    let a₃ = ltb c.truncations counter_limit && a₄ in
    let a₂ = ltb c.fields counter_limit && a₃ in
    let h₁ = and_true (ltb c.elements counter_limit) a₂ h in
    let h₂ = and_true (ltb c.fields counter_limit) a₃ h₁.1 in
    let h₃ = and_true (ltb c.truncations counter_limit) a₄ h₂.1 in
    let h₄ = and_true (ltb c.errors counter_limit) a₅ h₃.1 in
    let h₅ = and_true (ltb c.nested_bits_lem counter_limit) a₆ h₄.1 in
    let h₆ = and_true (ltb c.root_bits_lem counter_limit) a₇ h₅.1 in
    record {
      elements = ltb-true _ _ h₁.0;
      fields = ltb-true _ _ h₂.0;
      truncations = ltb-true _ _ h₃.0;
      errors = ltb-true _ _ h₄.0;
      nested_bits_lem = ltb-true _ _ h₅.0;
      root_bits_lem = ltb-true _ _ h₆.0;
      implicits = ltb-true _ _ h₆.1;
    }

pub zero_bounded : bounded (counted 0 0 0 0 0 0 0) ≡ true
unfolding bounded
zero_bounded = refl

-- no part of a sum is larger than it
pub part_bounded : (a b : Counters) → bounded (sums a b) ≡ true → bounded a ≡ true
unfolding bounded
part_bounded a b h = grind (arith, nat_tests)

pub merge_sums : (a b : Counters) → bounded (sums a b) ≡ true → summed (sums a b) ≡ merge a b
unfolding merge
merge_sums a b h = simp h

pub merge_refused : (a b : Counters) → bounded (sums a b) ≡ false → overflowing 4 a ≡ merge a b
unfolding merge
merge_refused a b h = simp h
