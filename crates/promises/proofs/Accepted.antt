-- What an accepted walk's answer tells, and that the number of a refused one isn't 0: both are read off the order of refusals.
use Rattle.std.specs.Prelude.{if◌then◌else◌}
use mathlib.Core.Path.{◌≡◌}
use mathlib.Core.Bool.{Bool, true, false, not}
use Prim.Native.Nat.{ℕ}
use native.Mathlib.Omega.{arith}
use lib.Dec.{ltb}
use Rattle.bits.specs.Sizes.{longest_window}
use Rattle.bits.proofs.Never.{never}
use Rattle.framing.specs.Events.{Trace}
use Rattle.framing.specs.Counters.{Counters, counters, padded_in}
use Rattle.framing.specs.Refusing.{Answer, refused, accepted, decided}

module _ {Need : Type 0} (bits : ℕ) (ok : Bool) (t : Trace) (nothing need : Need) (enough : Bool) where
  abbrev ordered : (a b c : Bool) → Answer Need
  ordered a b c =
      if a then refused 1 nothing else (if not b then refused 2 nothing else (if not c then refused 3 need else accepted (counters t) (padded_in t) need))

  -- the walk's counters, what it needs, and its padded numbers
  pub accepted_tells : {k : Counters} {p : ℕ} {n : Need} → accepted k p n ≡ decided bits ok t nothing need enough → (k ≡ counters t) × (n ≡ need) × (p ≡ padded_in t)
  unfolding decided
  accepted_tells {k} {p} {n} e = go (ltb longest_window bits) ok enough e
    where
      go : (a b c : Bool) → accepted k p n ≡ ordered a b c → (k ≡ counters t) × (n ≡ need) × (p ≡ padded_in t)
      go true b c e = let z : ◌≡◌ {A = ℕ} 0 1 = cc in never z
      go false false c e = let z : ◌≡◌ {A = ℕ} 0 1 = cc in never z
      go false true false e = let z : ◌≡◌ {A = ℕ} 0 1 = cc in never z
      go false true true e = (cc, cc, cc)

  pub refused_numbered : {k : ℕ} {n : Need} → refused k n ≡ decided bits ok t nothing need enough → k ≡ 0 → ⊥
  unfolding decided
  refused_numbered {k} {n} e z = go (ltb longest_window bits) ok enough e
    where
      go : (a b c : Bool) → refused k n ≡ ordered a b c → ⊥
      go true b c e = let f : k ≡ 1 = cc in omega arith
      go false false c e = let f : k ≡ 2 = cc in omega arith
      go false true false e = let f : k ≡ 3 = cc in omega arith
      go false true true e = let y : ◌≡◌ {A = ℕ} 0 1 = cc in never y
