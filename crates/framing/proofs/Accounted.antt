-- The sum of all bits: a window's bits from one to another are those of the numbers and leaves in between, those that events count as stepped past or
-- left, and those that went unread. By induction over how the events divide them.
use Prim.Native.Nat.{ℕ, ◌+◌, ◌≤◌, ◌<◌}
use mathlib.Core.Path.{◌≡◌, ap}
use mathlib.Core.List.{List, [], ◌∷◌}
use native.Mathlib.Omega.{arith}
use borrow.Author.Tests.{eqb-true}
use Rattle.bits.specs.Members.{All, StandsAt}
use Rattle.bits.proofs.MemberLaws.{all_map, EachBehind, behind_at}
use Rattle.framing.specs.Events.{Leaf, leaves, Trace}
use Rattle.framing.specs.Places.{Range}
use Rattle.framing.specs.Counters.{counters, faults, number_bits}
use Rattle.framing.specs.Accounts.{Divides, nothing_more, takes_number, takes_leaf, steps_past, left_at_root, stops_at_error, skips_tail, meets_limit, ends_early, enters_element, enters_array, gives_pair, unread_in, widths_among, leaf_bits, stretches, InOrder, Accounts}
use Rattle.framing.specs.Sinks.{Walker, Leafy, walk}
use Rattle.framing.specs.Verdicts.{clean, verdict_of}
use Rattle.framing.proofs.VerdictLaws.{says_clean}
use Rattle.framing.proofs.EachEvent.{walk_may, leaves_may, each_never, Proper}
use Rattle.framing.proofs.Divided.{walk_divided}

-- the bits that a trace accounts for: of its leaves, its numbers, and those that were stepped past or left
abbrev accounted : Trace → ℕ
accounted t = leaf_bits t + number_bits t + (counters t).nested_bits_lem + (counters t).root_bits_lem

module _ (k : Walker) where
  -- ---- from bit p to bit q

  divided_sum : {End : ℕ → Type 0} {p q : ℕ} {t : Trace} (d : Divides k End p t q) → p + (accounted t + unread_in d) ≡ q
  divided_sum (nothing_more e) = omega (arith, e)
  divided_sum (takes_number e d) = let z = divided_sum d in omega (arith, z)
  divided_sum (takes_leaf e d) = let z = divided_sum d in omega (arith, z)
  divided_sum (steps_past d) = let z = divided_sum d in omega (arith, z)
  divided_sum (left_at_root d) = let z = divided_sum d in omega (arith, z)
  divided_sum (stops_at_error m end d) = let z = divided_sum d in omega (arith, z)
  divided_sum (skips_tail m leafless end d) = let z = divided_sum d in omega (arith, z)
  divided_sum (meets_limit d) = let z = divided_sum d in omega (arith, z)
  divided_sum (ends_early d) = let z = divided_sum d in omega (arith, z)
  divided_sum (enters_element d) = let z = divided_sum d in omega (arith, z)
  divided_sum (enters_array d) = let z = divided_sum d in omega (arith, z)
  divided_sum (gives_pair d) = let z = divided_sum d in omega (arith, z)

  -- without an error nothing goes unread in a walk that keeps tails, and without a limit in no walk
  no_errors : Leafy k → {End : ℕ → Type 0} {p q : ℕ} {t : Trace} (d : Divides k End p t q) → (counters t).errors ≡ 0 → unread_in d ≡ 0
  no_errors leafy (nothing_more e) z = omega arith
  no_errors leafy (takes_number e d) z = no_errors leafy d (omega (arith, z))
  no_errors leafy (takes_leaf e d) z = no_errors leafy d (omega (arith, z))
  no_errors leafy (steps_past d) z = no_errors leafy d (omega (arith, z))
  no_errors leafy (left_at_root d) z = no_errors leafy d (omega (arith, z))
  no_errors leafy (stops_at_error m end d) z = absurd (omega (arith, z))
  no_errors leafy (skips_tail m leafless end d) z = absurd (leafless leafy)
  no_errors leafy (meets_limit d) z = no_errors leafy d (omega (arith, z))
  no_errors leafy (ends_early d) z = no_errors leafy d (omega (arith, z))
  no_errors leafy (enters_element d) z = no_errors leafy d (omega (arith, z))
  no_errors leafy (enters_array d) z = no_errors leafy d (omega (arith, z))
  no_errors leafy (gives_pair d) z = no_errors leafy d (omega (arith, z))

  no_stops : {End : ℕ → Type 0} {p q : ℕ} {t : Trace} (d : Divides k End p t q) → (counters t).errors + (counters t).truncations ≡ 0 → unread_in d ≡ 0
  no_stops (nothing_more e) z = omega arith
  no_stops (takes_number e d) z = no_stops d (omega (arith, z))
  no_stops (takes_leaf e d) z = no_stops d (omega (arith, z))
  no_stops (steps_past d) z = no_stops d (omega (arith, z))
  no_stops (left_at_root d) z = no_stops d (omega (arith, z))
  no_stops (stops_at_error m end d) z = absurd (omega (arith, z))
  no_stops (skips_tail m leafless end d) z = absurd (omega (arith, z))
  no_stops (meets_limit d) z = absurd (omega (arith, z))
  no_stops (ends_early d) z = no_stops d (omega (arith, z))
  no_stops (enters_element d) z = no_stops d (omega (arith, z))
  no_stops (enters_array d) z = no_stops d (omega (arith, z))
  no_stops (gives_pair d) z = no_stops d (omega (arith, z))

  -- the bits of numbers and leaves stand in the order in which they are taken
  sooner : (p r q : ℕ) (l : List Range) → p ≤ r → InOrder r l q → InOrder p l q
  sooner p r q [] h k = omega (arith, h, k)
  sooner p r q (x ∷ l) h k = let b = k.0 in (omega arith, k.1)

  divided_order : {End : ℕ → Type 0} {p q : ℕ} {t : Trace} → Divides k End p t q → InOrder p (stretches t) q
  divided_order (nothing_more e) = omega (arith, e)
  divided_order {q = q} (takes_number {x = x} {t = t} e d) = (omega (arith, e), sooner _ _ q (stretches t) (omega (arith, e)) (divided_order d))
  divided_order {q = q} (takes_leaf {x = x} {t = t} e d) = (omega (arith, e), sooner _ _ q (stretches t) (omega (arith, e)) (divided_order d))
  divided_order {p = p} {q = q} (steps_past {n = n} {t = t} d) = sooner p (p + n) q (stretches t) (omega arith) (divided_order d)
  divided_order {p = p} {q = q} (left_at_root {n = n} {t = t} d) = sooner p (p + n) q (stretches t) (omega arith) (divided_order d)
  divided_order {p = p} {q = q} (stops_at_error {t = t} m end d) = sooner p (p + m) q (stretches t) (omega arith) (divided_order d)
  divided_order {p = p} {q = q} (skips_tail {t = t} m leafless end d) = sooner p (p + m) q (stretches t) (omega arith) (divided_order d)
  divided_order (meets_limit d) = divided_order d
  divided_order (ends_early d) = divided_order d
  divided_order (enters_element d) = divided_order d
  divided_order (enters_array d) = divided_order d
  divided_order (gives_pair d) = divided_order d

-- ---- any two of them

in_order_from : (p q : ℕ) (l : List Range) → InOrder p l q → All (λ (r : Range). p ≤ r.start) l
in_order_from p q [] h = tt
in_order_from p q (r ∷ l) h =
    let b = h.0 in
    (b, all_map (λ (s : Range). r.start + r.width ≤ s.start) (λ (s : Range). p ≤ s.start) (λ s c. omega arith) l (in_order_from (r.start + r.width) q l h.1))

in_order_behind : (p q : ℕ) (l : List Range) → InOrder p l q → EachBehind (λ (r s : Range). r.start + r.width ≤ s.start) l
in_order_behind p q [] h = tt
in_order_behind p q (r ∷ l) h = (in_order_from (r.start + r.width) q l h.1, in_order_behind (r.start + r.width) q l h.1)

-- Of two stretches in order the later one starts at or behind the end of the other.
pub in_order_apart : (p q : ℕ) (l : List Range) → InOrder p l q → (i j : ℕ) (r s : Range) → i < j → StandsAt r i l → StandsAt s j l
    → r.start + r.width ≤ s.start
in_order_apart p q l h i j r s lt at to = behind_at (λ (a b : Range). a.start + a.width ≤ b.start) l (in_order_behind p q l h) r s i j lt at to

-- ---- every walk

-- THE SUM: the bits of all leaves, of all numbers, those that were stepped past or left and those that went unread are the window's bits; and the rest
-- that Accounts says.
pub walk_accounts : (k : Walker) (bytes : List ℕ) (n : ℕ) →
    let t = walk k bytes n in
    Accounts k n t (counters t) (leaf_bits t) (number_bits t)
walk_accounts k bytes n =
    let t = walk k bytes n in
    let d = walk_divided k bytes n in
    let sum : 0 + (accounted t + unread_in d) ≡ n = divided_sum k d in
    record {
      divided = d;
      in_order = divided_order k d;
      at_most = omega (arith, sum);
      sum = omega (arith, sum);
      without_errors = λ leafy z. no_errors k leafy d z;
      without_errors_or_limits = λ e l. no_stops k d (omega (arith, e, l));
      all_of_it = λ c.
          let z = eqb-true (faults (counters t)) 0 c in
          let u : unread_in d ≡ 0 = no_stops k d (omega (arith, z)) in
          omega (arith, sum, z, u);
    }

-- A clean walk: its leaves and numbers are all bits of its window.
pub clean_accounts : (k : Walker) (bytes : List ℕ) (n : ℕ) → verdict_of k n (counters (walk k bytes n)) ≡ clean
    → leaf_bits (walk k bytes n) + number_bits (walk k bytes n) ≡ n
clean_accounts k bytes n h = (walk_accounts k bytes n).all_of_it (says_clean k n (counters (walk k bytes n)) h).no_faults

-- An object walk has no leaves, so of a clean one the numbers alone are all bits.
pub object_leafless : (k : Walker) → (Leafy k → ⊥) → (bytes : List ℕ) (n : ℕ) → leaf_bits (walk k bytes n) ≡ 0
object_leafless k leafless bytes n =
    let t = walk k bytes n in
    ap widths_among (each_never (λ (x : Leaf). Leafy k × Proper x) (λ x h. leafless h.0) (leaves t) (leaves_may k t (walk_may k bytes n)))
