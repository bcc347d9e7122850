-- The laws of sums of counters, which are those of adding numbers; and of traces: counters, leaves, pairs, numbers, arrays and ranges of two traces one
-- behind the other. By induction over the first trace, since each event adds its own.
use mathlib.Core.Path.{◌≡◌, refl, sym, ap, ◌∙◌}
use mathlib.Core.List.{[], ◌∷◌, ◌++◌}
use Prim.Native.Nat.{◌+◌, ◌*◌}
use native.Mathlib.Nat.{zero-add, add_comm, add_assoc}
use native.Mathlib.Omega.{arith}
use lib.ListN.{length}
use Rattle.bits.specs.Padded.{padded_among}
use Rattle.bits.proofs.PaddedLaws.{among_append}
use Rattle.framing.specs.Events.{number, element, array, leaf, pair, truncation, error, implicit, nested, root, leaves, pairs, taken, arrays, Trace}
use Rattle.framing.specs.Places.{range, ranges}
use Rattle.framing.specs.Counters.{Counters, counted, counters, sums, count_of, padded_in}

pub sums_zero : (c : Counters) → sums (counted 0 0 0 0 0 0 0) c ≡ c
sums_zero c =
    λ i. record {
      elements = zero-add c.elements i;
      fields = zero-add c.fields i;
      truncations = zero-add c.truncations i;
      errors = zero-add c.errors i;
      nested_bits_lem = zero-add c.nested_bits_lem i;
      root_bits_lem = zero-add c.root_bits_lem i;
      implicits = zero-add c.implicits i;
    }

pub sums_assoc : (a b c : Counters) → sums (sums a b) c ≡ sums a (sums b c)
sums_assoc a b c =
    λ i. record {
      elements = add_assoc a.elements b.elements c.elements i;
      fields = add_assoc a.fields b.fields c.fields i;
      truncations = add_assoc a.truncations b.truncations c.truncations i;
      errors = add_assoc a.errors b.errors c.errors i;
      nested_bits_lem = add_assoc a.nested_bits_lem b.nested_bits_lem c.nested_bits_lem i;
      root_bits_lem = add_assoc a.root_bits_lem b.root_bits_lem c.root_bits_lem i;
      implicits = add_assoc a.implicits b.implicits c.implicits i;
    }

pub sums_comm : (a b : Counters) → sums a b ≡ sums b a
sums_comm a b =
    λ i. record {
      elements = add_comm a.elements b.elements i;
      fields = add_comm a.fields b.fields i;
      truncations = add_comm a.truncations b.truncations i;
      errors = add_comm a.errors b.errors i;
      nested_bits_lem = add_comm a.nested_bits_lem b.nested_bits_lem i;
      root_bits_lem = add_comm a.root_bits_lem b.root_bits_lem i;
      implicits = add_comm a.implicits b.implicits i;
    }

pub sums_none : (c : Counters) → sums c (counted 0 0 0 0 0 0 0) ≡ c
sums_none c = sums_comm c (counted 0 0 0 0 0 0 0) ∙ sums_zero c

-- of two that are added to a third, either may be added first
pub sums_swap : (a b c : Counters) → sums a (sums b c) ≡ sums b (sums a c)
sums_swap a b c = sym (sums_assoc a b c) ∙ ap (λ s. sums s c) (sums_comm a b) ∙ sums_assoc b a c

pub counters_append : (t u : Trace) → counters (t ++ u) ≡ sums (counters t) (counters u)
counters_append [] u = sym (sums_zero (counters u))
counters_append (e ∷ t) u = ap (λ c. sums (count_of e) c) (counters_append t u) ∙ sym (sums_assoc (count_of e) (counters t) (counters u))

pub leaves_append : (t u : Trace) → leaves (t ++ u) ≡ leaves t ++ leaves u
leaves_append [] u = refl
leaves_append (number x ∷ t) u = leaves_append t u
leaves_append (element p ∷ t) u = leaves_append t u
leaves_append (array p ∷ t) u = leaves_append t u
leaves_append (leaf x ∷ t) u = ap (λ l. x ∷ l) (leaves_append t u)
leaves_append (pair x ∷ t) u = leaves_append t u
leaves_append (truncation ∷ t) u = leaves_append t u
leaves_append (error ∷ t) u = leaves_append t u
leaves_append (implicit ∷ t) u = leaves_append t u
leaves_append (nested x ∷ t) u = leaves_append t u
leaves_append (root x ∷ t) u = leaves_append t u

pub pairs_append : (t u : Trace) → pairs (t ++ u) ≡ pairs t ++ pairs u
pairs_append [] u = refl
pairs_append (number x ∷ t) u = pairs_append t u
pairs_append (element p ∷ t) u = pairs_append t u
pairs_append (array p ∷ t) u = pairs_append t u
pairs_append (leaf x ∷ t) u = pairs_append t u
pairs_append (pair x ∷ t) u = ap (λ l. x ∷ l) (pairs_append t u)
pairs_append (truncation ∷ t) u = pairs_append t u
pairs_append (error ∷ t) u = pairs_append t u
pairs_append (implicit ∷ t) u = pairs_append t u
pairs_append (nested x ∷ t) u = pairs_append t u
pairs_append (root x ∷ t) u = pairs_append t u

pub taken_append : (t u : Trace) → taken (t ++ u) ≡ taken t ++ taken u
taken_append [] u = refl
taken_append (number x ∷ t) u = ap (λ l. x ∷ l) (taken_append t u)
taken_append (element p ∷ t) u = taken_append t u
taken_append (array p ∷ t) u = taken_append t u
taken_append (leaf x ∷ t) u = taken_append t u
taken_append (pair x ∷ t) u = taken_append t u
taken_append (truncation ∷ t) u = taken_append t u
taken_append (error ∷ t) u = taken_append t u
taken_append (implicit ∷ t) u = taken_append t u
taken_append (nested x ∷ t) u = taken_append t u
taken_append (root x ∷ t) u = taken_append t u

pub arrays_append : (t u : Trace) → arrays (t ++ u) ≡ arrays t ++ arrays u
arrays_append [] u = refl
arrays_append (array a ∷ t) u = ap (λ l. a ∷ l) (arrays_append t u)
arrays_append (number x ∷ t) u = arrays_append t u
arrays_append (element p ∷ t) u = arrays_append t u
arrays_append (leaf x ∷ t) u = arrays_append t u
arrays_append (pair x ∷ t) u = arrays_append t u
arrays_append (truncation ∷ t) u = arrays_append t u
arrays_append (error ∷ t) u = arrays_append t u
arrays_append (implicit ∷ t) u = arrays_append t u
arrays_append (nested x ∷ t) u = arrays_append t u
arrays_append (root x ∷ t) u = arrays_append t u

pub ranges_append : (t u : Trace) → ranges (t ++ u) ≡ ranges t ++ ranges u
ranges_append [] u = refl
ranges_append (number x ∷ t) u = ap (λ l. range x.start (8 * x.bytes) ∷ l) (ranges_append t u)
ranges_append (leaf x ∷ t) u = ap (λ l. range x.start x.width ∷ l) (ranges_append t u)
ranges_append (array a ∷ t) u = ap (λ l. range a.start a.width ∷ l) (ranges_append t u)
ranges_append (element p ∷ t) u = ranges_append t u
ranges_append (pair x ∷ t) u = ranges_append t u
ranges_append (truncation ∷ t) u = ranges_append t u
ranges_append (error ∷ t) u = ranges_append t u
ranges_append (implicit ∷ t) u = ranges_append t u
ranges_append (nested x ∷ t) u = ranges_append t u
ranges_append (root x ∷ t) u = ranges_append t u

pub padded_append : (t u : Trace) → padded_in (t ++ u) ≡ padded_in t + padded_in u
padded_append t u = ap padded_among (taken_append t u) ∙ among_append (taken t) (taken u)

-- The fields that were counted are the leaves and the pairs.
pub fields_given : (t : Trace) → (counters t).fields ≡ length (leaves t) + length (pairs t)
fields_given [] = refl
fields_given (leaf x ∷ t) = let z = fields_given t in omega (arith, z)
fields_given (pair x ∷ t) = let z = fields_given t in omega (arith, z)
fields_given (number x ∷ t) = let z = fields_given t in omega (arith, z)
fields_given (element p ∷ t) = let z = fields_given t in omega (arith, z)
fields_given (array p ∷ t) = let z = fields_given t in omega (arith, z)
fields_given (truncation ∷ t) = let z = fields_given t in omega (arith, z)
fields_given (error ∷ t) = let z = fields_given t in omega (arith, z)
fields_given (implicit ∷ t) = let z = fields_given t in omega (arith, z)
fields_given (nested n ∷ t) = let z = fields_given t in omega (arith, z)
fields_given (root n ∷ t) = let z = fields_given t in omega (arith, z)
