-- What the code's proofs and the public contracts cite of the paste law: counters, positions, lengths, contents. From nothing, what is there is
-- what the trace added.
use mathlib.Core.Path.{◌≡◌, refl, ap, ◌∙◌}
use mathlib.Core.List.{List, [], ◌∷◌, ◌++◌}
use Prim.Native.Nat.{ℕ, ◌+◌, ◌*◌, ◌≤◌}
use native.Mathlib.Nat.{zero-add}
use native.Mathlib.Omega.{arith}
use lib.ListN.{length, drop}
use Rattle.bits.specs.Runs.{put}
use Rattle.bits.specs.Runs.{filled}
use Rattle.framing.specs.Events.{number, element, array, leaf, pair, truncation, error, implicit, nested, root, leaves, pairs, Trace}
use Rattle.framing.specs.Counters.{counters, sums, padded_in}
use Rattle.framing.specs.Records.{leaf_words, pair_words, leaf_record, pair_record, payload_of, path_bytes_lem, payload_bytes_lem, leaf_records, pair_records}
use Rattle.framing.proofs.TraceLaws.{sums_zero}
use Rattle.outputs.specs.World.{plain, World, apply, fresh, trace_records, Totals}
use Rattle.outputs.proofs.Paste.{tally_law, records_over, paths_over, payloads_over}

-- ---- counters

pub counters_after : (t : Trace) (w : World) → (apply plain t w).counters ≡ sums w.counters (counters t)
counters_after t w = ap (λ (s : Totals). s.counters) (tally_law t w)

-- from a fresh world: the counters of the trace
pub counters_fresh : (t : Trace) (l p y : List ℕ) → (apply plain t (fresh l p y)).counters ≡ counters t
counters_fresh t l p y = counters_after t (fresh l p y) ∙ sums_zero (counters t)

-- ---- padded numbers

pub padded_after : (t : Trace) (w : World) → (apply plain t w).padded ≡ w.padded + padded_in t
padded_after t w = ap (λ (s : Totals). s.padded) (tally_law t w)

pub padded_fresh : (t : Trace) (l p y : List ℕ) → (apply plain t (fresh l p y)).padded ≡ padded_in t
padded_fresh t l p y = padded_after t (fresh l p y) ∙ zero-add (padded_in t)

-- ---- positions: what they were and what the trace needs, whatever the buffers hold

pub records_at : (t : Trace) (w : World) → (apply plain t w).records.at ≡ w.records.at + length (trace_records w.paths.at w.payloads.at t)
records_at t w = ap (λ (s : Totals). s.records) (tally_law t w)

pub paths_at : (t : Trace) (w : World) → (apply plain t w).paths.at ≡ w.paths.at + length (path_bytes_lem (leaves t))
paths_at t w = ap (λ (s : Totals). s.paths) (tally_law t w)

pub payloads_at : (t : Trace) (w : World) → (apply plain t w).payloads.at ≡ w.payloads.at + length (payload_bytes_lem (leaves t))
payloads_at t w = ap (λ (s : Totals). s.payloads) (tally_law t w)

pub records_length : (a b : ℕ) (t : Trace) → length (trace_records a b t) ≡ leaf_words * length (leaves t) + pair_words * length (pairs t)
unfolding trace_records
records_length a b [] = refl
records_length a b (leaf x ∷ t) = let z = records_length (a + length x.path) (b + length (payload_of x)) t in omega arith
records_length a b (pair x ∷ t) = let z = records_length a b t in omega arith
records_length a b (number x ∷ t) = records_length a b t
records_length a b (element p ∷ t) = records_length a b t
records_length a b (array p ∷ t) = records_length a b t
records_length a b (truncation ∷ t) = records_length a b t
records_length a b (error ∷ t) = records_length a b t
records_length a b (implicit ∷ t) = records_length a b t
records_length a b (nested n ∷ t) = records_length a b t
records_length a b (root n ∷ t) = records_length a b t

-- nothing is lent: there is one list of no length
pub no_length : (l : List ℕ) → length l ≡ 0 → l ≡ []
no_length [] e = refl
no_length (x ∷ l) e = absurd (omega arith)

-- ---- contents, where there is room

-- from position 0: the new contents, then what was lent
over_filled : (run l : List ℕ) → put l 0 run ≡ filled run l
unfolding put
over_filled run l = ap (λ (k : ℕ). run ++ drop k l) (zero-add (length run))

module _ (t : Trace) (l p y : List ℕ) where
  pub records_filled : length (trace_records 0 0 t) ≤ length l → (apply plain t (fresh l p y)).records.held ≡ filled (trace_records 0 0 t) l
  records_filled h = records_over t (fresh l p y) (omega arith) ∙ over_filled (trace_records 0 0 t) l

  pub paths_filled : length (path_bytes_lem (leaves t)) ≤ length p → (apply plain t (fresh l p y)).paths.held ≡ filled (path_bytes_lem (leaves t)) p
  paths_filled h = paths_over t (fresh l p y) (omega arith) ∙ over_filled (path_bytes_lem (leaves t)) p

  pub payloads_filled : length (payload_bytes_lem (leaves t)) ≤ length y → (apply plain t (fresh l p y)).payloads.held ≡ filled (payload_bytes_lem (leaves t)) y
  payloads_filled h = payloads_over t (fresh l p y) (omega arith) ∙ over_filled (payload_bytes_lem (leaves t)) y

-- ---- records of a walk that gives leaves only, or pairs only

pub records_leaves : (a b : ℕ) (t : Trace) → pairs t ≡ [] → trace_records a b t ≡ leaf_records a b (leaves t)
unfolding trace_records leaf_records
records_leaves a b [] e = refl
records_leaves a b (leaf x ∷ t) e =
    ap (λ (r : List ℕ). leaf_record a b x ++ r)
    (records_leaves (a + length x.path) (b + length (payload_of x)) t e)
records_leaves a b (pair x ∷ t) e = let z : ◌≡◌ {A = ℕ} 0 1 = cc in absurd (omega arith)
records_leaves a b (number x ∷ t) e = records_leaves a b t e
records_leaves a b (element p ∷ t) e = records_leaves a b t e
records_leaves a b (array p ∷ t) e = records_leaves a b t e
records_leaves a b (truncation ∷ t) e = records_leaves a b t e
records_leaves a b (error ∷ t) e = records_leaves a b t e
records_leaves a b (implicit ∷ t) e = records_leaves a b t e
records_leaves a b (nested n ∷ t) e = records_leaves a b t e
records_leaves a b (root n ∷ t) e = records_leaves a b t e

pub records_pairs : (a b : ℕ) (t : Trace) → leaves t ≡ [] → trace_records a b t ≡ pair_records (pairs t)
unfolding trace_records pair_records
records_pairs a b [] e = refl
records_pairs a b (leaf x ∷ t) e = let z : ◌≡◌ {A = ℕ} 0 1 = cc in absurd (omega arith)
records_pairs a b (pair x ∷ t) e = ap (λ (r : List ℕ). pair_record x ++ r) (records_pairs a b t e)
records_pairs a b (number x ∷ t) e = records_pairs a b t e
records_pairs a b (element p ∷ t) e = records_pairs a b t e
records_pairs a b (array p ∷ t) e = records_pairs a b t e
records_pairs a b (truncation ∷ t) e = records_pairs a b t e
records_pairs a b (error ∷ t) e = records_pairs a b t e
records_pairs a b (implicit ∷ t) e = records_pairs a b t e
records_pairs a b (nested n ∷ t) e = records_pairs a b t e
records_pairs a b (root n ∷ t) e = records_pairs a b t e
