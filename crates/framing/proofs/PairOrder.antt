-- Rule 8 of document 01 gives an element's pair behind its fields (specs/PairsBehind). In `walk` the pair stands at the field that gives it. No
-- answer shows the difference: moving the pairs of a trace behind its other events changes no leaf, no pair, no number taken, no counter, since these are
-- lists of one kind of event, and sums; and so it is for the traces of an element's fields, one by one.
use Prim.Native.Nat.{ℕ, zero, suc, ◌*◌}
use mathlib.Core.Path.{◌≡◌, refl, sym, ap, ap₂, ◌∙◌}
use mathlib.Core.Bool.{true}
use mathlib.Core.List.{List, [], ◌∷◌, ◌++◌, append-nil}
use lib.ListN.{length}
use lib.Dec.{ltb}
use Rattle.bits.specs.Sizes.{max_elements, max_fields}
use Rattle.bits.proofs.ChoiceLaws.{by_cases}
use Rattle.framing.specs.Windows.{Window, window_of, Reading, got, failed, reading}
use Rattle.framing.specs.Events.{Pair, number, element, array, leaf, pair, truncation, error, implicit, nested, root, leaves, pairs, taken, Trace}
use Rattle.framing.specs.Counters.{counted, counters, sums, count_of}
use Rattle.framing.specs.Walk.{number_at, Lead, ends, fails, closes, opens, lead, tail, Run, done, stopped, fields, closing, in_item, behind, beyond, on_index, on_last_index, elements, too_many, on_count, level}
use Rattle.framing.specs.Sinks.{object_sink, object, sink_of, walk_window, walk}
use Rattle.framing.specs.PairsBehind.{others, as_events, late, late_run, on_index_behind, elements_behind, on_count_behind, walk_behind, NotToldApart}
use Rattle.framing.proofs.TraceLaws.{counters_append, leaves_append, pairs_append, taken_append, sums_assoc, sums_swap}

others_leaves : (t : Trace) → leaves (others t) ≡ leaves t
others_leaves [] = refl
others_leaves (pair x ∷ t) = others_leaves t
others_leaves (number x ∷ t) = others_leaves t
others_leaves (element p ∷ t) = others_leaves t
others_leaves (array p ∷ t) = others_leaves t
others_leaves (leaf x ∷ t) = ap (λ l. x ∷ l) (others_leaves t)
others_leaves (truncation ∷ t) = others_leaves t
others_leaves (error ∷ t) = others_leaves t
others_leaves (implicit ∷ t) = others_leaves t
others_leaves (nested n ∷ t) = others_leaves t
others_leaves (root n ∷ t) = others_leaves t

others_pairs : (t : Trace) → pairs (others t) ≡ []
others_pairs [] = refl
others_pairs (pair x ∷ t) = others_pairs t
others_pairs (number x ∷ t) = others_pairs t
others_pairs (element p ∷ t) = others_pairs t
others_pairs (array p ∷ t) = others_pairs t
others_pairs (leaf x ∷ t) = others_pairs t
others_pairs (truncation ∷ t) = others_pairs t
others_pairs (error ∷ t) = others_pairs t
others_pairs (implicit ∷ t) = others_pairs t
others_pairs (nested n ∷ t) = others_pairs t
others_pairs (root n ∷ t) = others_pairs t

others_taken : (t : Trace) → taken (others t) ≡ taken t
others_taken [] = refl
others_taken (pair x ∷ t) = others_taken t
others_taken (number x ∷ t) = ap (λ l. x ∷ l) (others_taken t)
others_taken (element p ∷ t) = others_taken t
others_taken (array p ∷ t) = others_taken t
others_taken (leaf x ∷ t) = others_taken t
others_taken (truncation ∷ t) = others_taken t
others_taken (error ∷ t) = others_taken t
others_taken (implicit ∷ t) = others_taken t
others_taken (nested n ∷ t) = others_taken t
others_taken (root n ∷ t) = others_taken t

events_taken : (l : List Pair) → taken (as_events l) ≡ []
events_taken [] = refl
events_taken (x ∷ l) = events_taken l

events_leaves : (l : List Pair) → leaves (as_events l) ≡ []
events_leaves [] = refl
events_leaves (x ∷ l) = events_leaves l

events_pairs : (l : List Pair) → pairs (as_events l) ≡ l
events_pairs [] = refl
events_pairs (x ∷ l) = ap (λ m. x ∷ m) (events_pairs l)

pub late_leaves : (t : Trace) → leaves (late t) ≡ leaves t
late_leaves t =
    leaves_append (others t) (as_events (pairs t))
    ∙ ap₂ (λ a b. a ++ b) (others_leaves t) (events_leaves (pairs t))
    ∙ append-nil (leaves t)

late_taken : (t : Trace) → taken (late t) ≡ taken t
late_taken t =
    taken_append (others t) (as_events (pairs t))
    ∙ ap₂ (λ a b. a ++ b) (others_taken t) (events_taken (pairs t))
    ∙ append-nil (taken t)

pub late_pairs : (t : Trace) → pairs (late t) ≡ pairs t
late_pairs t = pairs_append (others t) (as_events (pairs t)) ∙ ap₂ (λ a b. a ++ b) (others_pairs t) (events_pairs (pairs t))

-- counters: the events that are no pairs, and one field for each pair
late_split : (t : Trace) → counters t ≡ sums (counters (others t)) (counters (as_events (pairs t)))
late_split [] = refl
late_split (pair x ∷ t) =
    ap (λ c. sums (counted 0 1 0 0 0 0 0) c) (late_split t) ∙ sums_swap (counted 0 1 0 0 0 0 0) (counters (others t)) (counters (as_events (pairs t)))
late_split (number x ∷ t) = ap (λ c. sums (count_of (number x)) c) (late_split t) ∙ sym (sums_assoc (count_of (number x)) (counters (others t)) (counters (as_events (pairs t))))
late_split (element p ∷ t) = ap (λ c. sums (count_of (element p)) c) (late_split t) ∙ sym (sums_assoc (count_of (element p)) (counters (others t)) (counters (as_events (pairs t))))
late_split (array p ∷ t) = ap (λ c. sums (count_of (array p)) c) (late_split t) ∙ sym (sums_assoc (count_of (array p)) (counters (others t)) (counters (as_events (pairs t))))
late_split (leaf x ∷ t) = ap (λ c. sums (count_of (leaf x)) c) (late_split t) ∙ sym (sums_assoc (count_of (leaf x)) (counters (others t)) (counters (as_events (pairs t))))
late_split (truncation ∷ t) = ap (λ c. sums (count_of truncation) c) (late_split t) ∙ sym (sums_assoc (count_of truncation) (counters (others t)) (counters (as_events (pairs t))))
late_split (error ∷ t) = ap (λ c. sums (count_of error) c) (late_split t) ∙ sym (sums_assoc (count_of error) (counters (others t)) (counters (as_events (pairs t))))
late_split (implicit ∷ t) = ap (λ c. sums (count_of implicit) c) (late_split t) ∙ sym (sums_assoc (count_of implicit) (counters (others t)) (counters (as_events (pairs t))))
late_split (nested n ∷ t) = ap (λ c. sums (count_of (nested n)) c) (late_split t) ∙ sym (sums_assoc (count_of (nested n)) (counters (others t)) (counters (as_events (pairs t))))
late_split (root n ∷ t) = ap (λ c. sums (count_of (root n)) c) (late_split t) ∙ sym (sums_assoc (count_of (root n)) (counters (others t)) (counters (as_events (pairs t))))

pub late_counters : (t : Trace) → counters (late t) ≡ counters t
late_counters t = counters_append (others t) (as_events (pairs t)) ∙ sym (late_split t)

-- ---- the walk as rule 8 words it

one_trace : (t : Trace) → NotToldApart t t
one_trace t = record { same_leaves = refl; same_pairs = refl; same_counters = refl; same_numbers = refl }

moved_late : (t : Trace) → NotToldApart (late t) t
moved_late t = record { same_leaves = late_leaves t; same_pairs = late_pairs t; same_counters = late_counters t; same_numbers = late_taken t }

-- one behind the other
in_turn_lem : {t u v w : Trace} → NotToldApart t u → NotToldApart v w → NotToldApart (t ++ v) (u ++ w)
in_turn_lem {t} {u} {v} {w} a b =
    record {
      same_leaves = leaves_append t v ∙ ap₂ (λ x y. x ++ y) a.same_leaves b.same_leaves ∙ sym (leaves_append u w);
      same_pairs = pairs_append t v ∙ ap₂ (λ x y. x ++ y) a.same_pairs b.same_pairs ∙ sym (pairs_append u w);
      same_counters = counters_append t v ∙ ap₂ sums a.same_counters b.same_counters ∙ sym (counters_append u w);
      same_numbers = taken_append t v ∙ ap₂ (λ x y. x ++ y) a.same_numbers b.same_numbers ∙ sym (taken_append u w);
    }

behind_late : {f g : ℕ → Trace} → ((q : ℕ) → NotToldApart (f q) (g q)) → (r : Run) → NotToldApart (behind f (late_run r)) (behind g r)
behind_late h (done t q) = in_turn_lem (moved_late t) (h q)
behind_late h (stopped t) = moved_late t

module _ (w : Window) (count : ℕ) where
  index_late : {f g : ℕ → Trace} → ((q : ℕ) → NotToldApart (f q) (g q)) → (l : Lead)
      → NotToldApart (on_index_behind w count f l) (on_index object_sink w [] count g l)
  unfolding in_item object_sink
  index_late h ends = one_trace (implicit ∷ [])
  index_late h fails = one_trace (error ∷ [])
  index_late h (closes e q) = one_trace (number e ∷ closing object_sink w q)
  index_late {f} {g} h (opens e i q) =
      by_cases (beyond count i)
      (λ k. rw k (one_trace (number e ∷ error ∷ [])))
      (λ k. rw k (in_turn_lem (one_trace (number e ∷ element [] ∷ [])) (behind_late h (fields object_sink w i [] max_fields q true))))

  elements_late : (left p : ℕ) → NotToldApart (elements_behind w count left p) (elements object_sink w [] count left p)
  unfolding elements_behind elements
  elements_late zero p = one_trace (on_last_index object_sink w [] p (lead w p))
  elements_late (suc left) p = index_late (λ q. elements_late left q) (lead w p)

count_late : (w : Window) (r : Reading) → NotToldApart (on_count_behind w r) (on_count object_sink w [] r)
count_late w failed = one_trace (error ∷ [])
count_late w (got count b) =
    by_cases (too_many count)
    (λ k. rw k (one_trace (number (number_at w 0 b count) ∷ truncation ∷ tail object_sink w [] (8 * b))))
    (λ k. rw k (in_turn_lem (one_trace (number (number_at w 0 b count) ∷ [])) (elements_late w count max_elements (8 * b))))

-- No answer tells the walk with pairs behind their fields from the object walk.
pub behind_fields : (bytes : List ℕ) (n : ℕ) → NotToldApart (walk_behind bytes n) (walk object bytes n)
unfolding walk_behind walk walk_window sink_of level
behind_fields bytes n =
    by_cases (ltb (8 * length bytes) n)
    (λ k. rw k (one_trace (error ∷ [])))
    (λ k. rw k (count_late (window_of bytes n) (reading (window_of bytes n) 0)))
