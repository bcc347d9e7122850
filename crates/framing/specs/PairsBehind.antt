-- The object walk as rule 8 words it: an element's pair is given behind its fields, whether it closes or not. `walk` (specs/Sinks) has the pair at
-- the field that gives it, so that what a cut window gives is the beginning of what the whole one gives. No answer tells the two apart
-- (proofs/PairOrder).
use Rattle.std.specs.Prelude.{ℕ, zero, suc, ◌*◌, ◌≡◌, true, List, [], ◌∷◌, ◌++◌, length, ltb, if◌then◌else◌}
use Rattle.bits.specs.Sizes.{max_elements, max_fields}
use Rattle.framing.specs.Windows.{Window, window_of, Reading, got, failed, reading}
use Rattle.framing.specs.Events.{Pair, number, element, array, leaf, pair, truncation, error, implicit, nested, root, leaves, pairs, taken, Trace}
use Rattle.framing.specs.Counters.{counters}
use Rattle.framing.specs.Walk.{number_at, Lead, ends, fails, closes, opens, lead, tail, Run, done, stopped, fields, closing, behind, beyond, on_last_index, too_many}
use Rattle.framing.specs.Sinks.{object_sink}

-- ---- the pairs of a trace behind its other events

-- the other events, and the pairs as events
abbrev pub others : Trace → Trace
others [] = []
others (pair x ∷ t) = others t
others (number x ∷ t) = number x ∷ others t
others (element p ∷ t) = element p ∷ others t
others (array a ∷ t) = array a ∷ others t
others (leaf x ∷ t) = leaf x ∷ others t
others (truncation ∷ t) = truncation ∷ others t
others (error ∷ t) = error ∷ others t
others (implicit ∷ t) = implicit ∷ others t
others (nested n ∷ t) = nested n ∷ others t
others (root n ∷ t) = root n ∷ others t

abbrev pub as_events : List Pair → Trace
as_events [] = []
as_events (x ∷ l) = pair x ∷ as_events l

abbrev pub late : Trace → Trace
late t = others t ++ as_events (pairs t)

-- what an element's fields gave, closed or not, its pair behind them
abbrev pub late_run : Run → Run
late_run (done t q) = done (late t) q
late_run (stopped t) = stopped (late t)

-- ---- the walk: rules 1 to 4 as in specs/Walk, an element's fields with their pair behind them

abbrev pub on_index_behind : Window → (count : ℕ) → (ℕ → Trace) → Lead → Trace
on_index_behind w count more ends = implicit ∷ []
on_index_behind w count more fails = error ∷ []
on_index_behind w count more (closes e q) = number e ∷ closing object_sink w q
on_index_behind w count more (opens e i q) =
    if beyond count i then number e ∷ error ∷ [] else
    number e ∷ element [] ∷ behind more (late_run (fields object_sink w i [] max_fields q true))

unfoldable pub elements_behind : Window → (count left p : ℕ) → Trace
elements_behind w count zero p = on_last_index object_sink w [] p (lead w p)
elements_behind w count (suc left) p = on_index_behind w count (λ q. elements_behind w count left q) (lead w p)

abbrev pub on_count_behind : Window → Reading → Trace
on_count_behind w failed = error ∷ []
on_count_behind w (got count b) =
    if too_many count then number (number_at w 0 b count) ∷ truncation ∷ tail object_sink w [] (8 * b) else
    number (number_at w 0 b count) ∷ elements_behind w count max_elements (8 * b)

-- the first n bits of some bytes; where the bytes hold fewer, one error. A window of no bits is walked too: its count can't be read, which is
-- rule 9's one error.
unfoldable pub walk_behind : (bytes : List ℕ) (n : ℕ) → Trace
walk_behind bytes n =
    if ltb (8 * length bytes) n then error ∷ [] else on_count_behind (window_of bytes n) (reading (window_of bytes n) 0)

-- ---- two traces that no answer tells apart: an answer shows a trace's leaves, its pairs, its counters, and how many of its numbers are padded

pub record NotToldApart (t u : Trace) : Type 0 where
  pub same_leaves : leaves t ≡ leaves u
  pub same_pairs : pairs t ≡ pairs u
  pub same_counters : counters t ≡ counters u
  pub same_numbers : taken t ≡ taken u
