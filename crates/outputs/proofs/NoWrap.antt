-- The code's additions wrap; in a walk of a window none does. A sum that fits at the end fitted before, and of at most 524,288 bits the counters,
-- padded numbers, leaves, paths and payloads add up to less than 2^32 (Bounded, ShortPaths, Gives), where the labels lie in their pools.
use mathlib.Core.Path.{◌≡◌, refl, ap, ap₂, ◌∙◌}
use mathlib.Core.List.{List, [], ◌∷◌}
use Prim.Native.Nat.{ℕ, ◌+◌, ◌%◌, ◌≤◌, ◌<◌}
use native.Mathlib.Nat.{mod-eq_of_lt}
use native.Mathlib.Omega.{arith}
use lib.ListN.{length}
use Rattle.bits.specs.Sizes.{longest_window}
use Rattle.bits.specs.Padded.{is_padded}
use Rattle.bits.proofs.ChoiceLaws.{by_cases}
use Rattle.framing.specs.Events.{Event, number, element, array, leaf, pair, truncation, error, implicit, nested, root, leaves, pairs, Trace}
use Rattle.framing.specs.Counters.{Counters, counted, counters, sums}
use Rattle.framing.specs.Sinks.{Walker, walk}
use Rattle.framing.specs.Records.{leaf_record, pair_record, payload_of}
use Rattle.framing.proofs.Bounded.{total, walk_cost}
use Rattle.outputs.specs.World.{plain, wrapping, Out, put_next_lem, World, count, count_padded, counting, on_event, apply, fresh}
use Rattle.outputs.proofs.After.{counters_after, counters_fresh, padded_after, padded_fresh, records_at, paths_at, payloads_at, records_length}
use Rattle.outputs.proofs.Gives.{payload_bound}
use Rattle.framing.proofs.LongestPath.{Labelled, walk_short, leaves_short}
use Rattle.outputs.proofs.ShortPaths.{path_bound}

-- every number that is added up is below m
pub record Fits (m : ℕ) (w : World) : Type 0 where
  pub counters : total w.counters + w.padded < m
  pub records : w.records.at < m
  pub paths : w.paths.at < m
  pub payloads : w.payloads.at < m

-- what fits at the end fitted before
pub fits_before : (m : ℕ) (t : Trace) (w : World) → Fits m (apply plain t w) → Fits m w
fits_before m t w h =
    record {
      counters = let e : total (apply plain t w).counters ≡ total (sums w.counters (counters t)) = ap total (counters_after t w) in let d = padded_after t w in let f = h.counters in omega arith;
      records = let e = records_at t w in let f = h.records in omega arith;
      paths = let e = paths_at t w in let f = h.paths in omega arith;
      payloads = let e = payloads_at t w in let f = h.payloads in omega arith;
    }

put_fits : (m : ℕ) (run : List ℕ) (o : Out) → o.at + length run < m → put_next_lem (wrapping m) run o ≡ put_next_lem plain run o
put_fits m run o h = let e : (o.at + length run) % m ≡ o.at + length run = mod-eq_of_lt h in λ i. record { at = e i; held = (put_next_lem plain run o).held }

count_fits : (m : ℕ) (e : Event) (c : Counters) → total (count plain e c) < m → count (wrapping m) e c ≡ count plain e c
count_fits m (number x) c h = refl
count_fits m (element p) c h =
    let e : (c.elements + 1) % m ≡ c.elements + 1 = mod-eq_of_lt (omega arith) in
    λ i. counted (e i) c.fields c.truncations c.errors c.nested_bits_lem c.root_bits_lem c.implicits
count_fits m (array p) c h = refl
count_fits m (leaf x) c h =
    let e : (c.fields + 1) % m ≡ c.fields + 1 = mod-eq_of_lt (omega arith) in
    λ i. counted c.elements (e i) c.truncations c.errors c.nested_bits_lem c.root_bits_lem c.implicits
count_fits m (pair x) c h =
    let e : (c.fields + 1) % m ≡ c.fields + 1 = mod-eq_of_lt (omega arith) in
    λ i. counted c.elements (e i) c.truncations c.errors c.nested_bits_lem c.root_bits_lem c.implicits
count_fits m truncation c h =
    let e : (c.truncations + 1) % m ≡ c.truncations + 1 = mod-eq_of_lt (omega arith) in
    λ i. counted c.elements c.fields (e i) c.errors c.nested_bits_lem c.root_bits_lem c.implicits
count_fits m error c h =
    let e : (c.errors + 1) % m ≡ c.errors + 1 = mod-eq_of_lt (omega arith) in
    λ i. counted c.elements c.fields c.truncations (e i) c.nested_bits_lem c.root_bits_lem c.implicits
count_fits m implicit c h =
    let e : (c.implicits + 1) % m ≡ c.implicits + 1 = mod-eq_of_lt (omega arith) in
    λ i. counted c.elements c.fields c.truncations c.errors c.nested_bits_lem c.root_bits_lem (e i)
count_fits m (nested n) c h =
    let e : (c.nested_bits_lem + n) % m ≡ c.nested_bits_lem + n = mod-eq_of_lt (omega arith) in
    λ i. counted c.elements c.fields c.truncations c.errors (e i) c.root_bits_lem c.implicits
count_fits m (root n) c h =
    let e : (c.root_bits_lem + n) % m ≡ c.root_bits_lem + n = mod-eq_of_lt (omega arith) in
    λ i. counted c.elements c.fields c.truncations c.errors c.nested_bits_lem (e i) c.implicits

padded_fits : (m : ℕ) (e : Event) (n : ℕ) → count_padded plain e n < m → count_padded (wrapping m) e n ≡ count_padded plain e n
padded_fits m (number x) n h = by_cases (is_padded x) (λ e. let l : n + 1 < m = rw e at h in simp e (mod-eq_of_lt l)) (λ e. simp e)
padded_fits m (element p) n h = refl
padded_fits m (array p) n h = refl
padded_fits m (leaf x) n h = refl
padded_fits m (pair x) n h = refl
padded_fits m truncation n h = refl
padded_fits m error n h = refl
padded_fits m implicit n h = refl
padded_fits m (nested k) n h = refl
padded_fits m (root k) n h = refl

-- both counts of an event that writes nothing
counts_fit : (m : ℕ) (e : Event) (w : World) → total (count plain e w.counters) + count_padded plain e w.padded < m
    → counting (count (wrapping m) e w.counters) (count_padded (wrapping m) e w.padded) w ≡ counting (count plain e w.counters) (count_padded plain e w.padded) w
counts_fit m e w h =
    ap₂ (λ (c : Counters) (n : ℕ). counting c n w) (count_fits m e w.counters (omega arith)) (padded_fits m e w.padded (omega arith))

event_fits : (m : ℕ) (e : Event) (w : World) → Fits m (on_event plain e w) → on_event (wrapping m) e w ≡ on_event plain e w
event_fits m (leaf x) w h =
    let c = count_fits m (leaf x) w.counters (let z = h.counters in omega arith) in
    let p = put_fits m (leaf_record w.paths.at w.payloads.at x) w.records h.records in
    let q = put_fits m x.path w.paths h.paths in
    let r = put_fits m (payload_of x) w.payloads h.payloads in
    λ i. record { counters = c i; padded = w.padded; records = p i; paths = q i; payloads = r i }
event_fits m (pair x) w h =
    let c = count_fits m (pair x) w.counters (let z = h.counters in omega arith) in
    let p = put_fits m (pair_record x) w.records h.records in
    λ i. record { counters = c i; padded = w.padded; records = p i; paths = w.paths; payloads = w.payloads }
event_fits m (number x) w h = counts_fit m (number x) w h.counters
event_fits m (element p) w h = counts_fit m (element p) w h.counters
event_fits m (array p) w h = counts_fit m (array p) w h.counters
event_fits m truncation w h = counts_fit m truncation w h.counters
event_fits m error w h = counts_fit m error w h.counters
event_fits m implicit w h = counts_fit m implicit w h.counters
event_fits m (nested n) w h = counts_fit m (nested n) w h.counters
event_fits m (root n) w h = counts_fit m (root n) w h.counters

-- Where the plain world stays below m, the wrapping one is the plain one.
pub no_wrap : (m : ℕ) (t : Trace) (w : World) → Fits m (apply plain t w) → apply (wrapping m) t w ≡ apply plain t w
unfolding apply
no_wrap m [] w h = refl
no_wrap m (e ∷ t) w h =
    ap (apply (wrapping m) t) (event_fits m e w (fits_before m t (on_event plain e w) h))
    ∙ no_wrap m t (on_event plain e w) h

-- ---- a walk of a window that is not too long stays below 2 ^ 32

pub fields_count_lem : (t : Trace) → (counters t).fields ≡ length (leaves t) + length (pairs t)
fields_count_lem [] = refl
fields_count_lem (leaf x ∷ t) = let z = fields_count_lem t in omega arith
fields_count_lem (pair x ∷ t) = let z = fields_count_lem t in omega arith
fields_count_lem (number x ∷ t) = let z = fields_count_lem t in omega arith
fields_count_lem (element p ∷ t) = let z = fields_count_lem t in omega arith
fields_count_lem (array p ∷ t) = let z = fields_count_lem t in omega arith
fields_count_lem (truncation ∷ t) = let z = fields_count_lem t in omega arith
fields_count_lem (error ∷ t) = let z = fields_count_lem t in omega arith
fields_count_lem (implicit ∷ t) = let z = fields_count_lem t in omega arith
fields_count_lem (nested n ∷ t) = let z = fields_count_lem t in omega arith
fields_count_lem (root n ∷ t) = let z = fields_count_lem t in omega arith

-- what the numbers of such a walk stay below
abbrev pub word : ℕ
word = 4294967296

module _ (k : Walker) (labels : Labelled k) (bytes : List ℕ) (n : ℕ) (small : n ≤ longest_window) (l p y : List ℕ) where
  pub walk_fits : Fits word (apply plain (walk k bytes n) (fresh l p y))
  walk_fits =
      let t = walk k bytes n in
      let cost = walk_cost k bytes n in
      let gave = fields_count_lem t in
      record {
        counters = let e = ap total (counters_fresh t l p y) in let d = padded_fresh t l p y in omega arith;
        records = let e = records_at t (fresh l p y) in let f = records_length 0 0 t in omega arith;
        paths = let e = paths_at t (fresh l p y) in let f = path_bound (leaves t) (leaves_short t (walk_short k labels bytes n)) in omega arith;
        payloads = let e = payloads_at t (fresh l p y) in let f = payload_bound k bytes n in omega arith;
      }

  fits_more : (m : ℕ) → word ≤ m → (w : World) → Fits word w → Fits m w
  fits_more m h w f =
      record {
        counters = let z = f.counters in omega arith;
        records = let z = f.records in omega arith;
        paths = let z = f.paths in omega arith;
        payloads = let z = f.payloads in omega arith;
      }

  -- the code's world is the plain one, for words of 32 bits and more
  pub walk_exact : (m : ℕ) → word ≤ m → apply (wrapping m) (walk k bytes n) (fresh l p y) ≡ apply plain (walk k bytes n) (fresh l p y)
  walk_exact m h = no_wrap m (walk k bytes n) (fresh l p y) (fits_more m h (apply plain (walk k bytes n) (fresh l p y)) walk_fits)
