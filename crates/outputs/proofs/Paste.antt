-- What `apply` leaves: counters and positions whatever the buffers hold, and the paste law. By induction over the trace: an event adds to the
-- positions what it writes, and writes behind what was written.
use mathlib.Core.Path.{◌≡◌, refl, sym, ap, ◌∙◌}
use mathlib.Core.List.{List, [], ◌∷◌, ◌++◌}
use Prim.Native.Nat.{ℕ, ◌+◌, ◌≤◌}
use native.Mathlib.Nat.{add-zero}
use native.Mathlib.Omega.{arith}
use lib.ListN.{length, length-append}
use Rattle.bits.specs.Runs.{put, store}
use Rattle.bits.proofs.RunLaws.{put_put, put_none, store_fits, length_store}
use Rattle.bits.specs.Padded.{is_padded, padded_among}
use Rattle.bits.proofs.ChoiceLaws.{by_cases}
use Rattle.framing.specs.Events.{Event, number, element, array, leaf, pair, truncation, error, implicit, nested, root, leaves, Trace}
use Rattle.framing.specs.Counters.{Counters, counted, counters, sums, count_of, padded_in}
use Rattle.framing.specs.Records.{leaf_record, pair_record, payload_of, path_bytes_lem, payload_bytes_lem}
use Rattle.framing.proofs.TraceLaws.{sums_assoc, sums_none}
use Rattle.outputs.specs.World.{Adding, plain, World, count, count_padded, on_event, apply, trace_records, Totals, totals_of, tallied}

-- ---- a trace

pub apply_append : (add : Adding) (t u : Trace) (w : World) → apply add (t ++ u) w ≡ apply add u (apply add t w)
unfolding apply
apply_append add [] u w = refl
apply_append add (e ∷ t) u w = apply_append add t u (on_event add e w)

-- an event counts what `count_of` says
same : (n : ℕ) → n ≡ n + 0
same n = sym (add-zero n)

pub count_adds : (e : Event) (c : Counters) → count plain e c ≡ sums c (count_of e)
count_adds (number x) c = λ i. counted (same c.elements i) (same c.fields i) (same c.truncations i) (same c.errors i) (same c.nested_bits_lem i) (same c.root_bits_lem i) (same c.implicits i)
count_adds (element p) c = λ i. counted (c.elements + 1) (same c.fields i) (same c.truncations i) (same c.errors i) (same c.nested_bits_lem i) (same c.root_bits_lem i) (same c.implicits i)
count_adds (array p) c = λ i. counted (same c.elements i) (same c.fields i) (same c.truncations i) (same c.errors i) (same c.nested_bits_lem i) (same c.root_bits_lem i) (same c.implicits i)
count_adds (leaf x) c = λ i. counted (same c.elements i) (c.fields + 1) (same c.truncations i) (same c.errors i) (same c.nested_bits_lem i) (same c.root_bits_lem i) (same c.implicits i)
count_adds (pair x) c = λ i. counted (same c.elements i) (c.fields + 1) (same c.truncations i) (same c.errors i) (same c.nested_bits_lem i) (same c.root_bits_lem i) (same c.implicits i)
count_adds truncation c = λ i. counted (same c.elements i) (same c.fields i) (c.truncations + 1) (same c.errors i) (same c.nested_bits_lem i) (same c.root_bits_lem i) (same c.implicits i)
count_adds error c = λ i. counted (same c.elements i) (same c.fields i) (same c.truncations i) (c.errors + 1) (same c.nested_bits_lem i) (same c.root_bits_lem i) (same c.implicits i)
count_adds implicit c = λ i. counted (same c.elements i) (same c.fields i) (same c.truncations i) (same c.errors i) (same c.nested_bits_lem i) (same c.root_bits_lem i) (c.implicits + 1)
count_adds (nested n) c = λ i. counted (same c.elements i) (same c.fields i) (same c.truncations i) (same c.errors i) (c.nested_bits_lem + n) (same c.root_bits_lem i) (same c.implicits i)
count_adds (root n) c = λ i. counted (same c.elements i) (same c.fields i) (same c.truncations i) (same c.errors i) (same c.nested_bits_lem i) (c.root_bits_lem + n) (same c.implicits i)

-- counters of an event and of a trace behind it
count_then : (e : Event) (c : Counters) (t : Trace) → sums (count plain e c) (counters t) ≡ sums c (counters (e ∷ t))
count_then e c t = ap (λ (x : Counters). sums x (counters t)) (count_adds e c) ∙ sums_assoc c (count_of e) (counters t)

-- the same of padded numbers
padded_then : (e : Event) (n : ℕ) (t : Trace) → count_padded plain e n + padded_in t ≡ n + padded_in (e ∷ t)
unfolding padded_among
padded_then (number x) n t = by_cases (is_padded x) (λ h. simp h (omega arith)) (λ h. simp h (omega arith))
padded_then (element p) n t = refl
padded_then (array p) n t = refl
padded_then (leaf x) n t = refl
padded_then (pair x) n t = refl
padded_then truncation n t = refl
padded_then error n t = refl
padded_then implicit n t = refl
padded_then (nested k) n t = refl
padded_then (root k) n t = refl

passes : (n : ℕ) (xs ys : List ℕ) → n + length xs + length ys ≡ n + length (xs ++ ys)
passes n xs ys = let e = length-append xs ys in omega arith

-- an event that writes nothing
counted_then : (e : Event) (w : World) (t : Trace) (u : Totals)
    → ◌≡◌ {A = Totals} (record { counters = sums (count plain e w.counters) (counters t); padded = count_padded plain e w.padded + padded_in t; records = u.records; paths = u.paths; payloads = u.payloads })
    (record { counters = sums w.counters (counters (e ∷ t)); padded = w.padded + padded_in (e ∷ t); records = u.records; paths = u.paths; payloads = u.payloads })
counted_then e w t u =
    λ i. record { counters = count_then e w.counters t i; padded = padded_then e w.padded t i; records = u.records; paths = u.paths; payloads = u.payloads }

-- COUNTS AND POSITIONS: what they were and what the trace needs, whatever the buffers hold.
pub tally_law : (t : Trace) (w : World) → totals_of (apply plain t w) ≡ tallied t (totals_of w)
unfolding apply trace_records path_bytes_lem payload_bytes_lem padded_among
tally_law [] w =
    let a = same w.records.at in
    let b = same w.paths.at in
    let d = same w.payloads.at in
    let n = same w.padded in
    λ i. record { counters = sym (sums_none w.counters) i; padded = n i; records = a i; paths = b i; payloads = d i }
tally_law (leaf x ∷ t) w =
    let c = count_then (leaf x) w.counters t in
    let rest = trace_records (w.paths.at + length x.path) (w.payloads.at + length (payload_of x)) t in
    let p = passes w.records.at (leaf_record w.paths.at w.payloads.at x) rest in
    let q = passes w.paths.at x.path (path_bytes_lem (leaves t)) in
    let r = passes w.payloads.at (payload_of x) (payload_bytes_lem (leaves t)) in
    tally_law t (on_event plain (leaf x) w) ∙ (λ i. record { counters = c i; padded = padded_then (leaf x) w.padded t i; records = p i; paths = q i; payloads = r i })
tally_law (pair x ∷ t) w =
    let c = count_then (pair x) w.counters t in
    let p = passes w.records.at (pair_record x) (trace_records w.paths.at w.payloads.at t) in
    let u : Totals = tallied t (totals_of w) in
    tally_law t (on_event plain (pair x) w) ∙ (λ i. record { counters = c i; padded = padded_then (pair x) w.padded t i; records = p i; paths = u.paths; payloads = u.payloads })
tally_law (number x ∷ t) w =
    let u : Totals = tallied t (totals_of w) in
    tally_law t (on_event plain (number x) w) ∙ counted_then (number x) w t u
tally_law (element p ∷ t) w =
    let u : Totals = tallied t (totals_of w) in
    tally_law t (on_event plain (element p) w) ∙ counted_then (element p) w t u
tally_law (array p ∷ t) w =
    let u : Totals = tallied t (totals_of w) in
    tally_law t (on_event plain (array p) w) ∙ counted_then (array p) w t u
tally_law (truncation ∷ t) w =
    let u : Totals = tallied t (totals_of w) in
    tally_law t (on_event plain truncation w) ∙ counted_then truncation w t u
tally_law (error ∷ t) w =
    let u : Totals = tallied t (totals_of w) in
    tally_law t (on_event plain error w) ∙ counted_then error w t u
tally_law (implicit ∷ t) w =
    let u : Totals = tallied t (totals_of w) in
    tally_law t (on_event plain implicit w) ∙ counted_then implicit w t u
tally_law (nested n ∷ t) w =
    let u : Totals = tallied t (totals_of w) in
    tally_law t (on_event plain (nested n) w) ∙ counted_then (nested n) w t u
tally_law (root n ∷ t) w =
    let u : Totals = tallied t (totals_of w) in
    tally_law t (on_event plain (root n) w) ∙ counted_then (root n) w t u

-- THE PASTE LAW, of one buffer at a time: where there is room for all that the trace gives it, that is what it holds, from its position on.
step : (run rest l : List ℕ) (i : ℕ) → i + length (run ++ rest) ≤ length l → put (store l i run) (i + length run) rest ≡ put l i (run ++ rest)
step run rest l i h =
    let n = length-append run rest in
    ap (λ (k : List ℕ). put k (i + length run) rest) (store_fits l i run (omega arith)) ∙ put_put l run rest i (length run) (omega arith) refl

room : (run rest l : List ℕ) (i : ℕ) → i + length (run ++ rest) ≤ length l → i + length run + length rest ≤ length (store l i run)
room run rest l i h = let n = length-append run rest in rw (length_store l i run) (omega arith)

pub records_over : (t : Trace) (w : World) → w.records.at + length (trace_records w.paths.at w.payloads.at t) ≤ length w.records.held
    → (apply plain t w).records.held ≡ put w.records.held w.records.at (trace_records w.paths.at w.payloads.at t)
unfolding apply trace_records
records_over [] w h = sym (put_none w.records.held w.records.at)
records_over (leaf x ∷ t) w h =
    let run = leaf_record w.paths.at w.payloads.at x in
    let rest = trace_records (w.paths.at + length x.path) (w.payloads.at + length (payload_of x)) t in
    records_over t (on_event plain (leaf x) w) (room run rest w.records.held w.records.at h) ∙ step run rest w.records.held w.records.at h
records_over (pair x ∷ t) w h =
    let run = pair_record x in
    let rest = trace_records w.paths.at w.payloads.at t in
    records_over t (on_event plain (pair x) w) (room run rest w.records.held w.records.at h) ∙ step run rest w.records.held w.records.at h
records_over (number x ∷ t) w h = records_over t (on_event plain (number x) w) h
records_over (element p ∷ t) w h = records_over t (on_event plain (element p) w) h
records_over (array p ∷ t) w h = records_over t (on_event plain (array p) w) h
records_over (truncation ∷ t) w h = records_over t (on_event plain truncation w) h
records_over (error ∷ t) w h = records_over t (on_event plain error w) h
records_over (implicit ∷ t) w h = records_over t (on_event plain implicit w) h
records_over (nested n ∷ t) w h = records_over t (on_event plain (nested n) w) h
records_over (root n ∷ t) w h = records_over t (on_event plain (root n) w) h

pub paths_over : (t : Trace) (w : World) → w.paths.at + length (path_bytes_lem (leaves t)) ≤ length w.paths.held
    → (apply plain t w).paths.held ≡ put w.paths.held w.paths.at (path_bytes_lem (leaves t))
unfolding apply path_bytes_lem
paths_over [] w h = sym (put_none w.paths.held w.paths.at)
paths_over (leaf x ∷ t) w h =
    let run : List ℕ = x.path in
    let rest = path_bytes_lem (leaves t) in
    paths_over t (on_event plain (leaf x) w) (room run rest w.paths.held w.paths.at h) ∙ step run rest w.paths.held w.paths.at h
paths_over (pair x ∷ t) w h = paths_over t (on_event plain (pair x) w) h
paths_over (number x ∷ t) w h = paths_over t (on_event plain (number x) w) h
paths_over (element p ∷ t) w h = paths_over t (on_event plain (element p) w) h
paths_over (array p ∷ t) w h = paths_over t (on_event plain (array p) w) h
paths_over (truncation ∷ t) w h = paths_over t (on_event plain truncation w) h
paths_over (error ∷ t) w h = paths_over t (on_event plain error w) h
paths_over (implicit ∷ t) w h = paths_over t (on_event plain implicit w) h
paths_over (nested n ∷ t) w h = paths_over t (on_event plain (nested n) w) h
paths_over (root n ∷ t) w h = paths_over t (on_event plain (root n) w) h

pub payloads_over : (t : Trace) (w : World) → w.payloads.at + length (payload_bytes_lem (leaves t)) ≤ length w.payloads.held
    → (apply plain t w).payloads.held ≡ put w.payloads.held w.payloads.at (payload_bytes_lem (leaves t))
unfolding apply payload_bytes_lem
payloads_over [] w h = sym (put_none w.payloads.held w.payloads.at)
payloads_over (leaf x ∷ t) w h =
    let run : List ℕ = payload_of x in
    let rest = payload_bytes_lem (leaves t) in
    payloads_over t (on_event plain (leaf x) w) (room run rest w.payloads.held w.payloads.at h) ∙ step run rest w.payloads.held w.payloads.at h
payloads_over (pair x ∷ t) w h = payloads_over t (on_event plain (pair x) w) h
payloads_over (number x ∷ t) w h = payloads_over t (on_event plain (number x) w) h
payloads_over (element p ∷ t) w h = payloads_over t (on_event plain (element p) w) h
payloads_over (array p ∷ t) w h = payloads_over t (on_event plain (array p) w) h
payloads_over (truncation ∷ t) w h = payloads_over t (on_event plain truncation w) h
payloads_over (error ∷ t) w h = payloads_over t (on_event plain error w) h
payloads_over (implicit ∷ t) w h = payloads_over t (on_event plain implicit w) h
payloads_over (nested n ∷ t) w h = payloads_over t (on_event plain (nested n) w) h
payloads_over (root n ∷ t) w h = payloads_over t (on_event plain (root n) w) h
