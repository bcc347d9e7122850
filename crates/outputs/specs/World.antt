-- What a walk's events do to the counters, the count of padded numbers and the lent buffers.
-- The code is proved equal to `apply (wrapping m) events world`, m being 2 ^ 32, one more than the largest u32; the meaning is
-- `apply plain events world`; proofs/NoWrap shows that the two coincide.
use Rattle.std.specs.Prelude.{ℕ, ◌+◌, ◌%◌, List, [], ◌∷◌, ◌++◌, length, if◌then◌else◌}
use Rattle.bits.specs.Runs.{store}
use Rattle.bits.specs.Padded.{is_padded}
use Rattle.framing.specs.Events.{Leaf, Pair, Event, number, element, array, leaf, pair, truncation, error, implicit, nested, root, leaves, Trace}
use Rattle.framing.specs.Counters.{Counters, counted, counters, sums, padded_in}
use Rattle.framing.specs.Records.{leaf_record, pair_record, payload_of, path_bytes_lem, payload_bytes_lem}

-- How positions and counts are added up: exactly, or as the code does on numbers below m.
abbrev pub Adding : Type 0
Adding = ℕ → ℕ → ℕ

abbrev pub plain : Adding
plain n k = n + k

abbrev pub wrapping : ℕ → Adding
wrapping m n k = (n + k) % m

-- ---- a lent buffer: its contents, and the position of the next write

pub record Out : Type 0 where
  pub at : ℕ
  pub held : List ℕ

-- A run is written whole or not at all. The position passes it in either case, so that a walk lent nothing measures.
abbrev pub put_next_lem : Adding → List ℕ → Out → Out
put_next_lem add run o = record { at = add o.at (length run); held = store o.held o.at run }

-- ---- the world: counters, the count of padded numbers, and three buffers; records holds leaf records, in an object walk pairs

pub record World : Type 0 where
  pub counters : Counters
  pub padded : ℕ
  pub records : Out
  pub paths : Out
  pub payloads : Out

-- what an event adds to the counters; those that it does not touch stay as they are
abbrev pub count : Adding → Event → Counters → Counters
count add (number x) c = c
count add (element p) c = counted (add c.elements 1) c.fields c.truncations c.errors c.nested_bits_lem c.root_bits_lem c.implicits
count add (array a) c = c
count add (leaf x) c = counted c.elements (add c.fields 1) c.truncations c.errors c.nested_bits_lem c.root_bits_lem c.implicits
count add (pair x) c = counted c.elements (add c.fields 1) c.truncations c.errors c.nested_bits_lem c.root_bits_lem c.implicits
count add truncation c = counted c.elements c.fields (add c.truncations 1) c.errors c.nested_bits_lem c.root_bits_lem c.implicits
count add error c = counted c.elements c.fields c.truncations (add c.errors 1) c.nested_bits_lem c.root_bits_lem c.implicits
count add (nested n) c = counted c.elements c.fields c.truncations c.errors (add c.nested_bits_lem n) c.root_bits_lem c.implicits
count add (root n) c = counted c.elements c.fields c.truncations c.errors c.nested_bits_lem (add c.root_bits_lem n) c.implicits
count add implicit c = counted c.elements c.fields c.truncations c.errors c.nested_bits_lem c.root_bits_lem (add c.implicits 1)

-- what an event adds to the count of padded numbers
abbrev pub count_padded : Adding → Event → ℕ → ℕ
count_padded add (number x) n = if is_padded x then add n 1 else n
count_padded add (element p) n = n
count_padded add (array a) n = n
count_padded add (leaf x) n = n
count_padded add (pair x) n = n
count_padded add truncation n = n
count_padded add error n = n
count_padded add (nested k) n = n
count_padded add (root k) n = n
count_padded add implicit n = n

-- the same buffers, other counts
abbrev pub counting : Counters → (padded : ℕ) → World → World
counting c n w = record { counters = c; padded = n; records = w.records; paths = w.paths; payloads = w.payloads }

abbrev pub on_leaf : Adding → Leaf → World → World
on_leaf add x w =
    record {
      counters = w.counters;
      padded = w.padded;
      records = put_next_lem add (leaf_record w.paths.at w.payloads.at x) w.records;
      paths = put_next_lem add x.path w.paths;
      payloads = put_next_lem add (payload_of x) w.payloads;
    }

abbrev pub on_pair : Adding → Pair → World → World
on_pair add x w =
    record { counters = w.counters; padded = w.padded; records = put_next_lem add (pair_record x) w.records; paths = w.paths; payloads = w.payloads }

-- what an event does to the buffers
abbrev pub written : Adding → Event → World → World
written add (leaf x) w = on_leaf add x w
written add (pair x) w = on_pair add x w
written add (number x) w = w
written add (element p) w = w
written add (array a) w = w
written add truncation w = w
written add error w = w
written add implicit w = w
written add (nested n) w = w
written add (root n) w = w

abbrev pub on_event : Adding → Event → World → World
on_event add e w = counting (count add e w.counters) (count_padded add e w.padded) (written add e w)

unfoldable pub apply : Adding → Trace → World → World
apply add [] w = w
apply add (e ∷ t) w = apply add t (on_event add e w)

-- a call's world at its start: nothing counted, nothing written
abbrev pub fresh : (records paths payloads : List ℕ) → World
fresh records paths payloads =
    record {
      counters = counted 0 0 0 0 0 0 0;
      padded = 0;
      records = record { at = 0; held = records };
      paths = record { at = 0; held = paths };
      payloads = record { at = 0; held = payloads };
    }

-- ---- what a trace leaves, all at once

-- all records of a trace, the first path at pathAt and the first payload at payloadAt
unfoldable pub trace_records : (pathAt payloadAt : ℕ) → Trace → List ℕ
trace_records a b [] = []
trace_records a b (leaf x ∷ t) = leaf_record a b x ++ trace_records (a + length x.path) (b + length (payload_of x)) t
trace_records a b (pair x ∷ t) = pair_record x ++ trace_records a b t
trace_records a b (number x ∷ t) = trace_records a b t
trace_records a b (element p ∷ t) = trace_records a b t
trace_records a b (array e ∷ t) = trace_records a b t
trace_records a b (truncation ∷ t) = trace_records a b t
trace_records a b (error ∷ t) = trace_records a b t
trace_records a b (implicit ∷ t) = trace_records a b t
trace_records a b (nested n ∷ t) = trace_records a b t
trace_records a b (root n ∷ t) = trace_records a b t

-- what a trace adds to the counts and the positions, whatever the buffers hold
pub record Totals : Type 0 where
  pub counters : Counters
  pub padded : ℕ
  pub records : ℕ
  pub paths : ℕ
  pub payloads : ℕ

abbrev pub totals_of : World → Totals
totals_of w = record { counters = w.counters; padded = w.padded; records = w.records.at; paths = w.paths.at; payloads = w.payloads.at }

abbrev pub tallied : Trace → Totals → Totals
tallied t s =
    record {
      counters = sums s.counters (counters t);
      padded = s.padded + padded_in t;
      records = s.records + length (trace_records s.paths s.payloads t);
      paths = s.paths + length (path_bytes_lem (leaves t));
      payloads = s.payloads + length (payload_bytes_lem (leaves t));
    }
