-- The world of a walk as the code holds it: a tally and three lent outputs.
use Rattle.std.specs.Prelude.{◌≡◌, ℕ, zero, suc, ◌+◌, ◌%◌, ◌^◌, List}
use Rattle.framing.specs.Events.{Trace}
use Rattle.framing.specs.Counters.{counted}
use Rattle.outputs.specs.World.{World, counting, wrapping, apply}
use Rattle.steps.specs.declared.tally.Tally.{Tally}

-- nothing is counted
abbrev pub no_tally : Tally
no_tally =
    record { elements = 0; fields = 0; truncations = 0; errors = 0; nested = 0; root = 0; implicit = 0; records = 0; paths = 0; payloads = 0; padded = 0 }

-- ---- the world

unfoldable pub world_of : Tally → (records paths payloads : List ℕ) → World
world_of t records paths payloads =
    record {
      counters = counted t.elements t.fields t.truncations t.errors t.nested t.root t.implicit;
      padded = t.padded;
      records = record { at = t.records; held = records };
      paths = record { at = t.paths; held = paths };
      payloads = record { at = t.payloads; held = payloads };
    }

-- a trace played into a world; the code's numbers are u32 and wrap; in a walk none does (outputs, proofs/NoWrap)
unfoldable pub played : Trace → World → World
played t w = apply (wrapping (2 ^ 32)) t w

-- ---- padded numbers

-- n more of them
unfoldable pub padding : (n : ℕ) → World → World
padding zero w = w
padding (suc n) w = padding n (counting w.counters ((w.padded + 1) % 2 ^ 32) w)

-- what the code makes of a tally by counting n more, whatever is lent
abbrev pub Pads : (n : ℕ) (tally tally' : Tally) → Type 0
Pads n tally tally' = (records paths payloads : List ℕ) → world_of tally' records paths payloads ≡ padding n (world_of tally records paths payloads)

-- ---- counting

-- one number, n more
abbrev pub added : (number n : ℕ) → ℕ
added number n = (number + n) % 2 ^ 32

-- a leaf of so many numbers, path bytes and payload bytes
unfoldable pub reserved : Tally → (records paths payloads : ℕ) → Tally
reserved t records paths payloads =
    record t { fields = added t.fields 1; records = added t.records records; paths = added t.paths paths; payloads = added t.payloads payloads }
