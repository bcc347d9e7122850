-- The leaves and arrays of specs/PlacedCases lie where the table says: antt computes it.
use mathlib.Core.Path.{◌≡◌, refl}
use mathlib.Core.List.{map}
use Rattle.bits.specs.Bits.{num, field}
use Rattle.bits.specs.Packed.{after, earlier_byte, fifth_byte, packed_from, packed}
use Rattle.schema.specs.Tables.{cell, row_matches_lem, first_row_lem, row_of, child}
use Rattle.schema.specs.TwelveLevels.{schema_rows}
use Rattle.framing.specs.Windows.{reading}
use Rattle.framing.specs.Walk.{lead, field_at, tail, fields, closing, in_item, elements, level}
use Rattle.framing.specs.Sinks.{struct_sink, sink_of, walk_window, walk}
use Rattle.framing.specs.PlacedCases.{placed_cases, placed_found}

pub placed_cases_hold : map placed_found placed_cases ≡ map (λ c. c.spots) placed_cases
unfolding schema_rows num field after earlier_byte fifth_byte packed_from packed cell row_matches_lem first_row_lem row_of child reading lead field_at tail fields
    closing in_item elements level struct_sink sink_of walk_window walk
placed_cases_hold = refl
