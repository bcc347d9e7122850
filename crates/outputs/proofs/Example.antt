-- 01's case 1, whole: the answer and the buffers, lent a little more than is needed; and lent too little. antt computes it.
use mathlib.Core.Path.{◌≡◌, refl}
use mathlib.Core.List.{[], ◌∷◌}
use Rattle.bits.specs.Bits.{num, field}
use Rattle.bits.specs.Runs.{bytes_of}
use Rattle.bits.specs.Packed.{after, earlier_byte, fifth_byte, packed_from, packed}
use Rattle.bits.specs.Padded.{padded, padded_among}
use Rattle.schema.specs.Tables.{no_tables, absent, cell, row_matches_lem, first_row_lem, row_of, child, schema_name, declared_name_lem}
use Rattle.bits.specs.Decimals.{digits, decimal}
use Rattle.schema.specs.Labels.{by_schema_lem, container_label_lem, by_declaration_lem, leaf_label, label_bytes, at_index, dot}
use Rattle.schema.specs.Layout.{all_from, name_fits_lem, kind_fits_lem, row_fits, declared_fits, schema_sized, declared_sized, root_fits_lem, schema_laid, declared_laid, laid_out}
use Rattle.framing.specs.Windows.{reading}
use Rattle.framing.specs.Counters.{counted}
use Rattle.framing.specs.Walk.{lead, field_at, tail, fields, closing, in_item, elements, level}
use Rattle.framing.specs.Sinks.{struct_sink, struct, sink_of, walk_window, walk}
use Rattle.framing.specs.Records.{path_bytes_lem, payload_bytes_lem, leaf_records}
use Rattle.framing.specs.Refusing.{refused, accepted, needed, decided}
use Rattle.outputs.specs.Answers.{Call, Lent, answer, final_leaves, final_paths, final_payloads, final}

abbrev case1 : Call
case1 = record { how = struct no_tables absent; levels = 0; bytes = 2 ∷ 2 ∷ 4 ∷ 16 ∷ 171 ∷ 0 ∷ 0 ∷ []; bits = 56 }

abbrev enough : Lent
enough = record { leaves = 9 ∷ 9 ∷ 9 ∷ 9 ∷ 9 ∷ 9 ∷ 9 ∷ []; paths = 9 ∷ 9 ∷ 9 ∷ 9 ∷ 9 ∷ 9 ∷ 9 ∷ 9 ∷ []; payloads = 9 ∷ 9 ∷ [] }

abbrev scarce : Lent
scarce = record { leaves = 9 ∷ 9 ∷ 9 ∷ 9 ∷ 9 ∷ []; paths = 9 ∷ 9 ∷ 9 ∷ 9 ∷ 9 ∷ 9 ∷ 9 ∷ 9 ∷ []; payloads = 9 ∷ 9 ∷ [] }

-- lent enough it is accepted and each buffer is filled from its start; lent too little it is refused with the needs, and the buffers stay
pub case1_holds : (answer case1 enough ≡ accepted (counted 1 1 0 0 0 0 0) 0 (record { leaves = 1; path_bytes_lem = 7; payload_bytes_lem = 1 }))
    × (final case1 enough
    ≡ record { leaves = 0 ∷ 7 ∷ 1 ∷ 8 ∷ 0 ∷ 32 ∷ 9 ∷ []; paths = 91 ∷ 48 ∷ 93 ∷ 46 ∷ 95 ∷ 104 ∷ 49 ∷ 9 ∷ []; payloads = 171 ∷ 9 ∷ [] })
    × (answer case1 scarce ≡ refused 3 (record { leaves = 1; path_bytes_lem = 7; payload_bytes_lem = 1 }))
    × (final case1 scarce ≡ scarce)
unfolding padded padded_among answer decided final_leaves final_paths final_payloads leaf_records all_from name_fits_lem kind_fits_lem row_fits declared_fits schema_sized
    declared_sized root_fits_lem schema_laid declared_laid laid_out needed path_bytes_lem payload_bytes_lem bytes_of num field after earlier_byte fifth_byte packed_from
    packed cell row_matches_lem first_row_lem row_of child schema_name declared_name_lem digits decimal by_schema_lem container_label_lem by_declaration_lem leaf_label label_bytes
    at_index dot reading lead field_at tail fields closing in_item elements level struct_sink sink_of walk_window walk
case1_holds = (refl, refl, refl, refl)
