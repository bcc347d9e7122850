-- A path of 852 bytes is reached, over tables that keep their layout: antt computes both walks. So 852 can't be made smaller.
use mathlib.Core.Path.{◌≡◌, refl}
use mathlib.Core.Bool.{true}
use mathlib.Core.List.{[], ◌∷◌}
use Rattle.bits.specs.Sizes.{longest_path}
use Rattle.bits.specs.Bits.{num, field}
use Rattle.bits.specs.Packed.{after, earlier_byte, fifth_byte, packed_from, packed}
use Rattle.bits.specs.Decimals.{digits, decimal}
use Rattle.schema.specs.Tables.{cell, row_matches_lem, first_row_lem, row_of, child, schema_name, declared_name_lem}
use Rattle.schema.specs.Labels.{by_schema_lem, container_label_lem, by_declaration_lem, leaf_label, label_bytes, at_index, dot}
use Rattle.schema.specs.Layout.{all_from, name_fits_lem, kind_fits_lem, row_fits, declared_fits, schema_sized, declared_sized, root_fits_lem, schema_laid, declared_laid, laid_out}
use Rattle.framing.specs.Windows.{reading}
use Rattle.framing.specs.Counters.{counted, counters}
use Rattle.framing.specs.Walk.{lead, field_at, tail, fields, closing, in_item, elements, level}
use Rattle.framing.specs.Sinks.{struct_sink, object_sink, sink_of, walk_window, walk}
use Rattle.framing.specs.LongestCase.{long_names, longest_leaf, longest_deep, long_walk, path_lengths}

pub names_laid : laid_out long_names 1 0 ≡ true
unfolding all_from name_fits_lem kind_fits_lem row_fits declared_fits schema_sized declared_sized root_fits_lem schema_laid declared_laid laid_out cell
names_laid = refl

-- a leaf, and nothing is amiss
pub longest_leaf_lem : (path_lengths (long_walk longest_leaf) ≡ longest_path ∷ []) × (counters (long_walk longest_leaf) ≡ counted 12 1 0 0 0 0 0)
unfolding num field after earlier_byte fifth_byte packed_from packed cell row_matches_lem first_row_lem row_of child schema_name declared_name_lem digits decimal by_schema_lem
    container_label_lem by_declaration_lem leaf_label label_bytes at_index dot reading lead field_at tail fields closing in_item elements level struct_sink object_sink
    sink_of walk_window walk
longest_leaf_lem = (refl, refl)

-- an array too deep to be walked: one truncation
pub longest_deep_lem : (path_lengths (long_walk longest_deep) ≡ longest_path ∷ []) × (counters (long_walk longest_deep) ≡ counted 12 1 1 0 0 0 0)
unfolding num field after earlier_byte fifth_byte packed_from packed cell row_matches_lem first_row_lem row_of child schema_name declared_name_lem digits decimal by_schema_lem
    container_label_lem by_declaration_lem leaf_label label_bytes at_index dot reading lead field_at tail fields closing in_item elements level struct_sink object_sink
    sink_of walk_window walk
longest_deep_lem = (refl, refl)
