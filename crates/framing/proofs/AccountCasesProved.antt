-- The bits of the small windows of specs/AccountCases go where the table says: antt computes it.
use mathlib.Core.Path.{◌≡◌, refl}
use mathlib.Core.List.{map}
use Rattle.bits.specs.Bits.{num, field}
use Rattle.bits.specs.Packed.{after, earlier_byte, fifth_byte, packed_from, packed}
use Rattle.schema.specs.Tables.{cell, row_matches_lem, first_row_lem, row_of, child, schema_name, declared_name_lem}
use Rattle.bits.specs.Decimals.{digits, decimal}
use Rattle.schema.specs.Labels.{by_schema_lem, container_label_lem, by_declaration_lem, leaf_label, label_bytes, at_index, dot}
use Rattle.schema.specs.TwelveLevels.{ascii, schema_rows, schema_names}
use Rattle.framing.specs.Windows.{reading}
use Rattle.framing.specs.Walk.{lead, field_at, tail, fields, closing, in_item, elements, level}
use Rattle.framing.specs.Sinks.{struct_sink, object_sink, sink_of, walk_window, walk}
use Rattle.framing.specs.AccountCases.{account_cases, account_found}

pub account_cases_hold : map account_found account_cases ≡ map (λ c. c.parts) account_cases
unfolding ascii schema_rows schema_names num field after earlier_byte fifth_byte packed_from packed cell row_matches_lem first_row_lem row_of child
    schema_name declared_name_lem digits decimal by_schema_lem container_label_lem by_declaration_lem leaf_label label_bytes at_index dot reading lead field_at
    tail fields closing in_item elements level struct_sink object_sink sink_of walk_window walk
account_cases_hold = refl
