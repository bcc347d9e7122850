-- The span of a level's rows: from the first row of the level to the row after its last. Levels that no schema has, from `max_levels` on, share
-- one. A look-up in the span finds what one in the whole table finds (proofs/SpanLaws).
use Rattle.std.specs.Prelude.{ℕ, Option, Some, None, zero, suc, ◌+◌, min, List, set, get_or, replicate, eqb, if◌then◌else◌}
use Rattle.bits.specs.Sizes.{max_levels}
use Rattle.schema.specs.Tables.{cell, row_matches_lem, array_kind, name_kind, child_at, name_at, row_count, row_in, child, schema_name}
use Rattle.schema.specs.declared.Entry.{Entry}
use Rattle.schema.specs.declared.Span.{Span}
use Rattle.schema.specs.declared.spans.Kind.{Kind}
use Rattle.schema.specs.declared.spans.Kind.TheVariants.{Array, Name}

-- what the schema says of a handle of a level
abbrev pub entry : (rows : List ℕ) (level handle : ℕ) → Entry
entry rows level handle = record { elements = child rows level handle; name = schema_name rows level handle }

-- the same, of the rows of a span alone
unfoldable pub entry_in_lem : (rows : List ℕ) → Span → (level handle : ℕ) → Entry
entry_in_lem rows s level handle =
    record { elements = child_at rows (row_in rows s level array_kind handle); name = name_at rows (row_in rows s level name_kind handle) }

-- what row i says of a handle of a level
abbrev pub kind_in : (rows : List ℕ) (level handle i : ℕ) → Option Kind
kind_in rows level handle i =
    if row_matches_lem rows level array_kind handle i then Some Array else (if row_matches_lem rows level name_kind handle i then Some Name else None)

-- the span of a level without rows
abbrev pub no_rows : Span
no_rows = record { first = 0; last = 0 }

abbrev pub span_count : ℕ
span_count = max_levels + 1

abbrev pub no_spans : List Span
no_spans = replicate span_count no_rows

-- where the span of a level stands
unfoldable pub span_place : (level : ℕ) → ℕ
span_place level = min level max_levels

unfoldable pub span_at : (spans : List Span) (level : ℕ) → Span
span_at spans level = get_or spans (span_place level) no_rows

-- a span with row i, which stands behind its others
unfoldable pub with_row_lem : Span → (i : ℕ) → Span
with_row_lem s i = record { first = if eqb s.last 0 then i else s.first; last = i + 1 }

-- row i of a level widens its span
unfoldable pub widened : (spans : List Span) (level i : ℕ) → List Span
widened spans level i = set spans (span_place level) (with_row_lem (span_at spans level) i)

-- the spans after the `left` rows from i on
unfoldable pub spans_from : (left : ℕ) (rows : List ℕ) (spans : List Span) (i : ℕ) → List Span
spans_from zero rows spans i = spans
spans_from (suc left) rows spans i = spans_from left rows (widened spans (cell rows i 0) i) (i + 1)

unfoldable pub spans_of : (rows : List ℕ) → List Span
spans_of rows = spans_from (row_count rows) rows no_spans 0

-- what the rows of a level's span say of a handle
unfoldable pub entry_at : (rows : List ℕ) (spans : List Span) (level handle : ℕ) → Entry
entry_at rows spans level handle = entry_in_lem rows (span_at spans level) level handle
