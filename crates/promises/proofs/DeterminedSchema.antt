-- Each public call of schema is determined by its contract: what it gives and leaves equals what a definition gives.
use Rattle.std.specs.Prelude.{Result}
use Prim.Native.Nat.{ℕ}
use mathlib.Core.Path.{◌≡◌}
use mathlib.Core.Bool.{Bool}
use mathlib.Core.List.{List}
use Rattle.schema.specs.Labels.{container_label_from_lem, leaf_label_from_lem, container_label_of, leaf_label_of, label_length_lem, label_part_lem}
use Rattle.schema.specs.Layout.{laid_out}
use Rattle.schema.specs.Refusals.{said, tables_number_lem}
use Rattle.schema.specs.Spans.{spans_of, entry_in_lem, entry_at}
use Rattle.schema.specs.Tables.{tables, row_in, row_of, child, schema_name, declared_name_lem}
use Rattle.schema.specs.TwelveLevels.{public_levels_lem, FillsSchema}
use Rattle.schema.specs.declared.Short.{Short}
use Rattle.schema.specs.declared.Entry.{Entry}
use Rattle.schema.specs.declared.Label.{Label}
use Rattle.schema.specs.declared.Span.{Span}
use Rattle.promises.specs.Determining.{Determines, DeterminesAll}
use Rattle.promises.proofs.Determined.{one_equal, three_equal}

-- ---- labels

-- `container_label_from` has one answer.
pub one_container_label_from : (entry : Entry) → Determines (λ r. r ≡ container_label_from_lem entry)
one_container_label_from entry = one_equal (container_label_from_lem entry)

-- `leaf_label_from` has one answer.
pub one_leaf_label_from : (entry : Entry) (declared : List ℕ) (handle : ℕ) → Determines (λ r. r ≡ leaf_label_from_lem entry declared handle)
one_leaf_label_from entry declared handle = one_equal (leaf_label_from_lem entry declared handle)

-- `container_label` has one answer.
pub one_container_label : (rows : List ℕ) (level handle : ℕ) → Determines (λ r. r ≡ container_label_of rows level handle)
one_container_label rows level handle = one_equal (container_label_of rows level handle)

-- `label_of` has one answer.
pub one_label_of : (rows declared : List ℕ) (level handle : ℕ) → Determines (λ r. r ≡ leaf_label_of rows declared level handle)
one_label_of rows declared level handle = one_equal (leaf_label_of rows declared level handle)

-- `label_length` has one answer.
pub one_label_length : (label : Label) (handle : ℕ) → Determines (λ r. r ≡ label_length_lem handle label)
one_label_length label handle = one_equal (label_length_lem handle label)

-- `label_part` has one answer.
pub one_label_part : (declaredPool schemaPool : List ℕ) (label : Label) → Determines (λ r. r ≡ label_part_lem declaredPool schemaPool label)
one_label_part declaredPool schemaPool label = one_equal (label_part_lem declaredPool schemaPool label)

-- ---- tables

-- `check_tables` has one answer.
pub one_check_tables : (rows : List ℕ) (levels root : ℕ) (names declared declared_names_lem : List ℕ)
    → Determines (λ r. r ≡ laid_out (tables rows names declared declared_names_lem) levels root)
one_check_tables rows levels root names declared declared_names_lem = one_equal (laid_out (tables rows names declared declared_names_lem) levels root)

-- `first_row` has one answer.
pub one_first_row : (rows : List ℕ) (span : Span) (level kind handle : ℕ) → Determines (λ r. r ≡ row_in rows span level kind handle)
one_first_row rows span level kind handle = one_equal (row_in rows span level kind handle)

-- `row_of` has one answer.
pub one_row_of : (rows : List ℕ) (level kind handle : ℕ) → Determines (λ r. r ≡ row_of rows level kind handle)
one_row_of rows level kind handle = one_equal (row_of rows level kind handle)

-- `child_of` has one answer.
pub one_child_of : (rows : List ℕ) (level handle : ℕ) → Determines (λ r. r ≡ child rows level handle)
one_child_of rows level handle = one_equal (child rows level handle)

-- `name_of` has one answer.
pub one_name_of : (rows : List ℕ) (level handle : ℕ) → Determines (λ r. r ≡ schema_name rows level handle)
one_name_of rows level handle = one_equal (schema_name rows level handle)

-- `declared_name` has one answer.
pub one_declared_name : (declared : List ℕ) (handle : ℕ) → Determines (λ r. r ≡ declared_name_lem declared handle)
one_declared_name declared handle = one_equal (declared_name_lem declared handle)

-- `level_spans` has one answer.
pub one_level_spans : (rows : List ℕ) → Determines (λ r. r ≡ spans_of rows)
one_level_spans rows = one_equal (spans_of rows)

-- `entry_in` has one answer.
pub one_entry_in : (rows : List ℕ) (span : Span) (level handle : ℕ) → Determines (λ r. r ≡ entry_in_lem rows span level handle)
one_entry_in rows span level handle = one_equal (entry_in_lem rows span level handle)

-- `entry_of` has one answer.
pub one_entry_of : (rows : List ℕ) (spans : List Span) (level handle : ℕ) → Determines (λ r. r ≡ entry_at rows spans level handle)
one_entry_of rows spans level handle = one_equal (entry_at rows spans level handle)

-- ---- the twelve levels

-- `public_levels` has one answer.
pub one_public_levels : Determines (λ r. r ≡ public_levels_lem)
one_public_levels = one_equal public_levels_lem

-- `fill_schema` has one answer and leaves both buffers in one state.
pub one_fill_schema : (rows names : List ℕ)
    → DeterminesAll (λ r (end : List ℕ × List ℕ). FillsSchema rows names r end.0 end.1)
one_fill_schema rows names = three_equal _ _ _

-- ---- what a refusal says

-- `said` has one answer.
pub one_said : (answer : Result Unit Short) → Determines (λ r. r ≡ said answer)
one_said answer = one_equal (said answer)

-- `tables_number` has one answer.
pub one_tables_number : (kept : Bool) → Determines (λ r. r ≡ tables_number_lem kept)
one_tables_number kept = one_equal (tables_number_lem kept)
