-- `schema::fill_schema` meets its contract: where both buffers have room the table is copied.
use Rattle.std.proofs.Common.{ap, List, ℕ, ◌++◌, drop}
use Rattle.schema.specs.TwelveLevels.{schema_rows, schema_names, ascii}
use Rattle.schema.proofs.TwelveLaws.{both_fit}
use Rattle.schema.proofs.twelve.fill_schema.Goals as goal

pub returns : goal.returns
unfolding schema_rows schema_names ascii
returns c =
    both_fit _ _ _ _ c.if-rows-lt-ROW_NUMBERS.false c.if-names-lt-NAME_BYTES.false
    (ap (λ (l : List ℕ). l ++ drop 170 c.args.rows.now) c.copy_from_slice.ensures.after)
    (ap (λ (l : List ℕ). l ++ drop 187 c.args.names.now) c.copy_from_slice-2.ensures.after)
