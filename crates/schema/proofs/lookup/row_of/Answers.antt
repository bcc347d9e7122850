-- `schema::row_of` meets its contract: the rows from the first to the last are all rows.
use mathlib.Core.Path.{◌∙◌}
use Rattle.schema.proofs.RowLaws.{row_in_all}
use Rattle.schema.proofs.lookup.row_of.Goals as goal

pub returns : goal.returns
returns c = c.first_row.ensures ∙ row_in_all _ _ _ _
