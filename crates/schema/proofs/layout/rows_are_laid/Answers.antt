-- `schema::rows_are_laid` meets its contract: what is asked of the range is asked of the numbers from 0 on.
use Rattle.std.proofs.Common.{rules, refl, ◌∙◌}
use Rattle.std.proofs.lemmas.Iterator.{YieldsList-from_range}
use Rattle.std.proofs.lemmas.Iterator.Search.{all_from_yields_List}
use native.Mathlib.Nat.{sub-zero}
use borrow.Author.Tests.{tests}
use Rattle.schema.specs.Tables.{row_count}
use Rattle.schema.specs.Layout.{row_fits}
use Rattle.schema.proofs.LayoutLaws.{all_in_range}
use Rattle.schema.proofs.layout.rows_are_laid.Goals as goal

pub returns : goal.returns
returns c =
    all_from_yields_List (row_fits c.args.rows.now c.args.levels c.args.pool) _ _ _ c.all.ensures.ran (YieldsList-from_range 0 (row_count c.args.rows.now) (row_count c.args.rows.now) refl (sub-zero _)) (λ x b q k. search (rules, tests))
    ∙ all_in_range (row_fits c.args.rows.now c.args.levels c.args.pool) (row_count c.args.rows.now) 0
