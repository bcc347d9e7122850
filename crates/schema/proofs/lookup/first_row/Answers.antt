-- `schema::first_row` meets its contract: the first of the range that matches is the first of the rows that does.
use Rattle.std.proofs.Common.{rules, refl, sym, ap, ◌∙◌, ℕ, ◌-◌}
use Rattle.std.proofs.lemmas.Iterator.{YieldsList-from_range}
use Rattle.std.proofs.lemmas.Iterator.Search.{find_from_yields_List}
use Rattle.std.proofs.lemmas.Iterator.Adapters.{option_map_id}
use borrow.Author.Tests.{tests}
use Rattle.schema.specs.Tables.{row_matches_lem, first_row_lem, row_in}
use Rattle.schema.proofs.RowLaws.{first_in_range}
use Rattle.schema.proofs.lookup.first_row.Goals as goal

pub returns : goal.returns
unfolding row_in
returns c =
    let a = c.args in
    let end = c.clipped-end.result in
    sym (option_map_id c.find.result)
    ∙ find_from_yields_List (row_matches_lem a.rows.now a.level a.kind a.handle) _ _ c.find.result c.find.ensures.ran
    (YieldsList-from_range a.span.first end (end - a.span.first) refl refl)
    (λ x b q k. search (rules, tests))
    ∙ first_in_range a.rows.now a.level a.kind a.handle (end - a.span.first) a.span.first
    ∙ ap (λ (m : ℕ). first_row_lem (m - a.span.first) a.rows.now a.level a.kind a.handle a.span.first) c.clipped-end.ensures
