-- `schema::handles_are_laid` meets its contract: what is asked of the range is asked of the numbers from 0 on.
use Rattle.std.proofs.Common.{rules, refl, ◌∙◌, ◌/◌, length}
use Rattle.std.proofs.lemmas.Iterator.{YieldsList-from_range}
use Rattle.std.proofs.lemmas.Iterator.Search.{all_from_yields_List}
use native.Mathlib.Nat.{sub-zero}
use borrow.Author.Tests.{tests}
use Rattle.schema.specs.Layout.{declared_fits}
use Rattle.schema.proofs.LayoutLaws.{all_in_range}
use Rattle.schema.proofs.layout.handles_are_laid.Goals as goal

pub returns : goal.returns
returns c =
    all_from_yields_List (declared_fits c.args.declared.now c.args.pool) _ _ _ c.all.ensures.ran (YieldsList-from_range 0 (length c.args.declared.now / 2) (length c.args.declared.now / 2) refl (sub-zero _)) (λ x b q k. search (rules, tests))
    ∙ all_in_range (declared_fits c.args.declared.now c.args.pool) (length c.args.declared.now / 2) 0
