-- A level whose terminator stands closes, and any other head ends it as it ends the fields.
use Rattle.std.proofs.Common.{refl, subst, rules}
use borrow.Enum.Refused.{opened}
use Rattle.steps.specs.Views.{HeadIn}
use Rattle.steps.proofs.StopLaws.{level_closed, level_other}
use Rattle.steps.proofs.LentLaws.{lent_counted}
use Rattle.steps.proofs.exits.stop_level.Goals as goal

pub close_level-requires : goal.close_level-requires
close_level-requires c =
    let l = subst (HeadIn c.args.piece.now.end) c.in-Closed.is c.requires.0 in
    search (rules, l)

pub returns-in-Closed : goal.returns-in-Closed
returns-in-Closed c =
    record { out = level_closed _ _ _ _ _ _ _ _ _ c.in-Closed.is (c.close_level.ensures _ _ _ _); kept = refl; lent = lent_counted _ _ }

pub returns : goal.returns
returns c =
    let p = c.stop_fields.ensures c.args.inside in
    record { out = level_other _ _ _ _ _ _ _ _ (opened c.in_default.in_default-own.keys2) p.out; kept = p.kept; lent = p.lent }
