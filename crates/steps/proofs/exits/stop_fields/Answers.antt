-- Each head counts what it says, and a limit keeps the tail.
use Rattle.std.proofs.Common.{refl, subst, rules}
use Rattle.steps.specs.Views.{HeadIn}
use Rattle.steps.proofs.StopLaws.{fields_ended, fields_failed, fields_closed, fields_limit, fields_go}
use Rattle.steps.proofs.LentLaws.{lent_same, lent_counted, lent_then}
use Rattle.steps.proofs.exits.stop_fields.Goals as goal

pub keep_tail-requires : goal.keep_tail-requires
keep_tail-requires c =
    let l = subst (HeadIn c.args.piece.now.end) c.in-Limit.is c.requires.0 in
    search (rules, l)

pub returns-in-Ended : goal.returns-in-Ended
returns-in-Ended c = λ inside. record { out = fields_ended _ _ _ _ _ _ _ _ _ _ _ c.in-Ended.is c.count.ensures; kept = refl; lent = lent_counted _ _ }

pub returns-in-Failed : goal.returns-in-Failed
returns-in-Failed c = λ inside. record { out = fields_failed _ _ _ _ _ _ _ _ _ _ _ c.in-Failed.is c.count-in-Failed.ensures; kept = refl; lent = lent_counted _ _ }

pub returns-in-Closed : goal.returns-in-Closed
returns-in-Closed c = λ inside. record { out = fields_closed _ _ _ _ _ _ _ _ c.in-Closed.is; kept = refl; lent = lent_same _ }

pub returns-in-Limit : goal.returns-in-Limit
returns-in-Limit c = λ inside. record { out = fields_limit _ _ _ _ _ _ _ _ _ _ _ _ _ c.in-Limit.is c.count-in-Limit.ensures (c.keep_tail.ensures inside).out; kept = (c.keep_tail.ensures inside).kept; lent = lent_then _ _ _ (lent_counted _ _) (c.keep_tail.ensures inside).lent }

pub returns-in-Go : goal.returns-in-Go
returns-in-Go c = λ inside. record { out = fields_go _ _ _ _ _ _ _ _ _ _ c.in-Go.is; kept = refl; lent = lent_same _ }
