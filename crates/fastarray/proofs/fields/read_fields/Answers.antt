-- `fastarray::read_fields` meets its contract: each turn reads one field, and what is left to read is the rest of the stream.
use Rattle.std.proofs.Common.{Some, sym, ◌∙◌, ap, arith}
use Rattle.fastarray.proofs.FieldLaws.{opens_within, read_broken, read_closed, read_opened}
use Rattle.fastarray.proofs.fields.read_fields.Goals as goal

pub returns-in_err-head-clause-says : goal.returns-in_err-head-clause-says
returns-in_err-head-clause-says c =
    c.from_residual.ensures ∙ (read_broken _ _ _ _ _ _ _ _ _ _ c.loop-head.invariant (sym c.field_head.ensures ∙ c.in_err-head.was)).0

pub returns-in_err-head-clause-stored : goal.returns-in_err-head-clause-stored
returns-in_err-head-clause-stored c = (read_broken _ _ _ _ _ _ _ _ _ _ c.loop-head.invariant (sym c.field_head.ensures ∙ c.in_err-head.was)).1

pub returns-in-Closes-clause-says : goal.returns-in-Closes-clause-says
returns-in-Closes-clause-says c =
    (read_closed _ _ _ _ _ _ _ _ _ _ c.loop-head.invariant _ _ (sym c.field_head.ensures ∙ c.in_ok-head.was ∙ ap Some c.in-Closes.is)).0

pub returns-in-Closes-clause-stored : goal.returns-in-Closes-clause-stored
returns-in-Closes-clause-stored c =
    (read_closed _ _ _ _ _ _ _ _ _ _ c.loop-head.invariant _ _ (sym c.field_head.ensures ∙ c.in_ok-head.was ∙ ap Some c.in-Closes.is)).1

pub overflow_cast-start : goal.overflow_cast-start
overflow_cast-start c =
    let k = opens_within _ _ _ _ _ _ _ _ (sym c.field_head.ensures ∙ c.in_ok-head.was ∙ ap Some c.in-Opens.is) in omega arith

pub overflow_add-reached-in-Opens : goal.overflow_add-reached-in-Opens
overflow_add-reached-in-Opens c =
    let k = opens_within _ _ _ _ _ _ _ _ (sym c.field_head.ensures ∙ c.in_ok-head.was ∙ ap Some c.in-Opens.is) in omega arith

pub loop-head-smaller : goal.loop-head-smaller
loop-head-smaller c =
    let k = opens_within _ _ _ _ _ _ _ _ (sym c.field_head.ensures ∙ c.in_ok-head.was ∙ ap Some c.in-Opens.is) in omega arith

pub loop-head-preserved : goal.loop-head-preserved
loop-head-preserved c =
    read_opened _ _ _ _ _ _ _ _ _ _ c.loop-head.invariant _ _ _ _ _ (sym c.field_head.ensures ∙ c.in_ok-head.was ∙ ap Some c.in-Opens.is) c.store_record.ensures
