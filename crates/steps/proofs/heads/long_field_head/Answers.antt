-- `steps::long_field_head` meets its contract: each case of the handle's number has its answer, and a field's head is its width's.
use Rattle.std.proofs.Common.{sym, ◌∙◌, arith}
use Rattle.steps.specs.Views.{up_to}
use Rattle.steps.proofs.HeadLaws.{number_within, field_ended, field_failed, field_closed, field_limit, field_wide}
use Rattle.steps.proofs.PadLaws.{field_none, field_fails, field_zero, field_back, field_takes}
use Rattle.steps.proofs.TallyLaws.{pads_none, pads_as, pads_then}
use Rattle.steps.proofs.heads.long_field_head.Goals as goal

pub returns-then-end-at : goal.returns-then-end-at
unfolding up_to
returns-then-end-at c = record { says = sym (field_ended _ _ _ (omega arith)); pads = pads_none _ _ (field_none _ _ _ (omega arith)) }

pub returns-then-number-eq0 : goal.returns-then-number-eq0
unfolding up_to
returns-then-number-eq0 c =
    let e = sym c.in-Some.ensures in
    record { says = sym (field_closed _ _ (omega arith) _ _ e _ c.if-number-eq0.true); pads = pads_as _ _ _ _ (field_zero _ _ _ (omega arith) _ _ e c.if-number-eq0.true) c.take_number.ensures }

pub returns-then-left-eq0 : goal.returns-then-left-eq0
unfolding up_to
returns-then-left-eq0 c =
    let e = sym c.in-Some.ensures in
    record { says = sym (field_limit _ _ (omega arith) _ _ e _ c.if-number-eq0.false c.if-left-eq0.true); pads = pads_none _ _ (field_back _ _ _ (omega arith) _ _ e c.if-number-eq0.false c.if-left-eq0.true) }

pub width_head-requires : goal.width_head-requires
unfolding up_to
width_head-requires c =
    let h = number_within _ _ _ _ (sym c.in-Some.ensures) in
    omega arith

pub returns : goal.returns
unfolding up_to
returns c =
    let e = sym c.in-Some.ensures in
    record { says = c.width_head.ensures.says ∙ sym (field_wide _ _ (omega arith) _ _ e _ c.if-number-eq0.false c.if-left-eq0.false); pads = pads_then _ _ _ _ _ _ (field_takes _ _ _ (omega arith) _ _ e c.if-number-eq0.false c.if-left-eq0.false) c.take_number-2.ensures c.width_head.ensures.pads }

pub returns-in_default : goal.returns-in_default
unfolding up_to
returns-in_default c =
    let e = sym c.in_default.ensures in
    record { says = sym (field_failed _ _ (omega arith) _ e); pads = pads_none _ _ (field_fails _ _ _ (omega arith) e) }
