-- `steps::element_head` meets its contract: each case of the index number has its answer, and that number was taken unless it is put back.
use Rattle.std.proofs.Common.{sym, arith}
use Rattle.steps.specs.Views.{up_to}
use Rattle.steps.proofs.HeadLaws.{element_ended, element_failed, element_closed, element_limit, element_beyond, element_go}
use Rattle.steps.proofs.PadLaws.{element_none, element_fails, element_zero, element_back, element_takes}
use Rattle.steps.proofs.TallyLaws.{pads_none, pads_as}
use Rattle.steps.proofs.heads.element_head.Goals as goal

pub returns-then-end-at : goal.returns-then-end-at
unfolding up_to
returns-then-end-at c = record { says = sym (element_ended _ _ _ _ (omega arith)); pads = pads_none _ _ (element_none _ _ _ (omega arith)) }

pub returns-then-number-eq0 : goal.returns-then-number-eq0
unfolding up_to
returns-then-number-eq0 c =
    let e = sym c.in-Some.ensures in
    record { says = sym (element_closed _ _ _ _ (omega arith) _ _ e c.if-number-eq0.true); pads = pads_as _ _ _ _ (element_zero _ _ _ (omega arith) _ _ e c.if-number-eq0.true) c.take_number.ensures }

pub returns-then-left-eq0 : goal.returns-then-left-eq0
unfolding up_to
returns-then-left-eq0 c =
    let e = sym c.in-Some.ensures in
    record { says = sym (element_limit _ _ _ _ (omega arith) _ _ e c.if-number-eq0.false c.if-left-eq0.true); pads = pads_none _ _ (element_back _ _ _ (omega arith) _ _ e c.if-number-eq0.false c.if-left-eq0.true) }

pub returns-then-count-number : goal.returns-then-count-number
unfolding up_to
returns-then-count-number c =
    let e = sym c.in-Some.ensures in
    record { says = sym (element_beyond _ _ _ _ (omega arith) _ _ e c.if-number-eq0.false c.if-left-eq0.false (omega arith)); pads = pads_as _ _ _ _ (element_takes _ _ _ (omega arith) _ _ e c.if-number-eq0.false c.if-left-eq0.false) c.take_number-2.ensures }

pub returns : goal.returns
unfolding up_to
returns c =
    let e = sym c.in-Some.ensures in
    record { says = sym (element_go _ _ _ _ (omega arith) _ _ e c.if-number-eq0.false c.if-left-eq0.false (omega arith)); pads = pads_as _ _ _ _ (element_takes _ _ _ (omega arith) _ _ e c.if-number-eq0.false c.if-left-eq0.false) c.take_number-2.ensures }

pub returns-in_default : goal.returns-in_default
unfolding up_to
returns-in_default c =
    let e = sym c.in_default.ensures in
    record { says = sym (element_failed _ _ _ _ (omega arith) e); pads = pads_none _ _ (element_fails _ _ _ (omega arith) e) }
