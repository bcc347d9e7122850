-- `steps::width_head` meets its contract: each case of the width's number has its answer, and that number was taken.
use Rattle.std.proofs.Common.{sym, arith}
use Rattle.steps.specs.Views.{up_to}
use Rattle.steps.proofs.HeadLaws.{number_within, width_failed, width_past, width_go}
use Rattle.steps.proofs.PadLaws.{none_there, one_there}
use Rattle.steps.proofs.TallyLaws.{pads_none, pads_as}
use Rattle.steps.proofs.heads.width_head.Goals as goal

pub overflow_sub-end : goal.overflow_sub-end
unfolding up_to
overflow_sub-end c = let h = number_within _ _ _ _ (sym c.in-Some.ensures) in omega arith

pub returns-then-end-body : goal.returns-then-end-body
unfolding up_to
returns-then-end-body c =
    let e = sym c.in-Some.ensures in
    let h = number_within _ _ _ _ e in
    record { says = sym (width_past _ _ _ _ _ e (omega arith)); pads = pads_as _ _ _ _ (one_there _ _ _ _ e) c.take_number.ensures }

pub returns : goal.returns
unfolding up_to
returns c =
    let e = sym c.in-Some.ensures in
    let h = number_within _ _ _ _ e in
    record { says = sym (width_go _ _ _ _ _ e (omega arith)); pads = pads_as _ _ _ _ (one_there _ _ _ _ e) c.take_number.ensures }

pub returns-in_default : goal.returns-in_default
returns-in_default c =
    let e = sym c.in_default.ensures in
    record { says = sym (width_failed _ _ _ e); pads = pads_none _ _ (none_there _ _ e) }
