-- `steps::level_head` meets its contract: each case of the count's number has its answer, and that number was taken.
use Rattle.std.proofs.Common.{sym, arith}
use Rattle.steps.proofs.HeadLaws.{level_failed, level_limit, level_go}
use Rattle.steps.proofs.PadLaws.{none_there, one_there}
use Rattle.steps.proofs.TallyLaws.{pads_none, pads_as}
use Rattle.steps.proofs.heads.level_head.Goals as goal

pub returns-then-count-gt-MAX_ELEMENTS : goal.returns-then-count-gt-MAX_ELEMENTS
returns-then-count-gt-MAX_ELEMENTS c =
    let e = sym c.in-Some.ensures in
    record { says = sym (level_limit _ _ _ _ e (omega arith)); pads = pads_as _ _ _ _ (one_there _ _ _ _ e) c.take_number.ensures }

pub returns : goal.returns
returns c =
    let e = sym c.in-Some.ensures in
    record { says = sym (level_go _ _ _ _ e (omega arith)); pads = pads_as _ _ _ _ (one_there _ _ _ _ e) c.take_number.ensures }

pub returns-in_default : goal.returns-in_default
returns-in_default c =
    let e = sym c.in_default.ensures in
    record { says = sym (level_failed _ _ e); pads = pads_none _ _ (none_there _ _ e) }
