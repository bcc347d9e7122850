-- `steps::field_head` meets its contract: the two bytes are the field's numbers where each is even, and else the long way is taken.
use Rattle.std.proofs.Common.{sym, ◌∙◌, arith}
use Rattle.steps.specs.Views.{up_to}
use Rattle.steps.proofs.HeadLaws.{field_ended, two_closed, two_limit, two_wide, two_past, two_go}
use Rattle.steps.proofs.PadLaws as P
use Rattle.steps.proofs.TallyLaws.{pads_none, pads_as}
use Rattle.steps.proofs.heads.field_head.Goals as goal

pub returns-then-end-at : goal.returns-then-end-at
unfolding up_to
returns-then-end-at c = record { says = sym (field_ended _ _ _ (omega arith)); pads = pads_none _ _ (P.field_none _ _ _ (omega arith)) }

pub returns-then-end-at-lt16 : goal.returns-then-end-at-lt16
returns-then-end-at-lt16 c = record { says = c.long_field_head.ensures.says; pads = c.long_field_head.ensures.pads }

pub returns-then-first-eq0 : goal.returns-then-first-eq0
returns-then-first-eq0 c =
    record {
      says = sym (two_closed _ _ _ _ _ (omega arith) c.two_bytes_at-two.ensures c.if-first-eq0.true);
      pads = pads_none _ _ (P.two_zero _ _ _ _ _ (omega arith) c.two_bytes_at-two.ensures c.if-first-eq0.true);
    }

pub returns-then-first-eq1 : goal.returns-then-first-eq1
returns-then-first-eq1 c = record { says = c.long_field_head-then-first-eq1.ensures.says; pads = c.long_field_head-then-first-eq1.ensures.pads }

pub returns-then-left-eq0 : goal.returns-then-left-eq0
returns-then-left-eq0 c =
    record {
      says = sym (two_limit _ _ _ _ _ (omega arith) c.two_bytes_at-two.ensures c.if-first-eq0.false c.if-first-eq1.false c.if-left-eq0.true);
      pads = pads_none _ _ (P.two_back _ _ _ _ _ (omega arith) c.two_bytes_at-two.ensures c.if-first-eq0.false c.if-first-eq1.false c.if-left-eq0.true);
    }

pub returns-then-second-eq1 : goal.returns-then-second-eq1
returns-then-second-eq1 c =
    record {
      says = c.width_head.ensures.says ∙ sym (two_wide _ _ _ _ _ (omega arith) c.two_bytes_at-two.ensures c.if-first-eq0.false c.if-first-eq1.false c.if-left-eq0.false);
      pads = pads_as _ _ _ _ (P.two_wide _ _ _ _ _ (omega arith) c.two_bytes_at-two.ensures c.if-first-eq0.false c.if-first-eq1.false c.if-left-eq0.false) c.width_head.ensures.pads;
    }

pub returns-then-end-body : goal.returns-then-end-body
returns-then-end-body c =
    record {
      says = sym (two_past _ _ _ _ _ (omega arith) c.two_bytes_at-two.ensures c.if-first-eq0.false c.if-first-eq1.false c.if-left-eq0.false c.if-second-eq1.false (omega arith));
      pads = pads_none _ _ (P.two_short _ _ _ _ _ (omega arith) c.two_bytes_at-two.ensures c.if-first-eq0.false c.if-first-eq1.false c.if-left-eq0.false c.if-second-eq1.false);
    }

pub returns : goal.returns
returns c =
    record {
      says = sym (two_go _ _ _ _ _ (omega arith) c.two_bytes_at-two.ensures c.if-first-eq0.false c.if-first-eq1.false c.if-left-eq0.false c.if-second-eq1.false (omega arith));
      pads = pads_none _ _ (P.two_short _ _ _ _ _ (omega arith) c.two_bytes_at-two.ensures c.if-first-eq0.false c.if-first-eq1.false c.if-left-eq0.false c.if-second-eq1.false);
    }
