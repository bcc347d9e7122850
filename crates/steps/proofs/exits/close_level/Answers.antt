-- `steps::close_level` meets its contract: each case of the trailer has its events.
use Rattle.std.proofs.Common.{sym, ◌∙◌, arith}
use Rattle.steps.specs.Views.{exit_sink}
use Rattle.steps.proofs.TallyLaws.{count_error}
use Rattle.steps.proofs.ExitLaws.{closes_plainly, closes_longer, trailer_failed, trailer_zero, trailer_more}
use Rattle.steps.proofs.exits.close_level.Goals as goal

pub returns-then-not-trailer : goal.returns-then-not-trailer
returns-then-not-trailer c = λ base records paths payloads.
    closes_plainly (exit_sink c.args.walk c.args.inside) _ base _ _ _ _ (omega arith) (sym c.takes_trailer-trailer.ensures ∙ c.if-not-trailer.true)
    (c.count_left.ensures records paths payloads)

pub returns-then-piece-at-ne-TRAILER_BITS : goal.returns-then-piece-at-ne-TRAILER_BITS
returns-then-piece-at-ne-TRAILER_BITS c = λ base records paths payloads.
    closes_longer (exit_sink c.args.walk c.args.inside) _ base _ _ _ _ (omega arith) c.if-piece-at-ne-TRAILER_BITS.true (c.count_left-then-piece-at-ne-TRAILER_BITS.ensures records paths payloads)

pub returns-then-number-eq0 : goal.returns-then-number-eq0
returns-then-number-eq0 c = λ base records paths payloads.
    trailer_zero (exit_sink c.args.walk c.args.inside) _ base _ _ _ _ (omega arith) (sym c.takes_trailer-trailer.ensures ∙ c.if-not-trailer.false) c.if-piece-at-ne-TRAILER_BITS.false _ _
    (sym c.in-Some.ensures) c.if-number-eq0.true (c.count_left-then-number-eq0.ensures records paths payloads)

pub returns : goal.returns
returns c = λ base records paths payloads.
    trailer_more (exit_sink c.args.walk c.args.inside) _ base _ _ _ _ (omega arith) (sym c.takes_trailer-trailer.ensures ∙ c.if-not-trailer.false) c.if-piece-at-ne-TRAILER_BITS.false _ _
    (sym c.in-Some.ensures) c.if-number-eq0.false (c.count_left-2.ensures records paths payloads)

pub returns-in_default : goal.returns-in_default
returns-in_default c = λ base records paths payloads.
    trailer_failed (exit_sink c.args.walk c.args.inside) _ base _ _ _ _ (omega arith) (sym c.takes_trailer-trailer.ensures ∙ c.if-not-trailer.false) c.if-piece-at-ne-TRAILER_BITS.false
    (sym c.in_default.ensures) (count_error _ _ _ _ _ c.count.ensures)
