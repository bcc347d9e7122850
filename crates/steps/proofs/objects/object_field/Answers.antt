-- `steps::object_field` meets its contract: each case of the field has its event, and a number that was read was taken before.
use Rattle.std.proofs.Common.{sym, refl, arith}
use Rattle.steps.proofs.TallyLaws.{count_error, count_nested}
use Rattle.steps.proofs.ObjectLaws.{object_empty, object_later, object_failed, object_pair, object_longer}
use Rattle.steps.proofs.objects.object_field.Goals as goal

pub returns-then-from-end : goal.returns-then-from-end
returns-then-from-end c = λ base paths payloads. object_empty _ base _ _ c.args.index _ _ (omega arith) c.args.first c.if-from-end.true refl

pub returns-then-not-first : goal.returns-then-not-first
returns-then-not-first c = λ base paths payloads.
    object_later _ base _ _ c.args.index _ _ (omega arith) c.if-from-end.false c.args.first (c.if-not-first.true)
    (count_nested _ _ _ _ _ _ c.count.ensures)

pub returns-then-guid-end : goal.returns-then-guid-end
returns-then-guid-end c = λ base paths payloads.
    let e = sym c.in-Some.ensures in
    object_pair _ base _ _ c.args.index _ _ (omega arith) c.if-from-end.false c.args.first (c.if-not-first.false) _ _ e _
    c.if-guid-end.true (c.take_number.ensures c.args.records.now paths payloads) (c.put_pair.ensures paths payloads)

pub returns : goal.returns
returns c = λ base paths payloads.
    let e = sym c.in-Some.ensures in
    object_longer _ base _ _ c.args.index _ _ (omega arith) c.if-from-end.false c.args.first (c.if-not-first.false) _ _ e _
    c.if-guid-end.false (c.take_number.ensures c.args.records.now paths payloads)
    (count_error _ _ _ _ _ c.count-2.ensures)

pub returns-in_default : goal.returns-in_default
returns-in_default c = λ base paths payloads.
    object_failed _ base _ _ c.args.index _ _ (omega arith) c.if-from-end.false c.args.first (c.if-not-first.false)
    (sym c.in_default.ensures)
    (count_error _ _ _ _ _ c.count-in_default.ensures)
