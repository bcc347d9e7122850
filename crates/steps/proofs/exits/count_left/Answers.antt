-- `steps::count_left` meets its contract: the test picks the counter that the event counts.
use Rattle.steps.proofs.TallyLaws.{count_nested, count_root}
use Rattle.steps.proofs.ExitLaws.{left_inside, left_outside}
use Rattle.steps.proofs.exits.count_left.Goals as goal

pub returns-then-inside : goal.returns-then-inside
returns-then-inside c = λ records paths payloads.
    left_inside _ _ c.args.n c.args.inside c.if-inside.true
    (count_nested _ _ _ _ _ _ c.count.ensures)

pub returns-else-inside : goal.returns-else-inside
returns-else-inside c = λ records paths payloads.
    left_outside _ _ c.args.n c.args.inside c.if-inside.false
    (count_root _ _ _ _ _ _ c.count-else-inside.ensures)
