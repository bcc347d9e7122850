-- `steps::take_number` meets its contract: a padded number is one more, another is none.
use Rattle.std.proofs.Common.{ap}
use Rattle.bits.specs.Padded.{once}
use Rattle.steps.proofs.TallyLaws.{pads_none, pads_one}
use Rattle.steps.proofs.heads.take_number.Goals as goal

pub returns-then-padded : goal.returns-then-padded
returns-then-padded c = pads_one _ _ _ (ap once c.if-padded.true) c.count.ensures

pub returns-else-padded : goal.returns-else-padded
returns-else-padded c = pads_none _ _ (ap once c.if-padded.false)
