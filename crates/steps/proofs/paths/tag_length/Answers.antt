-- Each tag has its length.
use Rattle.std.proofs.Common.{sym, ap, ◌∙◌}
use Rattle.steps.specs.Paths.{tag_length_lem}
use Rattle.steps.proofs.paths.tag_length.Goals as goal

pub returns-in-Label : goal.returns-in-Label
returns-in-Label c = c.label_length.ensures ∙ sym (ap (tag_length_lem c.args.handle) c.in-Label.is)

pub returns-in-Raw : goal.returns-in-Raw
returns-in-Raw c = sym (ap (tag_length_lem c.args.handle) c.in-Raw.is)
