-- `geometry::movements::read_number` meets its contract: the flag says whether it is read.
use Rattle.std.proofs.Common.{rules}
use Rattle.geometry.specs.Parts.{and_then, unread}
use Rattle.geometry.specs.Movements.{flagged_at}
use Rattle.geometry.proofs.movements.read_number.Goals as goal

pub returns-then-not-there : goal.returns-then-not-there
unfolding flagged_at and_then unread
returns-then-not-there c = search rules

pub returns-in_err-n : goal.returns-in_err-n
unfolding flagged_at and_then unread
returns-in_err-n c = search rules

pub returns : goal.returns
unfolding flagged_at and_then unread
returns c = search rules
