-- `geometry::read_rep_movement` meets its contract: a window that is opened holds the record.
use Rattle.std.proofs.Common.{rules}
use Rattle.geometry.specs.Parts.{and_then, unread}
use Rattle.geometry.proofs.read_rep_movement.Goals as goal

pub returns-in_err-c : goal.returns-in_err-c
unfolding and_then unread
returns-in_err-c c = search rules

pub returns : goal.returns
unfolding and_then unread
returns c = search rules
