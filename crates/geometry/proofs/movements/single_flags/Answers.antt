-- `geometry::movements::single_flags` meets its contract: the bits are read as the definition says, one after another.
use Rattle.std.proofs.Common.{rules}
use Rattle.geometry.specs.Parts.{and_then, unread}
use Rattle.geometry.specs.Movements.{flags_at}
use Rattle.geometry.proofs.movements.single_flags.Goals as goal

pub returns-in_err-sleep : goal.returns-in_err-sleep
unfolding flags_at and_then unread
returns-in_err-sleep c = search rules

pub returns-in_err-physics : goal.returns-in_err-physics
unfolding flags_at and_then unread
returns-in_err-physics c = search rules

pub returns-in_err-frame : goal.returns-in_err-frame
unfolding flags_at and_then unread
returns-in_err-frame c = search rules

pub returns-in_err-handle : goal.returns-in_err-handle
unfolding flags_at and_then unread
returns-in_err-handle c = search rules

pub returns : goal.returns
unfolding flags_at and_then unread
returns c = search rules
