-- `geometry::movements::read_extras` meets its contract: the parts are read as the definition says, one after another.
use Rattle.std.proofs.Common.{rules}
use Rattle.geometry.specs.Parts.{and_then}
use Rattle.geometry.specs.Movements.{extras_at}
use Rattle.geometry.proofs.movements.read_extras.Goals as goal

pub returns-in_err-spin : goal.returns-in_err-spin
unfolding extras_at and_then
returns-in_err-spin c = search rules

pub returns-in_err-frame : goal.returns-in_err-frame
unfolding extras_at and_then
returns-in_err-frame c = search rules

pub returns-in_err-handle : goal.returns-in_err-handle
unfolding extras_at and_then
returns-in_err-handle c = search rules

pub returns : goal.returns
unfolding extras_at and_then
returns c = search rules
