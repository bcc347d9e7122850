-- `geometry::parts::read_three` meets its contract: the parts are read as the definition says, one after another.
use Rattle.std.proofs.Common.{rules}
use Rattle.geometry.specs.Parts.{three_at, and_then}
use Rattle.geometry.proofs.parts.read_three.Goals as goal

pub returns-in_err-x : goal.returns-in_err-x
unfolding three_at and_then
returns-in_err-x c = search rules

pub returns-in_err-y : goal.returns-in_err-y
unfolding three_at and_then
returns-in_err-y c = search rules

pub returns-in_err-z : goal.returns-in_err-z
unfolding three_at and_then
returns-in_err-z c = search rules

pub returns : goal.returns
unfolding three_at and_then
returns c = search rules
