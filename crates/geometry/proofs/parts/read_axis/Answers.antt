-- `geometry::parts::read_axis` meets its contract: the bit says whether more is read.
use Rattle.std.proofs.Common.{rules}
use Rattle.geometry.specs.Parts.{axis_after, and_then}
use Rattle.geometry.proofs.parts.read_axis.Goals as goal

pub returns-in_err-set : goal.returns-in_err-set
unfolding axis_after and_then
returns-in_err-set c = search rules

pub returns-then-set : goal.returns-then-set
unfolding axis_after and_then
returns-then-set c = search rules

pub returns : goal.returns
unfolding axis_after and_then
returns c = search rules
