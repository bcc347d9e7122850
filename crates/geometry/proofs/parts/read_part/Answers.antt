-- `geometry::parts::read_part` meets its contract: each kind of part has its read.
use Rattle.std.proofs.Common.{rules}
use Rattle.geometry.specs.Parts.{part_at}
use Rattle.geometry.proofs.parts.read_part.Goals as goal

pub returns-in-Bits : goal.returns-in-Bits
unfolding part_at
returns-in-Bits c = search rules

pub returns-in-Axis : goal.returns-in-Axis
unfolding part_at
returns-in-Axis c = search rules

pub returns-in-Integer : goal.returns-in-Integer
unfolding part_at
returns-in-Integer c = search rules
