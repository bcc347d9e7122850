-- `geometry::movements::read_rotation` meets its contract: by the cases of the width.
use Rattle.std.proofs.Common.{rules}
use Rattle.geometry.specs.Movements.{width_of}
use Rattle.geometry.proofs.movements.read_rotation.Goals as goal

pub returns-in-ByteComponents : goal.returns-in-ByteComponents
unfolding width_of
returns-in-ByteComponents c = search rules

pub returns-in-ShortComponents : goal.returns-in-ShortComponents
unfolding width_of
returns-in-ShortComponents c = search rules
