-- `geometry::read_rotation` meets its contract: of a width that is read the first axis's bit refuses a bad cursor; of any other the cursor is asked.
use Rattle.std.proofs.Common.{rules}
use Rattle.geometry.proofs.VectorLaws.{halted}
use Rattle.geometry.proofs.RotationLaws.{width_8, width_16, width_other}
use Rattle.geometry.proofs.read_rotation.Goals as goal

pub returns-then-width-eq8 : goal.returns-then-width-eq8
returns-then-width-eq8 c = width_8 _ _ _ c.if-width-eq8.true c.read.ensures

pub returns-then-width-eq16 : goal.returns-then-width-eq16
returns-then-width-eq16 c = width_16 _ _ _ c.if-width-eq8.false c.if-width-eq16.true c.read-then-width-eq16.ensures

pub returns-in_err-position : goal.returns-in_err-position
returns-in_err-position c = halted _ c.in_err-position.ensures (search rules)

pub returns : goal.returns
returns c = width_other _ _ _ c.if-width-eq8.false c.if-width-eq16.false c.in_ok-position.ensures
