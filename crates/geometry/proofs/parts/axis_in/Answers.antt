-- `geometry::parts::axis_in` meets its contract: the bit times the number is the number, or 0, which is the field of no bits.
use Rattle.geometry.proofs.RoomLaws.{axis_number}
use Rattle.geometry.proofs.parts.axis_in.Goals as goal

pub returns : goal.returns
returns c = axis_number _ _ c.requires
