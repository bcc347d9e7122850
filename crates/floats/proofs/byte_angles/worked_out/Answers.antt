-- `floats::byte_angles::worked_out` meets its contract: of a byte, 45 times it fits a u32, so the product is the number that the table has there.
use Rattle.std.proofs.Common.{refl}
use Rattle.floats.proofs.byte_angles.worked_out.Goals as goal

pub returns : goal.returns
returns c = refl
