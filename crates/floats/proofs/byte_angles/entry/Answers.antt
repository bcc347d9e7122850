-- `floats::byte_angles::entry` meets its contract: antt computes the list of 45 k for the 256 bytes and finds it to be the table's numbers,
-- so that the entry at k is 45 k. With one entry off by one the lists differ, and the proof is refused.
use Rattle.std.proofs.Common.{rules}
use Rattle.floats.specs.ByteAngles.{thirty_seconds}
use Rattle.floats.proofs.Table.{at_place}
use Rattle.floats.proofs.byte_angles.entry.Goals as goal

-- LEFT array-read-result : tie.Need-array-read-result
-- array-read-result c = search rules

pub returns : goal.returns
returns c = at_place thirty_seconds 256 c.args.k (search rules)
