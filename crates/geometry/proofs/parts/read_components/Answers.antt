-- `geometry::parts::read_components` meets its contract: the test is the definition's.
use Rattle.geometry.proofs.PartLaws.{one_read, three_reads}
use Rattle.geometry.proofs.parts.read_components.Goals as goal

pub returns-then-w-le64 : goal.returns-then-w-le64
returns-then-w-le64 c = one_read _ _ _ c.if-w-le64.true c.read_together.ensures

pub returns : goal.returns
returns c = three_reads _ _ _ c.if-w-le64.false c.three_bits.ensures
