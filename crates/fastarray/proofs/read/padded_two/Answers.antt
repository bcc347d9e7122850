-- `fastarray::padded_two` meets its contract: of a byte each none is padded, and else each is asked.
use Rattle.std.proofs.Common.{arith}
use Rattle.fastarray.proofs.ReadLaws.{none_of_two}
use Rattle.fastarray.proofs.read.padded_two.Goals as goal

pub returns-then-first-second-eq2 : goal.returns-then-first-second-eq2
returns-then-first-second-eq2 c = none_of_two _ _ _ _ _ (omega arith) (omega arith) c.if-first-second-eq2.true
