-- Four stores are the run.
use Rattle.std.proofs.Common.{arith, length-set}
use Rattle.bits.proofs.RunLaws.{put_four}
use Rattle.steps.proofs.paths.write_raw.Goals as goal

pub bounds-whole-at-2 : goal.bounds-whole-at-2
bounds-whole-at-2 c = simp length-set (omega (arith, c.whole-1.given.0.1))

pub bounds-whole-at-3 : goal.bounds-whole-at-3
bounds-whole-at-3 c = simp length-set (omega (arith, c.whole-1.given.0.1))

pub bounds-whole-at-4 : goal.bounds-whole-at-4
bounds-whole-at-4 c = simp length-set (omega (arith, c.whole-1.given.0.1))

pub returns : goal.returns
returns c = record { out = put_four _ _ _ _ _ _ (omega (arith, c.whole-1.given.0.1)); sized = c.whole-1.given.0.1 }
