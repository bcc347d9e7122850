-- `fastarray::store_record` meets its contract: each turn writes one number of the run.
use Rattle.std.proofs.Common.{◌≡◌}
use Rattle.std.proofs.Math.Seq.{paste}
use Rattle.fastarray.proofs.store.store_record.Given as goal

abbrev pub invariant-loop-j : goal.invariant-loop-j
invariant-loop-j g l = l.d ≡ paste l.initial.d l.start l.run l.j
