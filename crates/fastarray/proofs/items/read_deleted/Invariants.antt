-- `fastarray::read_deleted` meets its contract: each turn stores one id, and what is left is the rest of the list.
use Rattle.fastarray.specs.Body.{window}
use Rattle.fastarray.proofs.ItemLaws.{Deleting}
use Rattle.fastarray.proofs.items.read_deleted.Given as goal

abbrev pub invariant-loop-done : goal.invariant-loop-done
invariant-loop-done l = Deleting (window l.w.bytes.now l.w.end) l.at l.count l.initial.deleted l.deleted l.done
