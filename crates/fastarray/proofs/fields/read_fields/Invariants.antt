-- `fastarray::read_fields` meets its contract: each turn reads one field, and what is left to read is the rest of the stream.
use Prim.Native.Nat.{◌-◌}
use Rattle.fastarray.specs.Body.{window}
use Rattle.fastarray.proofs.FieldLaws.{Reading}
use Rattle.fastarray.proofs.fields.read_fields.Given as goal

abbrev pub invariant-loop-head : goal.invariant-loop-head
invariant-loop-head l = Reading (window l.w.bytes.now l.w.end) l.w.end l.fn.from.next l.fn.from.fields l.fn.from.padded l.initial.fields l.fields l.reached.next l.reached.fields l.reached.padded

abbrev pub decreases-loop-head : goal.decreases-loop-head
decreases-loop-head l = l.w.end - l.reached.next
