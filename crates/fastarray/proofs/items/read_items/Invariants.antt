-- `fastarray::read_items` meets its contract: each turn reads one item, and what is left to read is the rest of the items.
use Rattle.fastarray.specs.Body.{window, flag_bits_lem}
use Rattle.fastarray.proofs.ItemLaws.{Walking}
use Rattle.fastarray.proofs.items.read_items.Given as goal

abbrev pub invariant-loop-done : goal.invariant-loop-done
invariant-loop-done l =
    Walking (window l.w.bytes.now l.w.end) l.w.end l.at l.count (flag_bits_lem l.fn.mode) l.initial.items l.initial.fields l.items l.fields l.reached.next l.done l.reached.fields l.reached.padded
