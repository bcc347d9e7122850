-- `fastarray::read_deleted` meets its contract: each turn stores one id, and what is left is the rest of the list.
use Rattle.std.proofs.Common.{◌≡◌, ◌*◌, arith}
use Rattle.fastarray.proofs.ReadLaws.{read_back}
use Rattle.fastarray.proofs.ItemLaws.{deleting_next, deleting_ends}
use Rattle.fastarray.proofs.items.read_deleted.Goals as goal

pub loop-done-preserved : goal.loop-done-preserved
loop-done-preserved c =
    let i : 1 * c.loop-done.done ≡ c.loop-done.done = omega arith in
    deleting_next _ _ _ _ _ _ _ _ (omega arith) c.loop-done.invariant (read_back _ _ _ c.signed_of-id.ensures) (rw i at c.store_record.ensures)

pub returns : goal.returns
returns c = deleting_ends _ _ _ _ _ _ (omega arith) c.loop-done.invariant
