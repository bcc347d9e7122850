-- `geometry::parts::read_together` meets its contract: skipping the bits tells what the read does, and the three numbers are the fields of the one.
use Rattle.std.proofs.Common.{◌*◌, sym, refl, arith, rules}
use Rattle.geometry.specs.Parts.{and_then, together}
use Rattle.geometry.proofs.RoomLaws.{room_there, bits_there, read_refused}
use Rattle.geometry.proofs.parts.read_together.Goals as goal

pub overflow_add-first : goal.overflow_add-first
unfolding together and_then
overflow_add-first c = let d = room_there _ _ _ c.in_ok-next.ensures in omega arith

pub field_of-all-requires : goal.field_of-all-requires
unfolding together and_then
field_of-all-requires c = let d = room_there _ _ _ c.in_ok-next.ensures in omega arith

pub returns : goal.returns
unfolding together and_then
returns c =
    let d = room_there _ _ _ c.in_ok-next.ensures in
    let read = sym (bits_there _ _ d.0 _ _ _ (omega arith) d.1 refl d.3 c.field_of-all.ensures) in
    rw (read, c.cut_apart-value.ensures) refl

pub returns-in_err-next : goal.returns-in_err-next
unfolding together and_then
returns-in_err-next c =
    let read = sym (read_refused _ _ (3 * c.args.w) (omega arith) c.in_err-next.ensures) in
    rw read (search rules)
