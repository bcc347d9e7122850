-- `geometry::movements::read_flags` meets its contract: four bits that are there are one field; else the single reads are the definition.
use Rattle.std.proofs.Common.{refl, arith}
use Rattle.geometry.proofs.RoomLaws.{room_there, flags_there}
use Rattle.geometry.proofs.movements.read_flags.Goals as goal

pub overflow_add-first : goal.overflow_add-first
overflow_add-first c = let d = room_there _ _ _ c.in-Ok.ensures in omega arith

pub field_at-four-requires : goal.field_at-four-requires
field_at-four-requires c = let d = room_there _ _ _ c.in-Ok.ensures in omega arith

pub returns : goal.returns
returns c =
    let d = room_there _ _ _ c.in-Ok.ensures in
    flags_there _ _ d.0 d.1 refl d.3 c.field_at-four.ensures
