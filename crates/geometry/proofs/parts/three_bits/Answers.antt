-- `geometry::parts::three_bits` meets its contract: bits that are there are read as fields of the bytes; else the single reads are the definition.
use Rattle.std.proofs.Common.{refl, arith}
use Rattle.geometry.proofs.RoomLaws.{room_there, three_there}
use Rattle.geometry.proofs.parts.three_bits.Goals as goal

pub overflow_add-first : goal.overflow_add-first
overflow_add-first c = let d = room_there _ _ _ c.in-Ok.ensures in omega arith

pub overflow_add-second : goal.overflow_add-second
overflow_add-second c = let d = room_there _ _ _ c.in-Ok.ensures in omega arith

pub overflow_add-third : goal.overflow_add-third
overflow_add-third c = let d = room_there _ _ _ c.in-Ok.ensures in omega arith

pub field_of-x-requires : goal.field_of-x-requires
field_of-x-requires c = let d = room_there _ _ _ c.in-Ok.ensures in omega arith

pub field_of-y-requires : goal.field_of-y-requires
field_of-y-requires c = let d = room_there _ _ _ c.in-Ok.ensures in omega arith

pub field_of-z-requires : goal.field_of-z-requires
field_of-z-requires c = let d = room_there _ _ _ c.in-Ok.ensures in omega arith

pub returns : goal.returns
returns c =
    let d = room_there _ _ _ c.in-Ok.ensures in
    three_there _ _ d.0 _ (omega arith) d.1 refl d.3 c.field_of-x.ensures c.field_of-y.ensures c.field_of-z.ensures
