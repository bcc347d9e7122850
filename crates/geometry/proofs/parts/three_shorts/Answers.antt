-- `geometry::parts::three_shorts` meets its contract: bits that are there are cut out of one field; else the single reads are the definition.
use Rattle.std.proofs.Common.{refl, arith}
use Rattle.geometry.proofs.RoomLaws.{room_there, shorts_there}
use Rattle.geometry.proofs.parts.three_shorts.Goals as goal

pub overflow_add-first : goal.overflow_add-first
overflow_add-first c = let d = room_there _ _ _ c.in-Ok.ensures in omega arith

pub field_at-all-requires : goal.field_at-all-requires
field_at-all-requires c = let d = room_there _ _ _ c.in-Ok.ensures in omega arith

pub returns : goal.returns
returns c =
    let d = room_there _ _ _ c.in-Ok.ensures in
    rw c.cut_apart-value.ensures (shorts_there _ _ d.0 d.1 refl d.3 c.field_at-all.ensures)
