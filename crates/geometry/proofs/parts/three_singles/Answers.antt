-- `geometry::parts::three_singles` meets its contract: bits that are there are read as fields of the bytes; else the single reads are the definition.
use Rattle.std.proofs.Common.{refl, arith}
use Rattle.geometry.proofs.RoomLaws.{room_there, singles_there}
use Rattle.geometry.proofs.parts.three_singles.Goals as goal

pub overflow_add-first : goal.overflow_add-first
overflow_add-first c = let d = room_there _ _ _ c.in-Ok.ensures in omega arith

pub word_at-two-requires : goal.word_at-two-requires
word_at-two-requires c = let d = room_there _ _ _ c.in-Ok.ensures in omega arith

pub overflow_add-third : goal.overflow_add-third
overflow_add-third c = let d = room_there _ _ _ c.in-Ok.ensures in omega arith

pub field_at-z-requires : goal.field_at-z-requires
field_at-z-requires c = let d = room_there _ _ _ c.in-Ok.ensures in omega arith

pub returns : goal.returns
returns c =
    let d = room_there _ _ _ c.in-Ok.ensures in
    singles_there _ _ d.0 d.1 refl d.3 c.word_at-two.ensures c.field_at-z.ensures
