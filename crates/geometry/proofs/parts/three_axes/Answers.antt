-- `geometry::parts::three_axes` meets its contract: a word from the first bit's byte on, less the bits before it, holds three axes whatever their bits say.
use Rattle.std.proofs.Common.{refl, arith}
use Rattle.bits.proofs.WordLaws.{low_word}
use Rattle.geometry.proofs.RoomLaws.{room_there, axes_there, axes_few}
use Rattle.geometry.proofs.parts.three_axes.Goals as goal

pub overflow_add-first : goal.overflow_add-first
overflow_add-first c = let d = room_there _ _ _ c.in-Ok.ensures in omega arith

pub load-word-requires : goal.load-word-requires
load-word-requires c = let d = room_there _ _ _ c.in-Ok.ensures in omega arith

pub cut_axes-requires : goal.cut_axes-requires
cut_axes-requires c = let d = room_there _ _ _ c.in-Ok.ensures in omega arith

pub returns : goal.returns
returns c =
    let d = room_there _ _ _ c.in-Ok.ensures in
    rw c.cut_axes.ensures
    (axes_there _ _ d.0 _ _ _ _ _ (omega (arith, c.requires)) d.1 (omega (arith, c.requires)) refl (low_word _ _ _ _ (omega arith) (omega arith) _ c.load-word.ensures) (axes_few _ _))
