-- `geometry::parts::last_axes` meets its contract: axes that lie in the bits that are left are cut out of them; else the single reads are the definition.
use Rattle.std.proofs.Common.{refl, arith}
use Rattle.geometry.proofs.RoomLaws.{left_there, axes_left}
use Rattle.geometry.proofs.parts.last_axes.Goals as goal

pub overflow_add-first : goal.overflow_add-first
overflow_add-first c = let d = left_there _ _ c.in-Ok.ensures in omega arith

pub field_of-all-requires : goal.field_of-all-requires
field_of-all-requires c = let d = left_there _ _ c.in-Ok.ensures in omega (arith, c.min-n.ensures)

pub overflow_add-result : goal.overflow_add-result
overflow_add-result c = let d = left_there _ _ c.in-Ok.ensures in omega (arith, c.min-n.ensures, c.if-n-axes.false)

pub returns : goal.returns
returns c =
    let d = left_there _ _ c.in-Ok.ensures in
    axes_left _ _ d.0 _ _ _ _ c.requires (omega (arith, c.min-n.ensures)) refl c.field_of-all.ensures c.cut_axes-axes.ensures c.if-n-axes.false
