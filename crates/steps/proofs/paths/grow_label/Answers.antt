-- A label is written behind the path, which has room for it.
use Rattle.std.proofs.Common.{◌∷◌, arith}
use Rattle.schema.specs.Labels.{dot, label_bytes}
use Rattle.schema.proofs.LaidLaws.{label_length, label_short}
use Rattle.steps.specs.Lent.{pools_of}
use Rattle.steps.proofs.PathLaws.{grew_by}
use Rattle.steps.proofs.paths.grow_label.Goals as goal

pub overflow_add-n-2 : goal.overflow_add-n-2
overflow_add-n-2 c =
    let a = c.args in
    omega (arith, c.label_length.ensures, label_short (pools_of a.pools.now) a.handle a.label c.requires.1)

pub write_tag-requires : goal.write_tag-requires
write_tag-requires c =
    let a = c.args in
    let h = label_short (pools_of a.pools.now) a.handle a.label c.requires.1 in
    (c.requires.1, omega (arith, c.requires.0, h))

pub returns : goal.returns
unfolding dot
returns c =
    let a = c.args in
    let t = pools_of a.pools.now in
    let l = label_length t a.handle a.label c.requires.1 in
    let h = label_short t a.handle a.label c.requires.1 in
    grew_by _ _ (46 ∷ label_bytes t a.handle a.label) _ _ _ (omega (arith, c.requires.0, c.write_tag.ensures.sized)) (omega (arith, l, c.label_length.ensures)) (omega (arith, l, h)) c.write_tag.ensures.out
