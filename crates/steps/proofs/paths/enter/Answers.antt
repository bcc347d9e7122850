-- An element is counted, and its index written behind the path, which has room for it.
use Rattle.std.proofs.Common.{[], ◌∷◌, ◌++◌, sym, ◌∙◌, arith}
use Rattle.schema.specs.Labels.{at_index, decimal}
use Rattle.steps.proofs.PathLaws.{grew_by, entered_object, entered_leafy, index_length, index_short}
use Rattle.steps.proofs.paths.enter.Goals as goal

pub returns-then-not-gives_leaves : goal.returns-then-not-gives_leaves
returns-then-not-gives_leaves c =
    entered_object c.args.walk _ _ _ _ _ c.count.ensures (sym c.gives_leaves.ensures ∙ c.if-not-gives_leaves.true)

pub write_index-requires : goal.write_index-requires
write_index-requires c =
    let h = index_short c.args.index c.requires.0 in
    (c.decimal_length-k.ensures, omega (arith, c.requires.1, c.decimal_length-k.ensures, h))

pub overflow_add-result : goal.overflow_add-result
overflow_add-result c =
    omega (arith, c.requires.1, c.decimal_length-k.ensures, index_short c.args.index c.requires.0)

pub overflow_add-result-2 : goal.overflow_add-result-2
overflow_add-result-2 c =
    omega (arith, c.requires.1, c.decimal_length-k.ensures, index_short c.args.index c.requires.0)

pub returns : goal.returns
unfolding at_index
returns c =
    let i = c.args.index in
    let h = index_short i c.requires.0 in
    entered_leafy c.args.walk _ _ _ _ _ c.count.ensures _ _ (sym c.gives_leaves.ensures ∙ c.if-not-gives_leaves.false)
    (grew_by _ _ (91 ∷ decimal i ++ (93 ∷ [])) _ _ _ (omega (arith, c.requires.1, c.write_index.ensures.sized)) (omega (arith, c.decimal_length-k.ensures, index_length i)) (omega (arith, index_length i, h)) c.write_index.ensures.out)
