-- The entry that the span gives is the table's, and each entry says what the field is.
use Rattle.std.proofs.Common.{sym, ◌∙◌}
use Rattle.schema.proofs.SpanLaws.{entry_is}
use Rattle.steps.proofs.KindLaws.{kind_object, kind_leaf, kind_nothing, kind_deep, kind_array}
use Rattle.steps.proofs.kinds.kind_of.Goals as goal

pub returns-then-not-gives_leaves : goal.returns-then-not-gives_leaves
returns-then-not-gives_leaves c = kind_object _ _ _ _ _ _ (sym c.gives_leaves.ensures ∙ c.if-not-gives_leaves.true)

pub returns-then-width-eq0 : goal.returns-then-width-eq0
returns-then-width-eq0 c =
    let leafy = sym c.gives_leaves.ensures ∙ c.if-not-gives_leaves.false in
    kind_nothing _ _ _ _ _ _ leafy _ (c.entry_of-entry.ensures ∙ entry_is _ _ _ _ c.args.spot.now.tables.now.spans_are) _ c.in-Some.is c.if-width-eq0.true

pub returns-then-spot-eq0 : goal.returns-then-spot-eq0
returns-then-spot-eq0 c =
    let leafy = sym c.gives_leaves.ensures ∙ c.if-not-gives_leaves.false in
    kind_deep _ _ _ _ _ _ leafy _ (c.entry_of-entry.ensures ∙ entry_is _ _ _ _ c.args.spot.now.tables.now.spans_are) _ c.in-Some.is _ c.container_label_from-label.ensures c.if-width-eq0.false c.if-spot-eq0.true

pub returns-in-None : goal.returns-in-None
returns-in-None c =
    let leafy = sym c.gives_leaves.ensures ∙ c.if-not-gives_leaves.false in
    kind_leaf _ _ _ _ _ _ leafy _ (c.entry_of-entry.ensures ∙ entry_is _ _ _ _ c.args.spot.now.tables.now.spans_are) _ c.in-None.is c.leaf_label_from-label.ensures

pub returns-else-spot-eq0 : goal.returns-else-spot-eq0
returns-else-spot-eq0 c =
    let leafy = sym c.gives_leaves.ensures ∙ c.if-not-gives_leaves.false in
    kind_array _ _ _ _ _ _ leafy _ (c.entry_of-entry.ensures ∙ entry_is _ _ _ _ c.args.spot.now.tables.now.spans_are) _ c.in-Some.is _ c.container_label_from-label.ensures c.if-width-eq0.false c.if-spot-eq0.false
