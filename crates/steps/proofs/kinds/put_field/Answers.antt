-- Each kind gives what it says.
use Rattle.std.proofs.Common.{refl, rules}
use Rattle.steps.specs.Lent.{pools_of}
use Rattle.steps.proofs.KindLaws.{flat_object, flat_nothing, flat_array, Labelled, labelled_leaf, labelled_deep, labelled_lies, flat_labelled}
use Rattle.steps.proofs.LentLaws.{lent_same}
use Rattle.steps.proofs.kinds.put_field.Goals as goal
use Rattle.steps.proofs.kinds.put_field.Goals.{in-Leaf, in-Deep}

pub returns-in-Object : goal.returns-in-Object
returns-in-Object c = record { out = flat_object _ _ _ _ _ _ _ _ _ c.in-Object.is (c.object_field.ensures _ _ _); kept = refl; lent = record { path = refl; records = refl; paths = refl; payloads = refl; records_held = search rules; paths_held = refl; payloads_held = refl } }

pub returns-in-Nothing : goal.returns-in-Nothing
returns-in-Nothing c = record { out = flat_nothing _ _ _ _ _ _ _ _ c.in-Nothing.is; kept = refl; lent = lent_same _ }

pub returns-in-Array : goal.returns-in-Array
returns-in-Array c = record { out = flat_array _ _ _ _ _ _ _ _ _ _ c.in-Array.is; kept = refl; lent = lent_same _ }

pub put_leaf-requires : goal.put_leaf-requires
put_leaf-requires c =
    let labelled : let a = c.args in
    Labelled a.kind a.out.now c.match-kind.out c.match-kind.label =
    elim c.match-kind.branch [
      | in-Leaf w ↦ labelled_leaf _ _ _ _ _ w.in-Leaf.is w.label-is w.out-is
      | in-Deep w ↦ labelled_deep _ _ _ _ _ _ w.in-Deep.is w.label-is w.count.ensures w.out-is
    ] in
    let a = c.args in
    let p = c.requires in
    (p.0, p.1, labelled_lies _ _ _ _ (pools_of a.pools.now) labelled p.2)

pub returns : goal.returns
returns c =
    let labelled : let a = c.args in
    Labelled a.kind a.out.now c.match-kind.out c.match-kind.label =
    elim c.match-kind.branch [
      | in-Leaf w ↦ labelled_leaf _ _ _ _ _ w.in-Leaf.is w.label-is w.out-is
      | in-Deep w ↦ labelled_deep _ _ _ _ _ _ w.in-Deep.is w.label-is w.count.ensures w.out-is
    ] in
    flat_labelled _ _ _ _ _ _ _ _ _ _ _ labelled c.put_leaf.ensures
