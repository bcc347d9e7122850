-- The cycle walk_level, walk_fields, walk_field meets its contracts: each turn of a loop keeps that the rest of the walk from here, on the world as it
-- is, comes to what the whole walk comes to from the world at entry (CycleLaws). Levels left and window bits fall at every call.
use Prim.Native.Nat.{ℕ}
use native.Mathlib.Omega.{arith}
use borrow.Author.Rules.{rules}
use borrow.Enum.Refused.{opened}
use mathlib.Core.Path.{refl, sym, ap, ◌∙◌}
use mathlib.Core.Bool.{true}
use mathlib.Core.List.{List, [], ◌∷◌}
use lib.ListN.{take}
use Rattle.schema.specs.Labels.{dot}
use Rattle.framing.specs.Events.{element, Trace}
use Rattle.steps.specs.Tally.{played}
use Rattle.steps.specs.Steps.{world_in}
use Rattle.steps.proofs.CaseLaws.{not_go, not_closed, not_array}
use Rattle.steps.proofs.LentLaws.{lent_same, lent_counted, lent_then}
use Rattle.steps.proofs.WalkLaws.{level_head_in, element_head_in, field_head_in, level_next, element_next, field_next}
use Rattle.steps.proofs.FieldKindLaws.{pool_bytes, pool_lies, kind_pools, flat_pools, array_below}
use Rattle.cycle.proofs.CycleLaws.{kind_ready, fields_turn, fields_shut, fields_end, prefix, level_end, level_begin, level_whole, elements_end, elements_turn, elements_open, field_put, field_walked}
use Rattle.cycle.proofs.+walk_field_walk_fields_walk_level.Goals as goal

pub walk_field-put_field-requires : goal.walk_field-put_field-requires
walk_field-put_field-requires t c =
    let s = c.args.spot.now.tables.now in
    let ready = c.requires in
    (ready.lies, omega (arith, ready.path), kind_pools s.rows.now s.pools.names.now s.declared.now s.pools.declared_names.now c.kind_of-kind.result (kind_ready ready _ _ c.kind_of-kind.ensures))

pub walk_field-returns-in_default : goal.walk_field-returns-in_default
walk_field-returns-in_default t c =
    let s = c.args.spot.now.tables.now in
    let x = world_in c.args.out.now in
    record {
      walked =
          field_put _ _ _ _ _ _ c.requires.lies _ c.kind_of-kind.ensures (not_array c.kind_of-kind.result (opened c.in_default.in_default-own.keys2)) _ _
          (c.put_field.ensures.out ∙ ap (λ (u : Trace). played u x) (flat_pools s.rows.now s.pools.names.now s.declared.now s.pools.declared_names.now _ _ _ _ _ _)) c.put_field.ensures.kept;
      lent = c.put_field.ensures.lent;
    }

pub walk_field-grow_label-longer-requires : goal.walk_field-grow_label-longer-requires
walk_field-grow_label-longer-requires t c =
    let s = c.args.spot.now.tables.now in
    let ready = c.requires in
    (omega (arith, ready.path), pool_lies s.rows.now s.pools.names.now s.declared.now s.pools.declared_names.now _ (kind_ready ready _ _ (sym c.in-Array.is ∙ c.kind_of-kind.ensures)))

pub walk_field-overflow_sub-under : goal.walk_field-overflow_sub-under
walk_field-overflow_sub-under t c =
    omega (arith, array_below _ _ _ _ _ _ _ _ (sym c.in-Array.is ∙ c.kind_of-kind.ensures))

pub walk_field-walk_level-requires : goal.walk_field-walk_level-requires
walk_field-walk_level-requires t c =
    let n = array_below _ _ _ _ _ _ _ _ (sym c.in-Array.is ∙ c.kind_of-kind.ensures) in
    (omega (arith, c.decreases), record { lies = omega arith; path = omega (arith, c.requires.path, c.grow_label-longer.ensures.within); labels = c.requires.labels })

pub walk_field-returns-clause-walked : goal.walk_field-returns-clause-walked
walk_field-returns-clause-walked t c =
    let a = c.args in
    let s = a.spot.now.tables.now in
    let bytes = pool_bytes s.rows.now s.pools.names.now s.declared.now s.pools.declared_names.now a.handle c.in-Array.label in
    let path = take a.plen a.out.now.path.now in
    field_walked _ _ _ _ _ _ c.requires.lies _ _ (sym c.in-Array.is ∙ c.kind_of-kind.ensures) _ _ _ _ _ _
    (c.grow_label-longer.ensures.is ∙ ap (λ (l : List ℕ). dot path l) bytes) c.walk_level.ensures.walked refl
    (c.touched.ensures.same _)
    (prefix _ _ _ _ c.grow_label-longer.ensures.more c.walk_level.ensures.walked.kept ∙ c.grow_label-longer.ensures.kept)

pub walk_fields-returns-in-Closed-clause-walked : goal.walk_fields-returns-in-Closed-clause-walked
walk_fields-returns-in-Closed-clause-walked t c =
    let loop = c.loop-n in
    let o = loop.out in
    fields_shut _ _ _ _ _ _ _ _ _ c.requires.lies loop.invariant.0 _
    (c.field_head-h.ensures.pads o.records.now o.paths.now o.payloads.now)
    (sym c.field_head-h.ensures.says ∙ c.in-Closed.is)

pub walk_fields-stop_fields-requires : goal.walk_fields-stop_fields-requires
walk_fields-stop_fields-requires t c =
    (field_head_in _ _ _ _ _ (sym c.field_head-h.ensures.says), omega (arith, c.requires.path))

pub walk_fields-returns-in_default-h : goal.walk_fields-returns-in_default-h
walk_fields-returns-in_default-h t c =
    let h = c.field_head-h.result in
    let loop = c.loop-n in
    let o = loop.out in
    record {
      walked =
          fields_end _ _ _ _ _ _ _ _ _ c.requires.lies loop.invariant.0 _
          (c.field_head-h.ensures.pads o.records.now o.paths.now o.payloads.now) h (sym c.field_head-h.ensures.says)
          (not_go h (opened c.in_default-h.in_default-h-own.keys2)) (not_closed h (opened c.in_default.in_default-own.keys2)) _ _ (λ inside. (c.stop_fields.ensures inside).out) (c.stop_fields.ensures true).kept;
      lent = lent_then _ _ _ loop.invariant.1 (lent_then _ _ _ (lent_counted o _) (c.stop_fields.ensures true).lent);
    }

pub walk_fields-invariant_of-field : goal.walk_fields-invariant_of-field
walk_fields-invariant_of-field t c =
    let n = field_next _ _ _ _ (sym c.field_head-h.ensures.says ∙ c.in-Go.is) in
    let p = c.args.piece.now in
    record { in_bytes = omega (arith, n.3, p.in_bytes); in_root = omega (arith, n.3, p.in_root) }

pub walk_fields-walk_field-requires : goal.walk_fields-walk_field-requires
walk_fields-walk_field-requires t c =
    let n = field_next _ _ _ _ (sym c.field_head-h.ensures.says ∙ c.in-Go.is) in
    let z = c.loop-n.invariant.0.later in
    (omega (arith, c.decreases), record { lies = n.2; path = c.requires.path; labels = c.requires.labels })

pub walk_fields-still_first-first-requires : goal.walk_fields-still_first-first-requires
walk_fields-still_first-first-requires t c =
    (field_next _ _ _ _ (sym c.field_head-h.ensures.says ∙ c.in-Go.is)).2

pub walk_fields-overflow_sub-left : goal.walk_fields-overflow_sub-left
walk_fields-overflow_sub-left t c =
    let n = field_next _ _ _ _ (sym c.field_head-h.ensures.says ∙ c.in-Go.is) in
    omega arith

pub walk_fields-loop-n-smaller : goal.walk_fields-loop-n-smaller
walk_fields-loop-n-smaller t c =
    let n = field_next _ _ _ _ (sym c.field_head-h.ensures.says ∙ c.in-Go.is) in
    omega arith

pub walk_fields-loop-n-preserved : goal.walk_fields-loop-n-preserved
walk_fields-loop-n-preserved t c =
    let loop = c.loop-n in
    let o = loop.out in
    let inv = loop.invariant in (
      fields_turn _ _ _ _ _ _ _ _ _ c.requires.lies inv.0 _
          (c.field_head-h.ensures.pads o.records.now o.paths.now o.payloads.now) (sym c.field_head-h.ensures.says ∙ c.in-Go.is) _ _ _
          c.walk_field.ensures.walked c.still_first-first.ensures,
      lent_then _ _ _ inv.1 (lent_then _ _ _ (lent_counted o _) c.walk_field.ensures.lent),
    )

pub walk_level-stop_level-requires : goal.walk_level-stop_level-requires
walk_level-stop_level-requires t c =
    (level_head_in _ _ _ _ (sym c.level_head-o.ensures.says), omega (arith, c.requires.path))

pub walk_level-returns-in_default : goal.walk_level-returns-in_default
walk_level-returns-in_default t c =
    let h = c.level_head-o.result in
    let o = c.args.out.now in
    record {
      walked =
          level_end _ _ _ c.requires.lies h (sym c.level_head-o.ensures.says) (not_go h (opened c.in_default.in_default-own.keys2)) _ _ _
          (c.level_head-o.ensures.pads o.records.now o.paths.now o.payloads.now) _
          c.stop_level.ensures.out c.stop_level.ensures.kept;
      lent = lent_then _ _ _ (lent_counted o _) c.stop_level.ensures.lent;
    }

pub walk_level-loop-index-init : goal.walk_level-loop-index-init
walk_level-loop-index-init t c =
    (level_begin _ _ _ c.requires.lies (sym c.level_head-o.ensures.says ∙ c.in-Go.is) _, lent_same _)

pub walk_level-stop_level-requires-in_default-h : goal.walk_level-stop_level-requires-in_default-h
walk_level-stop_level-requires-in_default-h t c =
    (element_head_in _ _ _ _ _ _ (sym c.element_head-h.ensures.says), omega (arith, c.requires.path))

pub walk_level-returns-in_default-h : goal.walk_level-returns-in_default-h
walk_level-returns-in_default-h t c =
    let h = c.element_head-h.result in
    let loop = c.loop-index in
    let a = c.args.out.now in
    let o = loop.out in
    record {
      walked =
          level_whole _ _ _ c.requires.lies (sym c.level_head-o.ensures.says ∙ c.in-Go.is) _ _
          (c.level_head-o.ensures.pads a.records.now a.paths.now a.payloads.now) _ _
          (elements_end _ _ _ c.requires.lies _ _ _ _ _ _ _ loop.invariant.0 h (sym c.element_head-h.ensures.says)
          (not_go h (opened c.in_default-h.in_default-h-own.keys2)) _ _
          (c.element_head-h.ensures.pads o.records.now o.paths.now o.payloads.now) _ c.stop_level-in_default-h.ensures.out c.stop_level-in_default-h.ensures.kept);
      lent = lent_then _ _ _ (lent_counted a _) (lent_then _ _ _ loop.invariant.1 (lent_then _ _ _ (lent_counted o _) c.stop_level-in_default-h.ensures.lent));
    }

pub walk_level-enter-longer-requires : goal.walk_level-enter-longer-requires
walk_level-enter-longer-requires t c =
    let few = (level_next _ _ _ (sym c.level_head-o.ensures.says ∙ c.in-Go.is)).2 in
    let low = (element_next _ _ _ _ _ (sym c.element_head-h.ensures.says ∙ c.in-Go-h.is)).3 in
    (omega (arith, few, low), omega (arith, c.requires.path))

pub walk_level-walk_fields-w-requires : goal.walk_level-walk_fields-w-requires
walk_level-walk_fields-w-requires t c =
    let n = element_next _ _ _ _ _ (sym c.element_head-h.ensures.says ∙ c.in-Go-h.is) in
    let z = c.loop-index.invariant.0.later in
    (omega (arith, c.decreases), record { lies = n.2; path = omega (arith, c.requires.path, c.enter-longer.ensures.grew.within); labels = c.requires.labels })

pub walk_level-returns-in_default-w-clause-walked : goal.walk_level-returns-in_default-w-clause-walked
walk_level-returns-in_default-w-clause-walked t c =
    let loop = c.loop-index in
    let a = c.args.out.now in
    let o = loop.out in
    level_whole _ _ _ c.requires.lies (sym c.level_head-o.ensures.says ∙ c.in-Go.is) _ _
    (c.level_head-o.ensures.pads a.records.now a.paths.now a.payloads.now) _ _
    (elements_open _ _ _ c.requires.lies _ _ _ _ _ _ _ loop.invariant.0 _ _ _ (sym c.element_head-h.ensures.says ∙ c.in-Go-h.is)
    _ _ _ _ (λ p. c.enter-longer.ensures.counts p o.records.now o.paths.now o.payloads.now ∙ ap (played (element p ∷ [])) (c.element_head-h.ensures.pads o.records.now o.paths.now o.payloads.now)) c.enter-longer.ensures.grew.is _ _ c.walk_fields-w.ensures.walked
    (prefix _ _ _ _ c.enter-longer.ensures.grew.more c.walk_fields-w.ensures.walked.kept ∙ c.enter-longer.ensures.grew.kept) c.in_default-w.is)

pub walk_level-overflow_sub-left : goal.walk_level-overflow_sub-left
walk_level-overflow_sub-left t c =
    let n = element_next _ _ _ _ _ (sym c.element_head-h.ensures.says ∙ c.in-Go-h.is) in
    omega arith

pub walk_level-loop-index-smaller : goal.walk_level-loop-index-smaller
walk_level-loop-index-smaller t c =
    let n = element_next _ _ _ _ _ (sym c.element_head-h.ensures.says ∙ c.in-Go-h.is) in
    omega arith

pub walk_level-loop-index-preserved : goal.walk_level-loop-index-preserved
walk_level-loop-index-preserved t c =
    let loop = c.loop-index in
    let o = loop.out in (
      elements_turn _ _ _ c.requires.lies _ _ _ _ _ _ _ loop.invariant.0 _ _ _ (sym c.element_head-h.ensures.says ∙ c.in-Go-h.is)
          _ _ _ _ (λ p. c.enter-longer.ensures.counts p o.records.now o.paths.now o.payloads.now ∙ ap (played (element p ∷ [])) (c.element_head-h.ensures.pads o.records.now o.paths.now o.payloads.now)) c.enter-longer.ensures.grew.is _ _ c.walk_fields-w.ensures.walked
          (prefix _ _ _ _ c.enter-longer.ensures.grew.more c.walk_fields-w.ensures.walked.kept ∙ c.enter-longer.ensures.grew.kept) _ c.in-Some.is,
      lent_then _ _ _ loop.invariant.1 (search rules),
    )
