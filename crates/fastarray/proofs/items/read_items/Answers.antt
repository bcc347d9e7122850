-- `fastarray::read_items` meets its contract: each turn reads one item, and what is left to read is the rest of the items.
use Rattle.std.proofs.Common.{sym, ◌∙◌, refl, arith}
use Rattle.fastarray.proofs.ItemLaws.{read_within, walk_cut, walk_broken, walk_next, walk_ends}
use Rattle.fastarray.proofs.items.read_items.Goals as goal

pub returns-then-inside-reached-clause-says : goal.returns-then-inside-reached-clause-says
returns-then-inside-reached-clause-says c =
    (walk_cut _ _ _ _ _ _ _ _ _ _ _ _ _ c.loop-done.invariant c.loop-done-test.true (let v = c.loop-done.invariant in omega (arith, v.within)) c.loop-done.items c.loop-done.fields).0

pub returns-then-inside-reached-clause-stored : goal.returns-then-inside-reached-clause-stored
returns-then-inside-reached-clause-stored c =
    (walk_cut _ _ _ _ _ _ _ _ _ _ _ _ _ c.loop-done.invariant c.loop-done-test.true (let v = c.loop-done.invariant in omega (arith, v.within)) c.loop-done.items c.loop-done.fields).1

pub returns-in_err-read-clause-says : goal.returns-in_err-read-clause-says
returns-in_err-read-clause-says c =
    let v = c.loop-done.invariant in
    c.from_residual.ensures
    ∙ (walk_broken _ _ _ _ _ _ _ _ _ _ _ _ _ v c.loop-done-test.true (omega (arith, v.within)) _ c.flag_bits-lead.ensures (sym c.read_fields.ensures.says ∙ c.in_err-read.was) c.loop-done.items c.read_fields.new.fields).0

pub returns-in_err-read-clause-stored : goal.returns-in_err-read-clause-stored
returns-in_err-read-clause-stored c =
    let v = c.loop-done.invariant in
    (walk_broken _ _ _ _ _ _ _ _ _ _ _ _ _ v c.loop-done-test.true (omega (arith, v.within)) _ c.flag_bits-lead.ensures (sym c.read_fields.ensures.says ∙ c.in_err-read.was) c.loop-done.items c.read_fields.new.fields).1

pub overflow_sub-here : goal.overflow_sub-here
overflow_sub-here c =
    let v = c.loop-done.invariant in
    let k = read_within _ _ _ _ _ _ (omega (arith, v.slots)) (omega (arith, v.counts)) (sym c.read_fields.ensures.says ∙ c.in_ok-read.was) in omega arith

pub overflow_cast-here : goal.overflow_cast-here
overflow_cast-here c =
    let v = c.loop-done.invariant in
    let k = read_within _ _ _ _ _ _ (omega (arith, v.slots)) (omega (arith, v.counts)) (sym c.read_fields.ensures.says ∙ c.in_ok-read.was) in omega arith

pub loop-done-preserved : goal.loop-done-preserved
loop-done-preserved c =
    let v = c.loop-done.invariant in
    walk_next _ _ _ _ _ _ _ _ _ _ _ _ _ v c.loop-done-test.true (omega (arith, v.within)) _ c.flag_bits-lead.ensures _ _ _ _ _
    (sym c.read_fields.ensures.says ∙ c.in_ok-read.was) c.read_fields.ensures.stored c.word_of-id.ensures refl c.store_record.ensures

pub returns-clause-says : goal.returns-clause-says
returns-clause-says c = (walk_ends _ _ _ _ _ _ _ _ _ _ _ _ _ c.loop-done.invariant (omega arith)).0

pub returns-clause-stored : goal.returns-clause-stored
returns-clause-stored c = (walk_ends _ _ _ _ _ _ _ _ _ _ _ _ _ c.loop-done.invariant (omega arith)).1
