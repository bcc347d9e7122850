-- `fastarray::field_head` meets its contract: each number that is taken leads to its case, and has a byte to five inside the window.
use Rattle.std.proofs.Common.{sym, ◌∙◌, arith}
use Rattle.fastarray.proofs.ReadLaws.{taken_as, head_broken, head_closes, head_no_width, head_past, head_opens}
use Rattle.fastarray.proofs.fields.field_head.Goals as goal

pub returns-in_err-first : goal.returns-in_err-first
returns-in_err-first c = c.from_residual.ensures ∙ sym (head_broken _ _ _ _ (sym c.number_of.ensures ∙ c.in_err-first.was))

pub overflow_mul-behind : goal.overflow_mul-behind
overflow_mul-behind c = let t = taken_as _ _ _ _ (sym c.number_of.ensures ∙ c.in_ok-first.was) in omega (arith, t.within)

pub overflow_add-behind : goal.overflow_add-behind
overflow_add-behind c = let t = taken_as _ _ _ _ (sym c.number_of.ensures ∙ c.in_ok-first.was) in omega (arith, t.within)

pub padded_one-last-requires : goal.padded_one-last-requires
padded_one-last-requires c = let t = taken_as _ _ _ _ (sym c.number_of.ensures ∙ c.in_ok-first.was) in omega (arith, t.few_bytes)

pub returns-then-first-eq0 : goal.returns-then-first-eq0
returns-then-first-eq0 c =
    let t = taken_as _ _ _ _ (sym c.number_of.ensures ∙ c.in_ok-first.was) in
    sym (head_closes _ _ _ _ _ _ t _ c.if-first-eq0.true c.padded_one-last.ensures)

pub number_of-requires-2 : goal.number_of-requires-2
number_of-requires-2 c = let t = taken_as _ _ _ _ (sym c.number_of.ensures ∙ c.in_ok-first.was) in omega (arith, t.within)

pub returns-in_err-second : goal.returns-in_err-second
returns-in_err-second c =
    let t = taken_as _ _ _ _ (sym c.number_of.ensures ∙ c.in_ok-first.was) in
    c.from_residual-in_err-second.ensures ∙ sym (head_no_width _ _ _ _ _ _ t c.if-first-eq0.false (sym c.number_of-2.ensures ∙ c.in_err-second.was))

pub overflow_mul-offset : goal.overflow_mul-offset
overflow_mul-offset c = let u = taken_as _ _ _ _ (sym c.number_of-2.ensures ∙ c.in_ok-second.was) in omega (arith, u.within)

pub overflow_add-offset : goal.overflow_add-offset
overflow_add-offset c = let u = taken_as _ _ _ _ (sym c.number_of-2.ensures ∙ c.in_ok-second.was) in omega (arith, u.within)

pub overflow_sub-left : goal.overflow_sub-left
overflow_sub-left c = let u = taken_as _ _ _ _ (sym c.number_of-2.ensures ∙ c.in_ok-second.was) in omega (arith, u.within)

pub returns-then-left-width : goal.returns-then-left-width
returns-then-left-width c =
    let t = taken_as _ _ _ _ (sym c.number_of.ensures ∙ c.in_ok-first.was) in
    let u = taken_as _ _ _ _ (sym c.number_of-2.ensures ∙ c.in_ok-second.was) in
    sym (head_past _ _ _ _ _ _ t _ _ c.if-first-eq0.false u (omega (arith, u.within)))

pub padded_two-both-requires : goal.padded_two-both-requires
padded_two-both-requires c =
    let t = taken_as _ _ _ _ (sym c.number_of.ensures ∙ c.in_ok-first.was) in
    let u = taken_as _ _ _ _ (sym c.number_of-2.ensures ∙ c.in_ok-second.was) in
    omega (arith, t.some_bytes, t.few_bytes, t.within, u.some_bytes, u.few_bytes)

pub returns : goal.returns
returns c =
    let t = taken_as _ _ _ _ (sym c.number_of.ensures ∙ c.in_ok-first.was) in
    let u = taken_as _ _ _ _ (sym c.number_of-2.ensures ∙ c.in_ok-second.was) in
    sym (head_opens _ _ _ _ _ _ t _ _ c.if-first-eq0.false u _ (omega (arith, u.within)) c.padded_two-both.ensures)
