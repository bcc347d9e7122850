-- `fastarray::decode_fast_array_delta` meets its contract: the tests come in the order of the refusals, and what is written is what was measured.
use Rattle.std.proofs.Common.{◌≡◌, Option, Some, None, Err, ok_or, refl, sym, ◌∙◌, arith}
use Rattle.std.proofs.lemmas.Result.{err_from_is_err_and}
use Rattle.fastarray.specs.declared.Delta.{Delta}
use Rattle.fastarray.specs.declared.Refusal.{Refusal}
use Rattle.fastarray.proofs.HeaderLaws.{measured_as}
use Rattle.fastarray.proofs.AnswerLaws.{answer_long, answer_length, answer_none, answer_short, answer_written}
use Rattle.fastarray.proofs.decode_fast_array_delta.Goals as goal

-- an error stands where nothing was measured
missing : (o : Option Delta) (e k : Refusal) → ok_or o e ≡ Err k → (o ≡ None) × (k ≡ e)
missing None e k h = (refl, cc)
missing (Some d) e k h = absurd cc

pub returns-then-bits-gt-LONGEST_WINDOW : goal.returns-then-bits-gt-LONGEST_WINDOW
returns-then-bits-gt-LONGEST_WINDOW c = answer_long _ _ c.if-bits-gt-LONGEST_WINDOW.true

pub returns-then-payload-size : goal.returns-then-payload-size
returns-then-payload-size c = answer_length _ _ c.if-bits-gt-LONGEST_WINDOW.false c.if-payload-size.true

pub returns-in_err-delta : goal.returns-in_err-delta
returns-in_err-delta c =
    let p = err_from_is_err_and c.from_residual.result c.from_residual.ensures.1 in
    let m = missing _ _ _ (sym c.ok_or.ensures.value ∙ c.in_err-delta.was) in
    rw (p.1, p.2, m.1) (answer_none _ _ c.if-bits-gt-LONGEST_WINDOW.false c.if-payload-size.false (sym c.measure.ensures ∙ m.0))

pub returns-then-not-has_room : goal.returns-then-not-has_room
returns-then-not-has_room c =
    let m = c.in_ok-delta.ensures.ok_part in
    rw c.need_of-need.ensures (answer_short _ _ c.if-bits-gt-LONGEST_WINDOW.false c.if-payload-size.false _ (sym c.measure.ensures ∙ m) (rw c.need_of-need.ensures at (sym c.has_room.ensures ∙ c.if-not-has_room.true)))

pub write_body-requires : goal.write_body-requires
write_body-requires c =
    let a = measured_as _ _ _ _ (sym c.measure.ensures ∙ c.in_ok-delta.ensures.ok_part) in
    omega (arith, a.fits.lists, a.deletes_are, a.changes_are)

pub returns : goal.returns
returns c =
    answer_written _ _ c.if-bits-gt-LONGEST_WINDOW.false c.if-payload-size.false _ (sym c.measure.ensures ∙ c.in_ok-delta.ensures.ok_part) _ _ _
    (rw c.need_of-need.ensures at (sym c.has_room.ensures ∙ c.if-not-has_room.false))
    c.write_body.ensures.ids
    c.write_body.ensures.stored
