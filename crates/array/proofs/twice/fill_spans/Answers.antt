-- The spans after the rows that are left are those of all rows: a row widens the span of its level.
use Prim.Native.Nat.{ℕ, ◌+◌, ◌*◌, min}
use mathlib.Core.Path.{◌≡◌, ap, ◌∙◌}
use native.Mathlib.Omega.{arith}
use lib.ListN.{get_or}
use borrow.Author.Tests.{eq-eqb, ne_eqb}
use Rattle.schema.specs.Tables.{cell}
use Rattle.schema.specs.Spans.{span_place, with_row_lem, no_rows}
use Rattle.schema.specs.declared.Span.{Span}
use Rattle.schema.proofs.SpanLaws.{spans_begin, spans_step, spans_end}
use Rattle.array.proofs.twice.fill_spans.Goals as goal
use Rattle.array.proofs.twice.fill_spans.Goals.{then-spans-at-eq0, else-spans-at-eq0}

first_row : (s : Span) (i first : ℕ) → s.last ≡ 0 → first ≡ i → record { first = first; last = i + 1 } ≡ with_row_lem s i
unfolding with_row_lem
first_row s i first z e = rw (eq-eqb s.last 0 z) (ap (λ (f : ℕ). record { first = f; last = i + 1 }) e)

next_row : (s : Span) (i first : ℕ) → (s.last ≡ 0 → ⊥) → first ≡ s.first → record { first = first; last = i + 1 } ≡ with_row_lem s i
unfolding with_row_lem
next_row s i first n e = rw (ne_eqb s.last 0 n) (ap (λ (f : ℕ). record { first = f; last = i + 1 }) e)

pub loop-i-init : goal.loop-i-init
loop-i-init c = spans_begin _

pub loop-i-preserved : goal.loop-i-preserved
unfolding cell span_place
loop-i-preserved c =
    let rows = c.args.rows.now in
    let i = c.loop-i.i in
    let s = get_or c.loop-i.spans c.min-at.result no_rows in
    let e : 5 * i ≡ 5 * i + 0 = omega arith in
    let place : c.min-at.result ≡ span_place (cell rows i 0) = c.min-at.ensures ∙ ap (λ (j : ℕ). min (get_or rows j 0) 64) e in
    let row : record { first = c.if-spans-at-eq0.first; last = i + 1 } ≡ with_row_lem s i =
    elim c.if-spans-at-eq0.branch [ then-spans-at-eq0 w ↦ first_row s i _ w.if-spans-at-eq0.true w.first-is | else-spans-at-eq0 w ↦ next_row s i _ w.if-spans-at-eq0.false w.first-is ] in
    spans_step _ _ _ _ _ _ c.loop-i-test.true place row ∙ c.loop-i.invariant

pub returns : goal.returns
returns c = spans_end _ _ _ _ c.loop-i-test.false c.loop-i.invariant
