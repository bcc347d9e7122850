-- `schema::level_spans` meets its contract: the spans after the rows that are left are those of all rows.
use mathlib.Core.Path.{ap, ◌∙◌}
use Rattle.schema.specs.Spans.{span_place}
use Rattle.schema.proofs.SpanLaws.{spans_begin, spans_step, spans_end}
use Rattle.schema.proofs.spans.level_spans.Goals as goal

pub loop-i-init : goal.loop-i-init
loop-i-init c = spans_begin _

pub loop-i-preserved : goal.loop-i-preserved
loop-i-preserved c =
    spans_step _ _ _ _ _ _ c.loop-i-test.true (c.place_of-at.ensures.0 ∙ ap span_place c.cell_at.ensures) c.with_row.ensures ∙ c.loop-i.invariant

pub returns : goal.returns
returns c = spans_end _ _ _ _ c.loop-i-test.false c.loop-i.invariant
