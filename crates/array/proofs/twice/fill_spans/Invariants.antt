-- The spans after the rows that are left are those of all rows.
use mathlib.Core.Path.{◌≡◌}
use Prim.Native.Nat.{◌-◌}
use Rattle.schema.specs.Tables.{row_count}
use Rattle.schema.specs.Spans.{spans_from, spans_of}
use Rattle.array.proofs.twice.fill_spans.Given as goal

abbrev pub invariant-loop-i : goal.invariant-loop-i
invariant-loop-i l = spans_from (row_count l.rows - l.i) l.rows l.spans l.i ≡ spans_of l.rows
