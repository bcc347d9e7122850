-- `schema::entry_in` meets its contract: what the rows from i on say, since the first that matches is the last that was seen.
use mathlib.Core.Path.{◌≡◌}
use mathlib.Core.List.{List}
use Prim.Native.Nat.{ℕ, ◌≤◌, min}
use Rattle.schema.specs.Spans.{entry_in_lem}
use Rattle.schema.specs.declared.Entry.{Entry}
use Rattle.schema.proofs.spans.entry_in.Given as goal

pub record Seen (rows : List ℕ) (first level handle end i : ℕ) (entry : Entry) : Type 0 where
  pub above : min first end ≤ i
  pub same : entry ≡ entry_in_lem rows (record { first = i; last = end }) level handle

abbrev pub invariant-loop-i : goal.invariant-loop-i
invariant-loop-i l = Seen l.rows l.fn.span.first l.level l.handle l.initial.i l.i l.entry
