-- `schema::entry_in` meets its contract: what the rows from i on say, since the first that matches is the last that was seen.
use native.Mathlib.Omega.{arith}
use Rattle.std.proofs.Common.{Some, None}
use mathlib.Core.Path.{sym, ap, ◌∙◌}
use Prim.Native.Nat.{ℕ}
use Rattle.schema.specs.declared.NameAt.{NameAt}
use Rattle.schema.specs.declared.spans.Kind.TheVariants.{Array, Name}
use Rattle.schema.proofs.SpanLaws.{entry_step, entry_none, entry_all}
use Rattle.schema.proofs.spans.entry_in.Goals as goal

pub loop-i-init : goal.loop-i-init
loop-i-init c = record { above = omega arith; same = entry_none _ _ _ _ _ (omega arith) }

pub loop-i-preserved-in-Some-Array : goal.loop-i-preserved-in-Some-Array
loop-i-preserved-in-Some-Array c =
    let v = c.loop-i.invariant in
    let t = c.loop-i-test.true in
    let e = c.clipped-i.ensures in
    let e₀ = c.loop-i.entry in
    let says = sym (ap Some c.in-Some-Array.field-0-is) ∙ sym c.in-Some-Array.is ∙ c.kind_at.ensures in
    record {
      above = omega arith;
      same =
          ap (λ (n : ℕ). record { elements = Some n; name = e₀.name }) c.cell_at.ensures
          ∙ entry_step _ _ _ _ c.loop-i.i c.clipped-i.result (omega arith) c.loop-i.auto.i (omega arith) (Some Array) e₀ says v.same;
    }

pub loop-i-preserved-in-Some-Name : goal.loop-i-preserved-in-Some-Name
loop-i-preserved-in-Some-Name c =
    let v = c.loop-i.invariant in
    let t = c.loop-i-test.true in
    let e = c.clipped-i.ensures in
    let e₀ = c.loop-i.entry in
    let says = sym (ap Some c.in-Some-Name.field-0-is) ∙ sym c.in-Some-Name.is ∙ c.kind_at.ensures in
    record {
      above = omega arith;
      same =
          ap (λ (n : NameAt). record { elements = e₀.elements; name = Some n }) c.name_in_row.ensures
          ∙ entry_step _ _ _ _ c.loop-i.i c.clipped-i.result (omega arith) c.loop-i.auto.i (omega arith) (Some Name) e₀ says v.same;
    }

pub loop-i-preserved : goal.loop-i-preserved
loop-i-preserved c =
    let v = c.loop-i.invariant in
    let t = c.loop-i-test.true in
    let e = c.clipped-i.ensures in
    record {
      above = omega arith;
      same =
          entry_step _ _ _ _ c.loop-i.i c.clipped-i.result (omega arith) c.loop-i.auto.i (omega arith) None c.loop-i.entry (sym c.in-None.is ∙ c.kind_at.ensures) v.same;
    }

pub returns : goal.returns
returns c =
    let v = c.loop-i.invariant in
    v.same ∙ entry_all _ _ _ _ _ _ _ c.clipped-i.ensures c.loop-i-test.false v.above c.loop-i.auto.i
