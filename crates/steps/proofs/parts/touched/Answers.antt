-- A part of the bytes holds the same bits.
use Rattle.std.proofs.Common.{arith}
use Rattle.steps.proofs.ShiftLaws.{part_bytes}
use Rattle.steps.proofs.parts.touched.Goals as goal

pub returns-clause-same : goal.returns-clause-same
returns-clause-same c = λ base.
    let a = c.args in
    part_bytes a.bytes.now base a.from a.end _ (λ i. (c.type_inv.bytes i).fits) c.requires.0 (omega (arith, c.requires))
