-- All bits of the bytes, as bytes, are the bytes; and what is written to the front of a part is written where the part starts.
use Rattle.std.proofs.Common.{refl, arith}
use Rattle.steps.proofs.StoreLaws.{part_copy}
use Rattle.steps.proofs.runs.copy_run.Goals as goal

pub returns : goal.returns
returns c = part_copy _ _ _ _ _ _ (λ i. (c.type_inv.s i).fits) refl refl (omega arith) c.copy_field.ensures
