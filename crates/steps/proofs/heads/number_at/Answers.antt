-- `steps::number_at` meets its contract: what is found of the bytes is the number of the window, and it ends in it.
use Rattle.std.proofs.Common.{refl, arith}
use Rattle.steps.proofs.HeadLaws.{number_found, found_within}
use Rattle.steps.proofs.heads.number_at.Goals as goal

pub returns-in_err-found : goal.returns-in_err-found
returns-in_err-found c = rw c.from_residual.ensures (number_found _ _ _ c.packed_at.ensures c.in_err-found.ensures.value)

pub overflow_mul-result : goal.overflow_mul-result
overflow_mul-result c =
    let h = found_within _ _ _ c.packed_at.ensures c.in_ok-found.ensures.value (omega arith) _ refl in omega arith

pub overflow_add-result : goal.overflow_add-result
overflow_add-result c =
    let h = found_within _ _ _ c.packed_at.ensures c.in_ok-found.ensures.value (omega arith) _ refl in omega arith

pub returns : goal.returns
returns c = number_found _ _ _ c.packed_at.ensures c.in_ok-found.ensures.value
