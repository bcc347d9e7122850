-- `bits::field::two_bytes_at` meets its contract: the bits lie in the bytes that are loaded.
use native.Mathlib.Omega.{arith}
use Rattle.bits.proofs.FieldLaws.{bound, two_bytes}
use Rattle.bits.proofs.field.two_bytes_at.Goals as goal

pub overflow_mul-three : goal.overflow_mul-three
overflow_mul-three c = omega (arith, bound _ _ _ _ c.load_bytes-high.ensures)

pub overflow_add-three : goal.overflow_add-three
overflow_add-three c = omega (arith, bound _ _ _ _ c.load_bytes-high.ensures, bound _ _ _ _ c.load_bytes-low.ensures)

pub returns : goal.returns
returns c = two_bytes _ _ _ _ c.load_bytes-low.ensures c.load_bytes-high.ensures
