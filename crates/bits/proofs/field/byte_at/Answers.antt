-- `bits::field::byte_at` meets its contract: a byte from a byte's first bit is that byte, another one lies inside two (`inside`).
use native.Mathlib.Omega.{arith}
use Rattle.bits.proofs.FieldLaws.{placed, inside}
use Rattle.bits.proofs.field.byte_at.Goals as goal

pub returns-then-off-eq0 : goal.returns-then-off-eq0
returns-then-off-eq0 c = placed _ _ _ _ _ (omega arith) c.load_bytes.ensures

pub returns-else-off-eq0 : goal.returns-else-off-eq0
returns-else-off-eq0 c = inside _ _ 16 _ 8 _ _ (omega arith) (omega arith) c.load_two.ensures
