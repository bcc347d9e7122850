-- `bits::field::word_at` meets its contract: a word from a byte's first bit is eight bytes, another one has its top bits in the ninth (`whole`).
use native.Mathlib.Omega.{arith}
use Rattle.bits.proofs.FieldLaws.{placed}
use Rattle.bits.proofs.WordLaws.{whole}
use Rattle.bits.proofs.field.word_at.Goals as goal

pub returns-then-off-eq0 : goal.returns-then-off-eq0
returns-then-off-eq0 c = placed _ _ _ _ _ (omega arith) c.load_bytes-low.ensures

pub returns-else-off-eq0 : goal.returns-else-off-eq0
returns-else-off-eq0 c = whole _ _ _ _ (omega arith) (omega arith) _ _ c.load_bytes-low.ensures c.load_bytes.ensures
