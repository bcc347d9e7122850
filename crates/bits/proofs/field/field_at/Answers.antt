-- `bits::field::field_at` meets its contract: the field lies in the eight bytes from its first one on (`one_word`), or a ninth holds the rest
-- (`two_words`).
use native.Mathlib.Omega.{arith}
use Rattle.bits.proofs.WordLaws.{one_word, two_words}
use Rattle.bits.proofs.field.field_at.Goals as goal

pub returns-then-off-count-le64 : goal.returns-then-off-count-le64
returns-then-off-count-le64 c = one_word _ _ _ _ (omega arith) (omega arith) _ _ (omega arith) c.load.ensures

pub returns-else-off-count-le64 : goal.returns-else-off-count-le64
returns-else-off-count-le64 c = two_words _ _ _ _ (omega arith) (omega arith) _ _ _ (omega arith) c.load.ensures c.load_bytes-high.ensures
