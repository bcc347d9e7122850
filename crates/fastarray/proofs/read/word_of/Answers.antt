-- `fastarray::word_of` meets its contract: 32 bits are below 2 ^ 32.
use Rattle.std.proofs.Common.{arith}
use Rattle.bits.proofs.FieldLaws.{bound}
use Rattle.fastarray.proofs.read.word_of.Goals as goal

pub overflow_cast-result : goal.overflow_cast-result
overflow_cast-result c = omega (arith, bound _ _ _ _ c.field_of-word.ensures)
