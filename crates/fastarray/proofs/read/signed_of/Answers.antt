-- `fastarray::signed_of` meets its contract: 32 bits as two's complement are an i32.
use mathlib.Core.Path.{ap, ◌∙◌}
use Rattle.bits.specs.TwosComplement.{twos}
use Rattle.bits.proofs.FieldLaws.{bound}
use Rattle.bits.proofs.TwosLaws.{twos_narrows, twos_i32}
use Rattle.fastarray.proofs.read.signed_of.Goals as goal

pub overflow_cast-result : goal.overflow_cast-result
overflow_cast-result c = twos_narrows _ _ (bound _ _ _ _ c.word_of-word.ensures) c.signed-value.ensures

pub returns : goal.returns
returns c = twos_i32 _ _ (bound _ _ _ _ c.word_of-word.ensures) c.signed-value.ensures ∙ ap (twos 32) c.word_of-word.ensures
