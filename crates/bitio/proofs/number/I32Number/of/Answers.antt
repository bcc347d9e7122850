-- `<i32 as Number>::of` meets its contract: 32 bits as two's complement are an i32.
use Rattle.bits.proofs.TwosLaws.{twos_narrows, twos_i32}
use Rattle.bitio.proofs.number.I32Number.of.Goals as goal

pub overflow_cast-result : goal.overflow_cast-result
overflow_cast-result c = twos_narrows _ _ c.requires c.signed.ensures

pub returns : goal.returns
returns c = twos_i32 _ _ c.requires c.signed.ensures
