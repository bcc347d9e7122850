-- `geometry::vectors::quantized` meets its contract: a header, and the components behind it.
use Rattle.std.proofs.Common.{arith, rules}
use Rattle.geometry.proofs.PartLaws.{bits_lt}
use Rattle.geometry.proofs.VectorLaws.{by_seven_bits, onward, halted}
use Rattle.geometry.proofs.vectors.quantized.Goals as goal

pub overflow_cast-h : goal.overflow_cast-h
overflow_cast-h c = omega (arith, bits_lt _ 7 _ c.in_ok-header.ensures)

pub returns-in_err-header : goal.returns-in_err-header
returns-in_err-header c = rw by_seven_bits (halted _ c.in_err-header.ensures (search rules))

pub returns : goal.returns
returns c = rw by_seven_bits (onward _ c.in_ok-header.ensures c.components_behind.ensures)
