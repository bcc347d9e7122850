-- `bits::decimal::put_digits` meets its contract: the digits stand from j on, and those of v are still to be written before them.
use Rattle.bits.proofs.DecimalLaws.{Written}
use Rattle.bits.proofs.decimal.put_digits.Given as goal

abbrev pub invariant-loop-j : goal.invariant-loop-j
invariant-loop-j l = Written l.initial.d l.d l.at l.n l.v l.j
