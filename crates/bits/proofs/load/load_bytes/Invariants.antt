-- `bits::load_bytes` meets its contract: behind j bytes the value is the field of them, and each turn adds a byte above it.
use mathlib.Core.Path.{◌≡◌}
use Prim.Native.Nat.{◌*◌}
use Rattle.bits.specs.Bits.{num, field}
use Rattle.bits.proofs.load.load_bytes.Given as goal

abbrev pub invariant-loop-j : goal.invariant-loop-j
invariant-loop-j l = l.value ≡ field (num l.s) (8 * l.i) (8 * l.j)
