-- `bits::copy::copy_words` meets its contract: behind k words the buffer holds the first 8 k bytes of the field, and each turn adds a word.
use mathlib.Core.Path.{◌≡◌}
use Prim.Native.Nat.{◌*◌}
use Rattle.bits.specs.Bits.{num, field}
use Rattle.bits.specs.Runs.{put, bytes_of}
use Rattle.bits.proofs.copy.copy_words.Given as goal

abbrev pub invariant-loop-k : goal.invariant-loop-k
invariant-loop-k l = l.d ≡ put l.initial.d 0 (bytes_of (8 * l.k) (field (num l.s) l.at l.count))
