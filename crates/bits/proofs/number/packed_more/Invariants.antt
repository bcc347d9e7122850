-- `bits::packed_more` meets its contract. The loop's invariant: the bytes that are taken, with the rest of the number after them, are the
-- number.
use mathlib.Core.Path.{◌≡◌}
use Prim.Native.Nat.{ℕ, ◌+◌, ◌-◌, ◌*◌, ◌^◌, ◌≤◌, ◌<◌}
use Rattle.bits.specs.Bits.{num}
use Rattle.bits.specs.Packed.{after, packed_from}
use Rattle.bits.proofs.number.packed_more.Given as goal

pub record Reading (N at end low value taken : ℕ) : Type 0 where
  pub within : at + 8 * taken ≤ end
  pub small : value < 2 ^ (7 * taken)
  pub same : after taken value (packed_from (4 - taken) N end (at + 8 * taken)) ≡ after 1 low (packed_from 3 N end (at + 8))

abbrev pub invariant-loop-taken : goal.invariant-loop-taken
invariant-loop-taken l = Reading (num l.s) l.at l.end l.low l.value l.taken
