-- `bits::copy::store_tail` meets its contract: the first j bytes of the part are stored, and v is what is left of w above them.
use mathlib.Core.Path.{◌≡◌}
use mathlib.Core.List.{List}
use Prim.Native.Nat.{ℕ, ◌*◌, ◌/◌, ◌^◌}
use lib.ListN.{take}
use Rattle.bits.specs.Runs.{bytes_of}
use Rattle.bits.proofs.copy.store_tail.Given as goal

pub record Stored (part : List ℕ) (w v j : ℕ) : Type 0 where
  pub now_is : take j part ≡ bytes_of j w
  pub left_is : v ≡ w / 2 ^ (8 * j)

abbrev pub invariant-loop-x : goal.invariant-loop-x
invariant-loop-x l = Stored l.x-items l.w l.v l.x-index
