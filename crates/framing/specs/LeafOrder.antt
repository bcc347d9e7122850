-- In which order the leaves of a walk lie in its window (request 06).
use Rattle.std.specs.Prelude.{ℕ, suc, ◌+◌, ◌≤◌, ◌<◌, ◌≡◌, List}
use Rattle.bits.specs.Members.{StandsAt}
use Rattle.framing.specs.Events.{Leaf, raw_handle}

-- A leaf with the handle `nextHandle` that starts at bit `next` comes right behind one of `width` bits that starts at bit `start`. It starts where that
-- one ends or later; unless it is a kept tail, its handle number and its width number, of a byte each at least, lie between the two. From these two
-- follow the others: starts rise, and may be equal in one case alone, where the second is a kept tail and the first is empty.
pub record Follows (start width next nextHandle : ℕ) : Type 0 where
  pub behind : start + width ≤ next
  pub numbers_between : (nextHandle ≡ raw_handle → ⊥) → start + width + 16 ≤ next
  pub rises : ((nextHandle ≡ raw_handle) × (width ≡ 0) → ⊥) → start < next
  pub same_start : start ≡ next → (nextHandle ≡ raw_handle) × (width ≡ 0)

-- of the leaves of a walk: each follows the one before it, and of any two the later one starts at or behind the end of the other
pub record LeavesInOrder (l : List Leaf) : Type 0 where
  pub follows : (i : ℕ) (a b : Leaf) → StandsAt a i l → StandsAt b (suc i) l → Follows a.start a.width b.start b.handle
  pub apart : (i j : ℕ) (a b : Leaf) → i < j → StandsAt a i l → StandsAt b j l → a.start + a.width ≤ b.start

-- The one exception, where it happens: leaf i is empty, and the next one is a kept tail that starts at the same bit.
pub record TailAtEmptyLeaf (l : List Leaf) : Type 0 where
  pub i : ℕ
  pub empty : Leaf
  pub tail : Leaf
  pub stands : StandsAt empty i l
  pub next : StandsAt tail (suc i) l
  pub no_bits : empty.width ≡ 0
  pub kept : tail.handle ≡ raw_handle
  pub same_start : empty.start ≡ tail.start
