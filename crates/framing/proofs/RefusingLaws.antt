-- The cases of `decided`: 1, 2, 3, and acceptance. Each is one branch of the definition, under the tests that lead to it.
use mathlib.Core.Path.{◌≡◌}
use mathlib.Core.Bool.{Bool, true, false}
use Prim.Native.Nat.{ℕ, ◌≤◌, ◌<◌}
use borrow.Author.Tests.{lt-ltb, le-ltb}
use Rattle.bits.specs.Sizes.{longest_window}
use Rattle.framing.specs.Events.{Trace}
use Rattle.framing.specs.Counters.{counters, padded_in}
use Rattle.framing.specs.Refusing.{refused, accepted, decided}

module _ {Need : Type 0} (bits : ℕ) (ok : Bool) (t : Trace) (nothing need : Need) (enough : Bool) where
  pub decided_long : longest_window < bits → decided bits ok t nothing need enough ≡ refused 1 nothing
  unfolding decided
  decided_long h = simp (lt-ltb _ _ h)

  module _ (small : bits ≤ longest_window) where
    pub decided_broken : ok ≡ false → decided bits ok t nothing need enough ≡ refused 2 nothing
    unfolding decided
    decided_broken e = simp (le-ltb _ _ small, e)

    module _ (laid : ok ≡ true) where
      pub decided_short : enough ≡ false → decided bits ok t nothing need enough ≡ refused 3 need
      unfolding decided
      decided_short e = simp (le-ltb _ _ small, laid, e)

      pub decided_fine : enough ≡ true → decided bits ok t nothing need enough ≡ accepted (counters t) (padded_in t) need
      unfolding decided
      decided_fine e = simp (le-ltb _ _ small, laid, e)
