-- A test of two numbers and its reverse.
use Prim.Native.Nat.{ℕ}
use mathlib.Core.Path.{◌≡◌}
use mathlib.Core.Bool.{true, false}
use lib.Dec.{leb, ltb}
use borrow.Author.Tests.{leb-true, leb-false, le-ltb, lt-ltb}

-- What is at most b isn't passed by b.
pub reached : (a b : ℕ) → leb a b ≡ true → ltb b a ≡ false
reached a b e = le-ltb b a (leb-true a b e)

-- What is not at most b passes it.
pub missed : (a b : ℕ) → leb a b ≡ false → ltb b a ≡ true
missed a b e = lt-ltb b a (leb-false a b e)
