-- Windows of bits, and the packed numbers in them.
use Rattle.std.specs.Prelude.{ℕ, ◌+◌, ◌%◌, ◌^◌, List, Ok, Err}
use Rattle.bits.specs.Bits.{num, field}
use Rattle.bits.specs.Packed.{Packed, packed}

-- A window of `size` bits is a number whose bit k is the window's bit k; its bits from `size` on count for nothing. origin: the bit of the root
-- window at which it starts.
pub record Window : Type 0 where
  pub bits : ℕ
  pub size : ℕ
  pub origin : ℕ

-- the first n bits of some bytes
abbrev pub window_of : List ℕ → (n : ℕ) → Window
window_of bytes n = record { bits = field (num bytes) 0 n; size = n; origin = 0 }

-- the payload of k bits at bit p, as a window of its own
abbrev pub part : Window → (p k : ℕ) → Window
part w p k = record { bits = field w.bits p k; size = k; origin = w.origin + p }

-- the first m bits
abbrev pub opening : (m : ℕ) → Window → Window
opening m w = record { bits = w.bits % 2 ^ m; size = m; origin = w.origin }

-- What a walk gets of a packed number: its value and the bytes that it took. Why a read fails makes no difference to a walk.
pub data Reading : Type 0 where
  got : (value bytes : ℕ) → Reading
  failed : Reading

abbrev pub reading_of : Packed → Reading
reading_of (Ok x) = got x.value x.bytes
reading_of (Err why) = failed

-- the packed number at bit p
unfoldable pub reading : Window → (p : ℕ) → Reading
reading w p = reading_of (packed w.bits w.size p)
