-- What it means that two lists of bytes differ outside a window alone.
use Rattle.std.specs.Prelude.{ℕ, ◌+◌, ◌*◌, ◌≤◌, ◌<◌, ◌≡◌, true, List, length}
use Rattle.bits.specs.Bits.{num, field}
use Rattle.bits.specs.Runs.{bytes_for}
use Rattle.bitio.specs.Cursors.{good}
use Rattle.bitio.specs.declared.Cursor.{Cursor}

-- the len bits from `start` on are the same, bit by bit
abbrev pub SameBits : (s t : List ℕ) (start len : ℕ) → Type 0
SameBits s t start len = (k : ℕ) → k < len → field (num s) (start + k) 1 ≡ field (num t) (start + k) 1

-- As many bytes, and the same bits in the window: how many bytes there are is told by refusal 14, and decides whether a fast-array body is one.
pub record Agree (s t : List ℕ) (start len : ℕ) : Type 0 where
  pub as_many : length s ≡ length t
  pub same_bits : SameBits s t start len

-- Both hold len bits, and these are the same: all that `open` and a movement ask, however many bytes follow.
pub record Hold (s t : List ℕ) (len : ℕ) : Type 0 where
  pub first : len ≤ 8 * length s
  pub second : len ≤ 8 * length t
  pub same_bits : SameBits s t 0 len

-- The cursor fits both, and its window has the same bits: all that a call at a cursor asks, however many bytes follow.
pub record Inside (s t : List ℕ) (c : Cursor) : Type 0 where
  pub first : good s c ≡ true
  pub second : good t c ≡ true
  pub same_bits : SameBits s t c.start c.len

-- What a walk asks: both hold len bits, and the same ones; or both hold fewer, and then no bit is looked at.
pub data Alike (s t : List ℕ) (len : ℕ) : Type 0 where
  both_hold : Hold s t len → Alike s t len
  both_fewer : 8 * length s < len → 8 * length t < len → Alike s t len

-- What a fast-array body asks, which has as many bytes as its bits take: both have as many, and the same bits; or neither has, and then no bit is
-- looked at.
pub data AlikeBodies (s t : List ℕ) (len : ℕ) : Type 0 where
  both_whole : length s ≡ bytes_for len → length t ≡ bytes_for len → SameBits s t 0 len → AlikeBodies s t len
  neither_whole : (length s ≡ bytes_for len → ⊥) → (length t ≡ bytes_for len → ⊥) → AlikeBodies s t len
