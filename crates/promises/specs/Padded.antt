-- What is promised of a packed number that is read (request 01): how many bytes it took, so that the next bit stands eight times as many bits on; and
-- that it is called padded exactly if a shorter form exists, which is to say that some bits of a window are read as the same value and are fewer bytes.
use Rattle.std.specs.Prelude.{ℕ, ◌+◌, ◌*◌, ◌≡◌, Bool, true, false, Result, Ok, Err}
use Rattle.bits.specs.Padded.{ShorterForm}
use Rattle.bitio.specs.declared.PackedNumber.{PackedNumber}
use Rattle.bitio.specs.declared.Read.{Read}
use Rattle.bitio.specs.declared.Refusal.{Refusal}
use Rattle.exports.specs.declared.VrfPacked.{VrfPacked}
use Rattle.promises.specs.Verdicts.{Exactly}

-- of a number that is read at the position `at`
pub record Told (at value bytes next : ℕ) (padded : Bool) : Type 0 where
  pub took : next ≡ at + 8 * bytes
  pub shorter : Exactly (padded ≡ true) (ShorterForm value bytes)

-- of an answer to a cursor that stood at `at`; nothing is said of a refused one
abbrev pub PaddedAnswer : (at : ℕ) → Result (Read PackedNumber) Refusal → Type 0
PaddedAnswer at (Ok x) = Told at x.value.value x.value.bytes x.next x.value.padded
PaddedAnswer at (Err r) = Unit {0}

-- The same of a struct for C, in which the refusal 0 is none. A refused one shows 0 bytes and isn't padded, wherever its cursor stands.
pub record PaddedInC (at : ℕ) (r : VrfPacked) : Type 0 where
  pub accepted : r.refusal ≡ 0 → Told at r.value r.bytes r.position r.padded
  pub refused_took : (r.refusal ≡ 0 → ⊥) → r.bytes ≡ 0
  pub refused_padded : (r.refusal ≡ 0 → ⊥) → r.padded ≡ false
