-- A refused single read leaves the cursor where it stood (01, Refusal numbers, behind its table). Single are reads of a fixed number of bits, skips,
-- inner windows and copies; packed numbers and serialized integers are read in parts. A caller in Rattle keeps its own cursor and asks `stands_after`
-- where it stands, in 64 bits; a struct for C has the position.
use Rattle.std.specs.Prelude.{ℕ, ◌^◌, ◌<◌, ◌≡◌}
use Rattle.std.proofs.Math.Option.{Option, none, some}
use Rattle.bitio.specs.Refusals.{stands_after_lem}
use Rattle.bitio.specs.declared.Refusal.{Refusal}
use Rattle.exports.specs.declared.VrfRead.{VrfRead}

-- after the refusal, if there is one, the cursor stands at `at`, where it stood
abbrev pub Stays : (at : ℕ) → Option Refusal → Type 0
Stays at none = Unit
Stays at (some r) = stands_after_lem at r ≡ at

-- the same of a struct for C; a cursor's position has 64 bits, so that the first premise holds of every one
abbrev pub StaysInC : (at : ℕ) → VrfRead → Type 0
StaysInC at r = at < 2 ^ 64 → (r.refusal ≡ 0 → ⊥) → r.position ≡ at
