-- What is promised of an answer that counts padded numbers (request 01): the numbers that it is a count of, those that the walk took or the body
-- holds, on all levels; that each of these is called padded exactly if a shorter form of it exists; and how many can be at most.
use Rattle.std.specs.Prelude.{ℕ, ◌*◌, ◌≤◌, ◌≡◌, true, List, Some, Result, Ok, Err}
use Rattle.bits.specs.Members.{All}
use Rattle.bits.specs.Packed.{Number}
use Rattle.bits.specs.Padded.{is_padded, padded_among, ShorterForm}
use Rattle.framing.specs.Events.{taken}
use Rattle.outputs.specs.Answers.{Call, trace_of, pair_trace}
use Rattle.array.specs.Refusals.{StructArray, ObjectArray}
use Rattle.fastarray.specs.Answers as F
use Rattle.fastarray.specs.Body.{Body, numbers_of}
use Rattle.fastarray.specs.declared.Delta.{Delta}
use Rattle.fastarray.specs.declared.Refusal.{Refusal}
use Rattle.exports.specs.declared.VrfWalk.{VrfWalk}
use Rattle.exports.specs.declared.VrfObjects.{VrfObjects}
use Rattle.exports.specs.declared.VrfFastArray.{VrfFastArray}
use Rattle.promises.specs.Verdicts.{Exactly}

-- n of these numbers are padded; they stand in a window of so many bits, of which a padded one takes 16 at least
pub record Counts (numbers : List Number) (bits n : ℕ) : Type 0 where
  pub counts : n ≡ padded_among numbers
  pub shorter : All (λ x. Exactly (is_padded x ≡ true) (ShorterForm x.value x.bytes)) numbers
  pub bounded : 16 * n ≤ bits

-- ---- walks; nothing is said of a refused answer, which has no count

abbrev pub CountsTaken : Call → StructArray → Type 0
CountsTaken call (Ok w) = Counts (taken (trace_of call)) call.bits w.padded
CountsTaken call (Err why) = Unit {0}

abbrev pub CountsInPairs : (bytes : List ℕ) (bits : ℕ) → ObjectArray → Type 0
CountsInPairs bytes bits (Ok w) = Counts (taken (pair_trace bytes bits)) bits w.padded
CountsInPairs bytes bits (Err why) = Unit {0}

-- ---- the fast array

-- the call's bytes hold a body, and its numbers are counted
pub record BodyCounts (call : F.Call) (n : ℕ) : Type 0 where
  pub body : Body
  pub holds : F.found call ≡ Some body
  pub counts : Counts (numbers_of (body).items) call.bits n

abbrev pub CountsInBody : F.Call → Result Delta Refusal → Type 0
CountsInBody call (Ok d) = BodyCounts call d.padded
CountsInBody call (Err e) = Unit {0}

-- ---- the same of a struct for C, in which the refusal 0 is none; a refused one counts 0

pub record CountsTakenInC (call : Call) (r : VrfWalk) : Type 0 where
  pub accepted : r.refusal ≡ 0 → Counts (taken (trace_of call)) call.bits r.padded
  pub refused : (r.refusal ≡ 0 → ⊥) → r.padded ≡ 0

pub record CountsPairsInC (bytes : List ℕ) (bits : ℕ) (r : VrfObjects) : Type 0 where
  pub accepted : r.refusal ≡ 0 → Counts (taken (pair_trace bytes bits)) bits r.padded
  pub refused : (r.refusal ≡ 0 → ⊥) → r.padded ≡ 0

pub record CountsBodyInC (call : F.Call) (r : VrfFastArray) : Type 0 where
  pub accepted : r.refusal ≡ 0 → BodyCounts call r.padded
  pub refused : (r.refusal ≡ 0 → ⊥) → r.padded ≡ 0
