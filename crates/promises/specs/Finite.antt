-- What is promised of the numbers in an answer: if it was accepted, every component is finite and every angle exact. Nothing is asked of a refused
-- one.
use Rattle.std.specs.Prelude.{ℕ, ◌≡◌, true, Result, Ok, Err}
use Rattle.geometry.specs.Finite.{AllFinite, FiniteVector, AllExact, ExactRotation, SoundMovement}
use Rattle.bitio.specs.declared.Read.{Read}
use Rattle.geometry.specs.declared.Refusal.{Refusal}
use Rattle.geometry.specs.declared.Vector.{Vector}
use Rattle.geometry.specs.declared.Rotation.{Rotation}
use Rattle.geometry.specs.declared.Movement.{Movement}
use Rattle.exports.specs.declared.VrfXyz.{VrfXyz}
use Rattle.exports.specs.declared.VrfAngles.{VrfAngles}
use Rattle.exports.specs.declared.VrfVector.{VrfVector}
use Rattle.exports.specs.declared.VrfRotation.{VrfRotation}
use Rattle.exports.specs.declared.VrfMovement.{VrfMovement}

-- ---- the answers of geometry

-- of a vector or a normal
abbrev pub FiniteAnswer : Result (Read Vector) Refusal → Type 0
FiniteAnswer (Ok v) = FiniteVector v.value
FiniteAnswer (Err r) = Unit {0}

-- of a rotation whose angles have w bits
abbrev pub SoundRotationAnswer : (w : ℕ) → Result (Read Rotation) Refusal → Type 0
SoundRotationAnswer w (Ok v) = ExactRotation w v.value
SoundRotationAnswer w (Err r) = Unit {0}

-- of a movement whose angles have w bits
abbrev pub SoundMovementAnswer : (w : ℕ) → Result (Read Movement) Refusal → Type 0
SoundMovementAnswer w (Ok m) = SoundMovement w m.value
SoundMovementAnswer w (Err r) = Unit {0}

-- ---- the structs for C; the refusal 0 is none

abbrev pub FiniteXyz : VrfXyz → Type 0
FiniteXyz v = AllFinite v.x v.y v.z

abbrev pub ExactAngles : (w : ℕ) → VrfAngles → Type 0
ExactAngles w v = AllExact w v.pitch v.yaw v.roll

pub record SoundMovementFields (w : ℕ) (r : VrfMovement) : Type 0 where
  pub finite_location : FiniteXyz r.location
  pub exact_rotation : ExactAngles w r.rotation
  pub finite_linear : FiniteXyz r.linear
  pub finite_angular : r.angular.present ≡ true → FiniteXyz r.angular.velocity

abbrev pub FiniteInC : VrfVector → Type 0
FiniteInC r = r.refusal ≡ 0 → FiniteXyz r.value

abbrev pub SoundRotationInC : (w : ℕ) → VrfRotation → Type 0
SoundRotationInC w r = r.refusal ≡ 0 → ExactAngles w r.value

abbrev pub SoundMovementInC : (w : ℕ) → VrfMovement → Type 0
SoundMovementInC w r = r.refusal ≡ 0 → SoundMovementFields w r
