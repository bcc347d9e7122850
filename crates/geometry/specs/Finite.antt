-- What is sound in what was read: a vector's components are finite, a rotation's angles exact.
use Rattle.std.specs.Prelude.{ℕ, ◌^◌, ◌<◌, ◌≡◌, true, Float, Option, None, Some}
use Rattle.std.specs.Float.Ieee.Scale.{finite}
use Rattle.floats.specs.Numbers.{Angle}
use Rattle.geometry.specs.declared.Vector.{Vector}
use Rattle.geometry.specs.declared.Rotation.{Rotation}
use Rattle.geometry.specs.declared.Movement.{Movement}

-- none of three floats is a NaN or infinite
pub record AllFinite (x y z : Float) : Type 0 where
  pub finite_x : finite x ≡ true
  pub finite_y : finite y ≡ true
  pub finite_z : finite z ≡ true

abbrev pub FiniteVector : Vector → Type 0
FiniteVector v = AllFinite v.x v.y v.z

-- r is exactly `steps` times 360 / 2 ^ w degrees, for a number of steps of w bits
pub record Exact (w : ℕ) (r : Float) : Type 0 where
  pub steps : ℕ
  pub few : steps < 2 ^ w
  pub angle_of : Angle w steps r

pub record AllExact (w : ℕ) (pitch yaw roll : Float) : Type 0 where
  pub exact_pitch : Exact w pitch
  pub exact_yaw : Exact w yaw
  pub exact_roll : Exact w roll

abbrev pub ExactRotation : (w : ℕ) → Rotation → Type 0
ExactRotation w v = AllExact w v.pitch v.yaw v.roll

-- an angular velocity, if there is one
abbrev pub FiniteSpin : Option Vector → Type 0
FiniteSpin None = Unit {0}
FiniteSpin (Some v) = FiniteVector v

-- a movement whose angles have w bits
pub record SoundMovement (w : ℕ) (m : Movement) : Type 0 where
  pub finite_location : FiniteVector m.location
  pub exact_rotation : ExactRotation w m.rotation
  pub finite_linear : FiniteVector m.linear
  pub finite_angular : FiniteSpin m.angular
