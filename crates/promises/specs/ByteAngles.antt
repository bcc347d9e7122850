-- What is promised of the angles of bytes: each is a whole number over 32, and has the bits that the multiplication by 360 / 256 gave.
use Rattle.std.specs.Prelude.{◌≡◌, ℕ, ◌*◌, ◌<◌, false, Float}
use Rattle.std.specs.Float.{binary32}
use Rattle.std.specs.Float.Ieee.{to_bits}
use Rattle.std.specs.Float.Ieee.Exact.{HasValue}
use Rattle.floats.specs.ByteAngles.{by_the_whole, by_the_product}
use Rattle.geometry.specs.ByteAngles.{byte_angle_steps_lem}
use Rattle.geometry.specs.declared.Rotation.{Rotation}

-- r is the angle of the byte k: what `byte_angle_steps` gives for k, over 32, without a rounding, and with the bits of the old product
pub record ByteAngle (k : ℕ) (r : Float) : Type 0 where
  pub byte : k < 256
  pub whole : byte_angle_steps_lem k ≡ 45 * k
  pub divided : r ≡ by_the_whole k
  pub exact : HasValue r false (byte_angle_steps_lem k) 32
  pub before : to_bits binary32 r ≡ to_bits binary32 (by_the_product k)

-- each axis is the angle of some byte; of which, and of 0 where the axis isn't sent, `geometry/specs/Rotations` says
pub record ByteRotation (v : Rotation) : Type 0 where
  pub pitch_byte : ℕ
  pub yaw_byte : ℕ
  pub roll_byte : ℕ
  pub of_pitch : ByteAngle pitch_byte v.pitch
  pub of_yaw : ByteAngle yaw_byte v.yaw
  pub of_roll : ByteAngle roll_byte v.roll
