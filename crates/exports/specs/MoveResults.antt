-- The answers of the vector, normal, rotation and movement readers as structs for C: the refusal's number and values, or zeros; what was read,
-- or zeros; where the cursor stands, refused or not.
use Rattle.std.specs.Prelude.{ℕ, true, false, eqb, if◌then◌else◌, Option, None, Some, Result, Ok, Err}
use Rattle.std.specs.Float.{binary32, binary64}
use Rattle.std.specs.Float.Ieee.{of_bits}
use Rattle.bitio.specs.declared.Read.{Read}
use Rattle.geometry.specs.Refusals.{numbered, stands_after_lem}
use Rattle.geometry.specs.declared.Refusal.{Refusal}
use Rattle.geometry.specs.declared.Vector.{Vector}
use Rattle.geometry.specs.declared.Rotation.{Rotation}
use Rattle.geometry.specs.declared.Movement.{Movement}
use Rattle.geometry.specs.declared.RotatorQuantization.{RotatorQuantization}
use Rattle.geometry.specs.declared.RotatorQuantization.TheVariants.{ByteComponents, ShortComponents}
use Rattle.geometry.specs.declared.VectorQuantization.{VectorQuantization}
use Rattle.geometry.specs.declared.VectorQuantization.TheVariants.{RoundWholeNumber, RoundOneDecimal, RoundTwoDecimals}
use Rattle.exports.specs.ReadResults.{refused_read}
use Rattle.exports.specs.declared.VrfRead.{VrfRead}
use Rattle.exports.specs.declared.VrfXyz.{VrfXyz}
use Rattle.exports.specs.declared.VrfAngles.{VrfAngles}
use Rattle.exports.specs.declared.VrfVector.{VrfVector}
use Rattle.exports.specs.declared.VrfRotation.{VrfRotation}
use Rattle.exports.specs.declared.VrfSpin.{VrfSpin}
use Rattle.exports.specs.declared.VrfNumber.{VrfNumber}
use Rattle.exports.specs.declared.VrfMovement.{VrfMovement}

-- ---- parts

abbrev pub xyz_of_lem : Vector → VrfXyz
xyz_of_lem v = record { x = v.x; y = v.y; z = v.z }

abbrev pub no_xyz_lem : VrfXyz
no_xyz_lem = record { x = of_bits binary64 0; y = of_bits binary64 0; z = of_bits binary64 0 }

abbrev pub angles_of_lem : Rotation → VrfAngles
angles_of_lem v = record { pitch = v.pitch; yaw = v.yaw; roll = v.roll }

abbrev pub no_angles_lem : VrfAngles
no_angles_lem = record { pitch = of_bits binary32 0; yaw = of_bits binary32 0; roll = of_bits binary32 0 }

abbrev pub absent_spin_lem : VrfSpin
absent_spin_lem = record { present = false; velocity = no_xyz_lem }

abbrev pub spin_of_lem : Option Vector → VrfSpin
spin_of_lem None = absent_spin_lem
spin_of_lem (Some v) = record { present = true; velocity = xyz_of_lem v }

abbrev pub absent_number_lem : VrfNumber
absent_number_lem = record { present = false; value = 0 }

abbrev pub present_of : Option ℕ → VrfNumber
present_of None = absent_number_lem
present_of (Some n) = record { present = true; value = n }

-- ---- vectors and rotations, read at a cursor that stood at `at`

abbrev pub vector_value : Vector → (position : ℕ) → VrfVector
vector_value v p = record { refusal = 0; first = 0; second = 0; third = 0; value = xyz_of_lem v; position = p }

abbrev pub no_vector : VrfRead → VrfVector
no_vector r =
    record { refusal = r.refusal; first = r.first; second = r.second; third = r.third; value = no_xyz_lem; position = r.position }

abbrev pub vector_result : (at : ℕ) → Result (Read Vector) Refusal → VrfVector
vector_result at (Ok v) = vector_value v.value v.next
vector_result at (Err r) = no_vector (refused_read (numbered r) (stands_after_lem at r))

abbrev pub rotation_value : Rotation → (position : ℕ) → VrfRotation
rotation_value v p = record { refusal = 0; first = 0; second = 0; third = 0; value = angles_of_lem v; position = p }

abbrev pub no_rotation : VrfRead → VrfRotation
no_rotation r =
    record { refusal = r.refusal; first = r.first; second = r.second; third = r.third; value = no_angles_lem; position = r.position }

abbrev pub rotation_result : (at : ℕ) → Result (Read Rotation) Refusal → VrfRotation
rotation_result at (Ok v) = rotation_value v.value v.next
rotation_result at (Err r) = no_rotation (refused_read (numbered r) (stands_after_lem at r))

-- ---- movements: how they are sent, by number, and what comes of them; they start at bit 0

-- 0: angles of bytes; any other: of 16 bits
unfoldable pub rotation_kind_lem : ℕ → RotatorQuantization
rotation_kind_lem n = if eqb n 0 then ByteComponents else ShortComponents

-- 0: scale 1; 1: scale 10; any other: scale 100
unfoldable pub location_kind_lem : ℕ → VectorQuantization
location_kind_lem n = if eqb n 0 then RoundWholeNumber else (if eqb n 1 then RoundOneDecimal else RoundTwoDecimals)

abbrev pub moved_result : Movement → (used : ℕ) → VrfMovement
moved_result m used =
    record {
      refusal = 0;
      first = 0;
      second = 0;
      third = 0;
      location = xyz_of_lem m.location;
      rotation = angles_of_lem m.rotation;
      linear = xyz_of_lem m.linear;
      angular = spin_of_lem m.angular;
      sleep = m.sleep;
      physics = m.physics;
      frame = present_of m.frame;
      handle = present_of m.handle;
      position = used;
      padded = m.padded;
    }

abbrev pub unmoved_result : VrfRead → VrfMovement
unmoved_result r =
    record {
      refusal = r.refusal;
      first = r.first;
      second = r.second;
      third = r.third;
      location = no_xyz_lem;
      rotation = no_angles_lem;
      linear = no_xyz_lem;
      angular = absent_spin_lem;
      sleep = false;
      physics = false;
      frame = absent_number_lem;
      handle = absent_number_lem;
      position = r.position;
      padded = 0;
    }

abbrev pub movement_result : Result (Read Movement) Refusal → VrfMovement
movement_result (Ok m) = moved_result m.value m.next
movement_result (Err r) = unmoved_result (refused_read (numbered r) (stands_after_lem 0 r))
