-- The angles of bytes that the readers give are whole thirty-seconds of a degree over 32, exactly, and have the bits of the old product. That the
-- table has 45 k at the place k is the contract of `floats::byte_angles::entry`, which `byte_angle_steps` answers with.
use Rattle.std.specs.Prelude.{Ok}
use mathlib.Core.Path.{◌≡◌, sym, ap, ◌∙◌, subst}
use Prim.Native.Nat.{ℕ, ◌<◌}
use mathlib.Core.Bool.{false}
use mathlib.Core.List.{List}
use lib.Ieee.{Float, binary32, to_bits}
use lib.Ieee.Exact.{HasValue}
use borrow.Author.Tests.{lt-ltb}
use Rattle.floats.specs.Numbers.{angle}
use Rattle.floats.specs.ByteAngles.{thirty_seconds}
use Rattle.floats.proofs.ByteAngles.{whole_angle, as_before}
use Rattle.bitio.specs.declared.Cursor.{Cursor}
use Rattle.bitio.specs.declared.Read.{Read}
use Rattle.geometry.specs.ByteAngles.{byte_angle_steps_lem}
use Rattle.geometry.specs.Rotations.{read_rotation_lem}
use Rattle.geometry.specs.Movements.{width_of, read_movement}
use Rattle.geometry.specs.Finite.{Exact, ExactRotation}
use Rattle.geometry.proofs.ExactAngles.{rotation_exact}
use Rattle.geometry.proofs.ExactMovements.{movement_exact}
use Rattle.geometry.specs.declared.Rotation.{Rotation}
use Rattle.geometry.specs.declared.Movement.{Movement}
use Rattle.geometry.specs.declared.RotatorQuantization.TheVariants.{ByteComponents}
use Rattle.geometry.specs.declared.VectorQuantization.{VectorQuantization}
use Rattle.promises.specs.ByteAngles.{ByteAngle, ByteRotation}

-- Every byte's angle, as the definitions of rotations and movements have it, is its whole number over 32, exactly, with the old product's bits.
pub every_byte : (k : ℕ) → k < 256 → ByteAngle k (angle 8 k)
every_byte k h =
    let is = sym (whole_angle k h).value in
    let whole : byte_angle_steps_lem k ≡ thirty_seconds k = simp (lt-ltb k 256 h) in
    record {
      byte = h;
      whole = whole;
      divided = is;
      exact = subst (λ (n : ℕ). HasValue (angle 8 k) false n 32) (sym whole) (subst (λ (x : Float). HasValue x false (thirty_seconds k) 32) (sym is) (as_before k h).exact);
      before = ap (to_bits binary32) is ∙ (as_before k h).bits;
    }

axis : (r : Float) (e : Exact 8 r) → ByteAngle e.steps r
axis r e = subst (ByteAngle e.steps) (sym e.angle_of.value) (every_byte e.steps e.few)

axes : (v : Rotation) → ExactRotation 8 v → ByteRotation v
axes v e =
    record {
      pitch_byte = e.exact_pitch.steps;
      yaw_byte = e.exact_yaw.steps;
      roll_byte = e.exact_roll.steps;
      of_pitch = axis v.pitch e.exact_pitch;
      of_yaw = axis v.yaw e.exact_yaw;
      of_roll = axis v.roll e.exact_roll;
    }

-- Each axis of an accepted rotation of width 8 is the angle of a byte.
pub rotation_of_bytes : (bytes : List ℕ) (c : Cursor) (v : Read Rotation) → read_rotation_lem bytes c 8 ≡ Ok v → ByteRotation v.value
rotation_of_bytes bytes c v e = axes v.value (rotation_exact bytes c 8 v e)

-- So is each axis of the rotation in an accepted movement with byte components.
pub movement_of_bytes : (bytes : List ℕ) (count : ℕ) (location : VectorQuantization) (m : Read Movement)
    → read_movement bytes count ByteComponents location ≡ Ok m → ByteRotation m.value.rotation
unfolding width_of
movement_of_bytes bytes count location m e = axes m.value.rotation (movement_exact bytes ByteComponents location count m e)
