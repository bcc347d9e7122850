-- The numbers of an accepted answer are sound: a vector that isn't finite is refused, a normal's axis is a quotient of two small integers, and an
-- angle is a few steps that binary32 holds. The struct for C has the same numbers, and a refused one another number than 0. The theorem on a call
-- is `finite_` and the call's name.
use Rattle.std.specs.Prelude.{Option, None, Some, Result, Ok, Err}
use Prim.Native.Nat.{ℕ}
use mathlib.Core.Path.{◌≡◌, refl, sym, ap, ◌∙◌, subst}
use mathlib.Core.Bool.{true}
use mathlib.Core.List.{List}
use mathlib.Core.Option.{none, some}
use Rattle.bits.proofs.Never.{never}
use Rattle.bitio.specs.declared.Cursor.{Cursor}
use Rattle.bitio.specs.declared.Read.{Read}
use Rattle.geometry.specs.Finite.{FiniteVector, ExactRotation, FiniteSpin}
use Rattle.geometry.specs.Refusals.{numbered}
use Rattle.geometry.specs.Vectors.{read_vector, read_normal}
use Rattle.geometry.specs.Rotations.{read_rotation_lem}
use Rattle.geometry.specs.Movements.{width_of, read_movement}
use Rattle.geometry.proofs.FiniteVectors.{vector_finite, fixed_finite}
use Rattle.geometry.proofs.ExactAngles.{rotation_exact}
use Rattle.geometry.proofs.ExactMovements.{movement_sound}
use Rattle.geometry.specs.declared.Vector.{Vector}
use Rattle.geometry.specs.declared.Rotation.{Rotation}
use Rattle.geometry.specs.declared.Refusal.{Refusal}
use Rattle.geometry.specs.declared.RotatorQuantization.{RotatorQuantization}
use Rattle.geometry.specs.declared.VectorQuantization.{VectorQuantization}
use Rattle.geometry.specs.declared.Movement.{Movement}
use Rattle.exports.specs.Calls.{vrf_vector_lem, vrf_normal_lem, vrf_rotation_lem, vrf_movement_lem}
use Rattle.exports.specs.MoveResults.{xyz_of_lem, angles_of_lem, spin_of_lem, vector_result, rotation_result, movement_result, rotation_kind_lem, location_kind_lem}
use Rattle.exports.specs.ReadResults.{cursor_of_lem}
use Rattle.exports.specs.declared.VrfCursor.{VrfCursor}
use Rattle.exports.specs.declared.VrfVector.{VrfVector}
use Rattle.exports.specs.declared.VrfRotation.{VrfRotation}
use Rattle.exports.specs.declared.VrfMovement.{VrfMovement}
use Rattle.promises.specs.ExportOrders.{given}
use Rattle.promises.specs.Finite.{FiniteAnswer, SoundRotationAnswer, SoundMovementAnswer, FiniteXyz, ExactAngles, FiniteInC, SoundRotationInC, SoundMovementInC}
use Rattle.promises.proofs.RefusedExports.{move_given}

-- ---- the calls of geometry

-- An accepted answer of `read_vector_net_quantize` is finite.
pub finite_read_vector_net_quantize : (bytes : List ℕ) (c : Cursor) (scale : ℕ) (r : Result (Read Vector) Refusal) → r ≡ read_vector bytes c scale → FiniteAnswer r
finite_read_vector_net_quantize bytes c scale (Ok v) e = vector_finite bytes scale c v (sym e)
finite_read_vector_net_quantize bytes c scale (Err r) e = tt

-- An accepted answer of `read_fixed_vector_normal` is finite.
pub finite_read_fixed_vector_normal : (bytes : List ℕ) (c : Cursor) (r : Result (Read Vector) Refusal) → r ≡ read_normal bytes c → FiniteAnswer r
finite_read_fixed_vector_normal bytes c (Ok v) e = fixed_finite bytes c v (sym e)
finite_read_fixed_vector_normal bytes c (Err r) e = tt

-- An accepted answer of `read_rotation` is exact.
pub finite_read_rotation : (bytes : List ℕ) (c : Cursor) (width : ℕ) (r : Result (Read Rotation) Refusal) → r ≡ read_rotation_lem bytes c width → SoundRotationAnswer width r
finite_read_rotation bytes c width (Ok v) e = rotation_exact bytes c width v (sym e)
finite_read_rotation bytes c width (Err r) e = tt

-- An accepted answer of `read_rep_movement` is finite and exact.
pub finite_read_rep_movement : (bytes : List ℕ) (count : ℕ) (rotation : RotatorQuantization) (location : VectorQuantization) (r : Result (Read Movement) Refusal)
    → r ≡ read_movement bytes count rotation location → SoundMovementAnswer (width_of rotation) r
finite_read_rep_movement bytes count rotation location (Ok m) e = movement_sound bytes rotation location count m (sym e)
finite_read_rep_movement bytes count rotation location (Err r) e = tt

-- ---- the calls for C

-- no refusal has the number 0
pub not_refused : {A : Type 0} (r : Refusal) → (numbered r).number ≡ 0 → A
not_refused r e =
    let n = numbered r in
    let f : none ≡ some n = ap (λ (k : ℕ). given k n.first n.second n.third) (sym e) ∙ move_given r in
    let z : ◌≡◌ {A = ℕ} 0 1 = cc in never z

in_xyz : (v : Vector) → FiniteVector v → FiniteXyz (xyz_of_lem v)
in_xyz v h = record { finite_x = h.finite_x; finite_y = h.finite_y; finite_z = h.finite_z }

in_angles : (w : ℕ) (v : Rotation) → ExactRotation w v → ExactAngles w (angles_of_lem v)
in_angles w v h = record { exact_pitch = h.exact_pitch; exact_yaw = h.exact_yaw; exact_roll = h.exact_roll }

in_spin : (v : Option Vector) → FiniteSpin v → (spin_of_lem v).present ≡ true → FiniteXyz (spin_of_lem v).velocity
in_spin None h e = let z : ◌≡◌ {A = ℕ} 0 1 = cc in never z
in_spin (Some v) h e = in_xyz v h

vector_in : (at : ℕ) (a : Result (Read Vector) Refusal) → FiniteAnswer a → FiniteInC (vector_result at a)
vector_in at (Ok v) h e = in_xyz v.value h
vector_in at (Err r) h e = not_refused r e

rotation_in : (at w : ℕ) (a : Result (Read Rotation) Refusal) → SoundRotationAnswer w a → SoundRotationInC w (rotation_result at a)
rotation_in at w (Ok v) h e = in_angles w v.value h
rotation_in at w (Err r) h e = not_refused r e

movement_in : (w : ℕ) (a : Result (Read Movement) Refusal) → SoundMovementAnswer w a → SoundMovementInC w (movement_result a)
movement_in w (Ok m) h e =
    record {
      finite_location = in_xyz m.value.location h.finite_location;
      exact_rotation = in_angles w m.value.rotation h.exact_rotation;
      finite_linear = in_xyz m.value.linear h.finite_linear;
      finite_angular = in_spin m.value.angular h.finite_angular;
    }
movement_in w (Err r) h e = not_refused r e

-- An accepted answer of `vrf_vector` is finite.
pub finite_vrf_vector : (bytes : List ℕ) (cursor : VrfCursor) (scale : ℕ) (r : VrfVector)
    → r ≡ vrf_vector_lem bytes cursor scale → FiniteInC r
finite_vrf_vector bytes cursor scale r e =
    let a = read_vector bytes (cursor_of_lem cursor) scale in
    subst FiniteInC (sym e) (vector_in cursor.pos a (finite_read_vector_net_quantize bytes (cursor_of_lem cursor) scale a refl))

-- An accepted answer of `vrf_normal` is finite.
pub finite_vrf_normal : (bytes : List ℕ) (cursor : VrfCursor) (r : VrfVector)
    → r ≡ vrf_normal_lem bytes cursor → FiniteInC r
finite_vrf_normal bytes cursor r e =
    let a = read_normal bytes (cursor_of_lem cursor) in
    subst FiniteInC (sym e) (vector_in cursor.pos a (finite_read_fixed_vector_normal bytes (cursor_of_lem cursor) a refl))

-- An accepted answer of `vrf_rotation` is exact.
pub finite_vrf_rotation : (bytes : List ℕ) (cursor : VrfCursor) (width : ℕ) (r : VrfRotation)
    → r ≡ vrf_rotation_lem bytes cursor width → SoundRotationInC width r
finite_vrf_rotation bytes cursor width r e =
    let a = read_rotation_lem bytes (cursor_of_lem cursor) width in
    subst (SoundRotationInC width) (sym e) (rotation_in cursor.pos width a (finite_read_rotation bytes (cursor_of_lem cursor) width a refl))

-- An accepted answer of `vrf_movement` is finite and exact.
pub finite_vrf_movement : (bytes : List ℕ) (count rotation location : ℕ) (r : VrfMovement)
    → r ≡ vrf_movement_lem bytes count rotation location → SoundMovementInC (width_of (rotation_kind_lem rotation)) r
finite_vrf_movement bytes count rotation location r e =
    let a = read_movement bytes count (rotation_kind_lem rotation) (location_kind_lem location) in
    let w = width_of (rotation_kind_lem rotation) in
    subst (SoundMovementInC w) (sym e) (movement_in w a (finite_read_rep_movement bytes count (rotation_kind_lem rotation) (location_kind_lem location) a refl))
