-- Each public call of geometry is determined by its contract: the answer equals what a definition gives.
use Prim.Native.Nat.{ℕ}
use mathlib.Core.Path.{◌≡◌}
use mathlib.Core.List.{List}
use Rattle.bitio.specs.declared.Cursor.{Cursor}
use Rattle.geometry.specs.Refusals.{said, stands_after64}
use Rattle.geometry.specs.Vectors.{read_vector, read_normal}
use Rattle.geometry.specs.Rotations.{read_rotation_lem}
use Rattle.geometry.specs.Movements.{read_movement}
use Rattle.geometry.specs.ByteAngles.{byte_angle_steps_lem}
use Rattle.geometry.specs.declared.Refusal.{Refusal}
use Rattle.geometry.specs.declared.RotatorQuantization.{RotatorQuantization}
use Rattle.geometry.specs.declared.VectorQuantization.{VectorQuantization}
use Rattle.promises.specs.Determining.{Determines}
use Rattle.promises.proofs.Determined.{one_equal}

-- `read_vector_net_quantize` has one answer.
pub one_read_vector_net_quantize : (bytes : List ℕ) (c : Cursor) (scale : ℕ) → Determines (λ r. r ≡ read_vector bytes c scale)
one_read_vector_net_quantize bytes c scale = one_equal (read_vector bytes c scale)

-- `read_fixed_vector_normal` has one answer.
pub one_read_fixed_vector_normal : (bytes : List ℕ) (c : Cursor) → Determines (λ r. r ≡ read_normal bytes c)
one_read_fixed_vector_normal bytes c = one_equal (read_normal bytes c)

-- `read_rotation` has one answer.
pub one_read_rotation : (bytes : List ℕ) (c : Cursor) (width : ℕ) → Determines (λ r. r ≡ read_rotation_lem bytes c width)
one_read_rotation bytes c width = one_equal (read_rotation_lem bytes c width)

-- `read_rep_movement` has one answer.
pub one_read_rep_movement : (bytes : List ℕ) (count : ℕ) (rotation : RotatorQuantization) (location : VectorQuantization)
    → Determines (λ r. r ≡ read_movement bytes count rotation location)
one_read_rep_movement bytes count rotation location = one_equal (read_movement bytes count rotation location)

-- `byte_angle_steps` has one answer.
pub one_byte_angle_steps : (k : ℕ) → Determines (λ r. r ≡ byte_angle_steps_lem k)
one_byte_angle_steps k = one_equal (byte_angle_steps_lem k)

-- `said` has one answer.
pub one_said : (why : Refusal) → Determines (λ r. r ≡ said why)
one_said why = one_equal (said why)

-- `stands_after` has one answer.
pub one_stands_after : (why : Refusal) (at : ℕ) → Determines (λ r. r ≡ stands_after64 why at)
one_stands_after why at = one_equal (stands_after64 why at)
