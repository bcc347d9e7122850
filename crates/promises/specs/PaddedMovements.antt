-- What is promised of the count in a movement (request 01): frame and handle stand, where their flags say so, behind flags, pose and angular
-- velocity, the handle behind the frame, and nothing behind them; each of the two is called padded exactly if a shorter form of it exists; and so
-- many of them are.
use Rattle.std.specs.Prelude.{ℕ, ◌+◌, ◌≡◌, Bool, true, false, List, Option, None, Some, Result, Ok, Err}
use Rattle.bits.specs.Packed.{whole, packed}
use Rattle.bits.specs.Padded.{once}
use Rattle.bitio.specs.Cursors.{window}
use Rattle.bitio.specs.declared.Cursor.{Cursor}
use Rattle.bitio.specs.declared.Read.{Read}
use Rattle.geometry.specs.Parts.{at, up_to}
use Rattle.geometry.specs.Movements.{flags_at, pose_at, spin_at}
use Rattle.geometry.specs.declared.Movement.{Movement}
use Rattle.geometry.specs.declared.Refusal.{Refusal}
use Rattle.geometry.specs.declared.Vector.{Vector}
use Rattle.geometry.specs.declared.RotatorQuantization.{RotatorQuantization}
use Rattle.geometry.specs.declared.VectorQuantization.{VectorQuantization}
use Rattle.geometry.specs.declared.movements.Flags.{Flags}
use Rattle.geometry.specs.declared.movements.Pose.{Pose}
use Rattle.exports.specs.MoveResults.{moved_result, rotation_kind_lem, location_kind_lem}
use Rattle.exports.specs.declared.VrfMovement.{VrfMovement}
use Rattle.promises.specs.Padded.{Told}

-- a value that stands at bit p of the len bits of W, up to bit q, padded or not
pub record Stands (W len p value : ℕ) (padded : Bool) (q : ℕ) : Type 0 where
  pub bytes : ℕ
  pub reads : packed W len p ≡ whole value bytes
  pub told : Told p value bytes q padded

-- the same of a number that a flag announces: where the flag is clear it is absent, takes no bits and isn't padded
abbrev pub MayStand : (W len p : ℕ) (flag : Bool) → Option ℕ → (padded : Bool) (q : ℕ) → Type 0
MayStand W len p false None b q = (b ≡ false) × (q ≡ p)
MayStand W len p false (Some v) b q = ⊥
MayStand W len p true None b q = ⊥
MayStand W len p true (Some v) b q = Stands W len p v b q

-- what the flags announce, read at a cursor, up to the position `next`; n of the two numbers are padded
pub record CountsTwo (s : List ℕ) (f : Flags) (c : Cursor) (angular : Option Vector) (frame handle : Option ℕ) (n next : ℕ) : Type 0 where
  pub behind_spin : ℕ
  pub spin_read : spin_at s f.physics c ≡ Ok (up_to angular behind_spin)
  pub frame_padded : Bool
  pub behind_frame : ℕ
  pub frame_stands : MayStand (window s c) c.len behind_spin f.frame frame frame_padded behind_frame
  pub handle_padded : Bool
  pub handle_stands : MayStand (window s c) c.len behind_frame f.handle handle handle_padded next
  pub counts : n ≡ once frame_padded + once handle_padded

-- a movement, read at a cursor, whose flags and pose stand before them
pub record CountsBehind (s : List ℕ) (rotation : RotatorQuantization) (location : VectorQuantization) (c : Cursor) (m : Movement) (next : ℕ) : Type 0 where
  pub flags : Flags
  pub behind_flags_lem : ℕ
  pub flags_read : flags_at s c ≡ Ok (up_to flags behind_flags_lem)
  pub pose : Pose
  pub behind_pose_lem : ℕ
  pub pose_read : pose_at s rotation location (at c behind_flags_lem) ≡ Ok (up_to pose behind_pose_lem)
  pub numbers : CountsTwo s flags (at c behind_pose_lem) m.angular m.frame m.handle m.padded next

-- of an answer; nothing is said of a refused one
abbrev pub CountsAt : (s : List ℕ) (rotation : RotatorQuantization) (location : VectorQuantization) → Cursor → Result (Read Movement) Refusal → Type 0
CountsAt s rotation location c (Ok m) = CountsBehind s rotation location c m.value m.next
CountsAt s rotation location c (Err r) = Unit {0}

-- the first bits of the bytes
abbrev pub first_bits : (bits : ℕ) → Cursor
first_bits n = record { start = 0; pos = 0; len = n }

-- of an answer about these
abbrev pub CountsInMovement : (bytes : List ℕ) (bits : ℕ) (rotation : RotatorQuantization) (location : VectorQuantization) → Result (Read Movement) Refusal → Type 0
CountsInMovement s n rotation location r = CountsAt s rotation location (first_bits n) r

-- ---- the same of a struct for C, in which the refusal 0 is none; a refused one counts 0

-- the struct is that of a movement which counts
pub record MovementInC (bytes : List ℕ) (bits rotation location : ℕ) (r : VrfMovement) : Type 0 where
  pub read : Movement
  pub used : ℕ
  pub is : r ≡ moved_result read used
  pub counts : CountsBehind bytes (rotation_kind_lem rotation) (location_kind_lem location) (first_bits bits) read used

pub record CountsMovementInC (bytes : List ℕ) (bits rotation location : ℕ) (r : VrfMovement) : Type 0 where
  pub accepted : r.refusal ≡ 0 → MovementInC bytes bits rotation location r
  pub refused : (r.refusal ≡ 0 → ⊥) → r.padded ≡ 0
