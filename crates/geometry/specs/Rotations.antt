-- Rotations (01, Bits and numbers).
use Rattle.std.specs.Prelude.{ℕ, ◌||◌, List, eqb, Float, if◌then◌else◌, Result, Ok, Err}
use Rattle.floats.specs.Numbers.{angle}
use Rattle.bitio.specs.Cursors.{position_of}
use Rattle.bitio.specs.declared.Cursor.{Cursor}
use Rattle.bitio.specs.declared.Read.{Read}
use Rattle.bitio.specs.declared.Refusal as bitio
use Rattle.geometry.specs.Parts.{up_to, and_then, unread, three_at}
use Rattle.geometry.specs.declared.Rotation.{Rotation}
use Rattle.geometry.specs.declared.Refusal.{Refusal}
use Rattle.geometry.specs.declared.Refusal.TheVariants.{NoSuchWidth}
use Rattle.geometry.specs.declared.parts.Part.TheVariants.{Axis}
use Rattle.geometry.specs.declared.parts.Three.{Three}

abbrev pub rotation : (pitch yaw roll : Float) → Rotation
rotation p y r = record { pitch = p; yaw = y; roll = r }

-- the rotation of three numbers of w bits
unfoldable pub rotation_of : (w : ℕ) → Result (Read Three) bitio.Refusal → Result (Read Rotation) Refusal
rotation_of w r =
    and_then (unread r) (λ t. Ok (up_to (rotation (angle w t.value.x) (angle w t.value.y) (angle w t.value.z)) t.next))

-- a rotation at a cursor; an axis whose bit is clear has the angle of 0, which is 0
abbrev pub rotation_at : List ℕ → (w : ℕ) → Cursor → Result (Read Rotation) Refusal
rotation_at s w c = rotation_of w (three_at s (Axis w) c)

-- `read_rotation`: 14 for a bad cursor, then 13, before any read
abbrev pub read_rotation_lem : List ℕ → Cursor → (w : ℕ) → Result (Read Rotation) Refusal
read_rotation_lem s c w =
    and_then (unread (position_of s c)) (λ p. if eqb w 8 || eqb w 16 then rotation_at s w c else Err NoSuchWidth)
