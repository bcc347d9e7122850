-- Movement records (01, Bits and numbers): flags, location, rotation and linear velocity, then what the flags announce.
use Rattle.std.specs.Prelude.{ℕ, ◌+◌, Bool, true, false, List, Option, None, Some, Result, Ok}
use Rattle.bits.specs.Padded.{once}
use Rattle.bitio.specs.Cursors.{opened}
use Rattle.bitio.specs.Reads.{read_bit_lem}
use Rattle.bitio.specs.Numbers.{read_int_packed_lem}
use Rattle.bitio.specs.declared.Cursor.{Cursor}
use Rattle.bitio.specs.declared.Read.{Read}
use Rattle.geometry.specs.Parts.{at, up_to, and_then, unread}
use Rattle.geometry.specs.Vectors.{quantized_at}
use Rattle.geometry.specs.Rotations.{rotation_at}
use Rattle.geometry.specs.declared.Vector.{Vector}
use Rattle.geometry.specs.declared.Rotation.{Rotation}
use Rattle.geometry.specs.declared.Movement.{Movement}
use Rattle.geometry.specs.declared.Refusal.{Refusal}
use Rattle.geometry.specs.declared.RotatorQuantization.{RotatorQuantization}
use Rattle.geometry.specs.declared.RotatorQuantization.TheVariants.{ByteComponents, ShortComponents}
use Rattle.geometry.specs.declared.VectorQuantization.{VectorQuantization}
use Rattle.geometry.specs.declared.VectorQuantization.TheVariants.{RoundWholeNumber, RoundOneDecimal, RoundTwoDecimals}
use Rattle.geometry.specs.declared.movements.Flags.{Flags}
use Rattle.geometry.specs.declared.movements.Pose.{Pose}
use Rattle.geometry.specs.declared.movements.Flagged.{Flagged}
use Rattle.geometry.specs.declared.movements.Extras.{Extras}

-- ---- what the enums stand for
unfoldable pub width_of : RotatorQuantization → ℕ
width_of ByteComponents = 8
width_of ShortComponents = 16

unfoldable pub scale_of : VectorQuantization → ℕ
scale_of RoundWholeNumber = 1
scale_of RoundOneDecimal = 10
scale_of RoundTwoDecimals = 100

-- velocities have whole units
abbrev pub velocity_scale : ℕ
velocity_scale = 1

-- ---- the four flags, each a read of one bit
abbrev pub flags : (sleep physics frame handle : Bool) → Flags
flags s p f h = record { sleep = s; physics = p; frame = f; handle = h }

unfoldable pub flags_at : List ℕ → Cursor → Result (Read Flags) Refusal
flags_at s c =
    and_then (unread (read_bit_lem s c)) (λ sleep.
    and_then (unread (read_bit_lem s (at c sleep.next))) (λ physics.
    and_then (unread (read_bit_lem s (at c physics.next))) (λ frame.
    and_then (unread (read_bit_lem s (at c frame.next))) (λ handle.
    Ok (up_to (flags sleep.value physics.value frame.value handle.value) handle.next)))))

-- ---- what every movement has
abbrev pub pose : (location : Vector) (rotation : Rotation) (linear : Vector) → Pose
pose l r v = record { location = l; rotation = r; linear = v }

unfoldable pub pose_at : List ℕ → RotatorQuantization → VectorQuantization → Cursor → Result (Read Pose) Refusal
pose_at s rotation location c =
    and_then (quantized_at s (scale_of location) c) (λ l.
    and_then (rotation_at s (width_of rotation) (at c l.next)) (λ r.
    and_then (quantized_at s velocity_scale (at c r.next)) (λ v.
    Ok (up_to (pose l.value r.value v.value) v.next))))

-- ---- what a flag announces: absent where it is clear, and nothing is read
unfoldable pub spin_at : List ℕ → Bool → Cursor → Result (Read (Option Vector)) Refusal
spin_at s true c = and_then (quantized_at s velocity_scale c) (λ v. Ok (up_to (Some v.value) v.next))
spin_at s false c = Ok (up_to None c.pos)

abbrev pub flagged : Option ℕ → (padded : Bool) → Flagged
flagged n b = record { number = n; padded = b }

unfoldable pub flagged_at : List ℕ → Bool → Cursor → Result (Read Flagged) Refusal
flagged_at s true c =
    and_then (unread (read_int_packed_lem s c)) (λ n. Ok (up_to (flagged (Some n.value.value) n.value.padded) n.next))
flagged_at s false c = Ok (up_to (flagged None false) c.pos)

-- how many of two hold
unfoldable pub how_many_lem : (one other : Bool) → ℕ
how_many_lem one other = once one + once other

abbrev pub extras : (angular : Option Vector) (frame handle : Option ℕ) (padded : ℕ) → Extras
extras a f h n = record { angular = a; frame = f; handle = h; padded = n }

unfoldable pub extras_at : List ℕ → (physics frame handle : Bool) → Cursor → Result (Read Extras) Refusal
extras_at s physics frame handle c =
    and_then (spin_at s physics c) (λ a.
    and_then (flagged_at s frame (at c a.next)) (λ f.
    and_then (flagged_at s handle (at c f.next)) (λ h.
    Ok (up_to (extras a.value f.value.number h.value.number (how_many_lem f.value.padded h.value.padded)) h.next))))

-- ---- the record
abbrev pub movement : Flags → Pose → Extras → Movement
movement f q x = record {
  location = q.location;
  rotation = q.rotation;
  linear = q.linear;
  angular = x.angular;
  sleep = f.sleep;
  physics = f.physics;
  frame = x.frame;
  handle = x.handle;
  padded = x.padded;
}

unfoldable pub movement_at : List ℕ → RotatorQuantization → VectorQuantization → Cursor → Result (Read Movement) Refusal
movement_at s rotation location c =
    and_then (flags_at s c) (λ f.
    and_then (pose_at s rotation location (at c f.next)) (λ q.
    and_then (extras_at s f.value.physics f.value.frame f.value.handle (at c q.next)) (λ x.
    Ok (up_to (movement f.value q.value x.value) x.next))))

-- `read_rep_movement`, in the first n bits: 1, then 14, then as its parts. The position behind it is the number of bits used.
abbrev pub read_movement : List ℕ → (n : ℕ) → RotatorQuantization → VectorQuantization → Result (Read Movement) Refusal
read_movement s n rotation location = and_then (unread (opened s n)) (movement_at s rotation location)
