-- Quantized vectors and fixed normals (01, Bits and numbers).
use Rattle.std.specs.Prelude.{Bool, ℕ, ◌/◌, ◌%◌, ◌&&◌, List, eqb, Float, if◌then◌else◌, Result, Ok, Err}
use Rattle.std.specs.Float.{binary32, binary64}
use Rattle.std.specs.Float.Ieee.{of_bits}
use Rattle.std.specs.Float.Ieee.Scale.{finite}
use Rattle.bits.specs.TwosComplement.{twos}
use Rattle.floats.specs.Numbers.{quotient, normal_axis_lem}
use Rattle.bitio.specs.Cursors.{position_of}
use Rattle.bitio.specs.Numbers.{read_serialized_int_lem}
use Rattle.bitio.specs.declared.Cursor.{Cursor}
use Rattle.bitio.specs.declared.Read.{Read}
use Rattle.bitio.specs.declared.Refusal as bitio
use Rattle.geometry.specs.Parts.{at, up_to, and_then, unread, three_at, components_at}
use Rattle.geometry.specs.declared.Vector.{Vector}
use Rattle.geometry.specs.declared.Refusal.{Refusal}
use Rattle.geometry.specs.declared.Refusal.TheVariants.{NoScale, NotFinite}
use Rattle.geometry.specs.declared.parts.Part.TheVariants.{Bits, Integer}
use Rattle.geometry.specs.declared.parts.Three.{Three}

abbrev pub vector : (x y z : Float) → Vector
vector x y z = record { x = x; y = y; z = z }

-- what three components stand for, each by its number
abbrev pub components : (component : ℕ → Float) → Read Three → Read Vector
components component t = up_to (vector (component t.value.x) (component t.value.y) (component t.value.z)) t.next

-- none of a vector's components is a NaN or infinite
abbrev pub is_finite : Vector → Bool
is_finite v = finite v.x && finite v.y && finite v.z

-- a vector that was read: 12 if one of its components is a NaN or infinite
unfoldable pub checked : Read Vector → Result (Read Vector) Refusal
checked v = if is_finite v.value then Ok v else Err (NotFinite v.next)

-- the vector of three components, each with the bits of its number
unfoldable pub vector_of : (component : ℕ → Float) → Result (Read Three) bitio.Refusal → Result (Read Vector) Refusal
vector_of component r = and_then (unread r) (λ t. checked (components component t))

-- an integer of w bits over d
abbrev pub integer_over : (w d x : ℕ) → Float
integer_over w d x = quotient (twos w x) d

-- what the integers of a vector are divided by
unfoldable pub divisor : (e scale : ℕ) → ℕ
divisor e scale = if eqb e 0 then 1 else scale

-- the components behind a header of width w and rest e: floats of 32 or 64 bits where w is 0, else integers of w bits
unfoldable pub vector_behind : List ℕ → (scale w e : ℕ) → Cursor → Result (Read Vector) Refusal
vector_behind s scale w e c =
    if eqb w 0 then
    (if eqb e 0 then vector_of (of_bits binary32) (three_at s (Bits 32) c) else vector_of (of_bits binary64) (three_at s (Bits 64) c)) else
    vector_of (integer_over w (divisor e scale)) (components_at s w c)

-- the maximum of a header, a serialized integer
abbrev pub header_maximum : ℕ
header_maximum = 128

-- a quantized vector at a cursor: the low six bits of its header are the width w, the rest is e
unfoldable pub quantized_at : List ℕ → (scale : ℕ) → Cursor → Result (Read Vector) Refusal
quantized_at s scale c =
    and_then (unread (read_serialized_int_lem s c header_maximum)) (λ h.
    vector_behind s scale (h.value % 64) (h.value / 64) (at c h.next))

-- `read_vector_net_quantize`: 14 for a bad cursor, then 11, before any read
abbrev pub read_vector : List ℕ → Cursor → (scale : ℕ) → Result (Read Vector) Refusal
read_vector s c scale = and_then (unread (position_of s c)) (λ p. if eqb scale 0 then Err NoScale else quantized_at s scale c)

-- the normal of three axes
unfoldable pub normal_of_lem : Result (Read Three) bitio.Refusal → Result (Read Vector) Refusal
normal_of_lem r = and_then (unread r) (λ t. Ok (components normal_axis_lem t))

-- the maximum of an axis, a serialized integer
abbrev pub normal_maximum : ℕ
normal_maximum = 65536

-- `read_fixed_vector_normal`
abbrev pub read_normal : List ℕ → Cursor → Result (Read Vector) Refusal
read_normal s c = normal_of_lem (three_at s (Integer normal_maximum) c)
