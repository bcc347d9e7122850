-- The order of the refusals of the vector, normal, rotation and movement readers (01, Refusal numbers): the first whose condition holds is given,
-- and none if none holds. A read of several parts lacks bits at the first part that the window cuts. W are the window's len bits, p a bit of it.
use Rattle.std.specs.Prelude.{ℕ, zero, suc, ◌+◌, ◌*◌, ◌/◌, ◌%◌, Bool, not, ◌&&◌, ◌||◌, List, [], ◌∷◌, ◌++◌, map, leb, ltb, eqb, Float, if◌then◌else◌, Result, Ok, Err}
use Rattle.std.proofs.Math.Option.{Option, none, some}
use Rattle.std.specs.Float.{binary32, binary64}
use Rattle.std.specs.Float.Ieee.{of_bits}
use Rattle.std.specs.Float.Ieee.Scale.{finite}
use Rattle.bits.specs.Bits.{field}
use Rattle.bits.specs.Packed.{most_bytes}
use Rattle.bits.specs.Refusals.{Rule, when}
use Rattle.bits.specs.TwosComplement.{twos}
use Rattle.floats.specs.Numbers.{quotient}
use Rattle.bitio.specs.Cursors.{good, window, bad_cursor_lem}
use Rattle.bitio.specs.Order.{opening_rules}
use Rattle.bitio.specs.Reads.{widest_read}
use Rattle.bitio.specs.declared.Cursor.{Cursor}
use Rattle.bitio.specs.declared.Refusal as bitio
use Rattle.bitio.specs.declared.Refusal.TheVariants.{TooFew}
use Rattle.geometry.specs.Movements.{width_of, scale_of, velocity_scale}
use Rattle.geometry.specs.Vectors.{divisor}
use Rattle.geometry.specs.declared.Refusal.{Refusal}
use Rattle.geometry.specs.declared.Refusal.TheVariants.{Unread, NoScale, NotFinite, NoSuchWidth}
use Rattle.geometry.specs.declared.RotatorQuantization.{RotatorQuantization}
use Rattle.geometry.specs.declared.VectorQuantization.{VectorQuantization}
use Rattle.promises.specs.ReadOrders.{following, packed_parts}

-- the refusal that an answer is
abbrev pub refusal_of : {A : Type 0} → Result A Refusal → Option Refusal
refusal_of (Ok x) = none
refusal_of (Err r) = some r

-- ---- parts

-- a refusal of the bit reader
abbrev pub unread : Rule bitio.Refusal → Rule Refusal
unread r = when r.holds (Unread r.gives)

abbrev pub bad_before : List ℕ → Cursor → Rule Refusal
bad_before s c = when (not (good s c)) (Unread (bad_cursor_lem s c))

-- parts of these widths, one behind the other from bit p on: 7 at the first that isn't there
abbrev pub lacking : (len p : ℕ) (widths : List ℕ) → List (Rule Refusal)
lacking len p [] = []
lacking len p (n ∷ ns) = when (ltb len (p + n)) (Unread (TooFew p len n)) ∷ lacking len (p + n) ns

-- the bit behind them
abbrev pub behind_all : (p : ℕ) (widths : List ℕ) → ℕ
behind_all p [] = p
behind_all p (n ∷ ns) = behind_all (p + n) ns

-- ---- vectors

abbrev pub vector_header_bits : ℕ
vector_header_bits = 7

-- the bits of a component behind the header h: its low six bits, or where they are 0 a float's
unfoldable pub component_bits : (h : ℕ) → ℕ
component_bits h = if eqb (h % 64) 0 then (if eqb (h / 64) 0 then 32 else 64) else h % 64

-- the parts behind the header: three integers are one part where one read gives them
unfoldable pub component_parts : (h : ℕ) → List ℕ
component_parts h =
    if not (eqb (h % 64) 0) && leb (3 * (h % 64)) widest_read then 3 * (h % 64) ∷ [] else component_bits h ∷ component_bits h ∷ component_bits h ∷ []

-- what x stands for as a component
unfoldable pub component_of : (h scale x : ℕ) → Float
component_of h scale x =
    if eqb (h % 64) 0 then (if eqb (h / 64) 0 then of_bits binary32 x else of_bits binary64 x) else quotient (twos (h % 64) x) (divisor (h / 64) scale)

-- three components of n bits at bit q: 12 if one of them is a NaN or infinite
abbrev pub not_finite : (component : ℕ → Float) (W n q : ℕ) → Rule Refusal
not_finite f W n q =
    when (not (finite (f (field W q n)) && finite (f (field W (q + n) n)) && finite (f (field W (q + n + n) n)))) (NotFinite (q + n + n + n))

-- the header at bit p, and the bit behind the vector
abbrev pub header_of : (W p : ℕ) → ℕ
header_of W p = field W p vector_header_bits

abbrev pub behind_vector : (W p : ℕ) → ℕ
behind_vector W p =
    p + vector_header_bits + component_bits (header_of W p) + component_bits (header_of W p) + component_bits (header_of W p)

-- 7, then 12
abbrev pub vector_parts : (W len scale p : ℕ) → List (Rule Refusal)
vector_parts W len scale p =
    lacking len p (vector_header_bits ∷ component_parts (header_of W p)) ++
    (not_finite (component_of (header_of W p) scale) W (component_bits (header_of W p)) (p + vector_header_bits) ∷ [])

-- vectors: 14, 11, 7, 12
abbrev pub vector_rules : List ℕ → Cursor → (scale : ℕ) → List (Rule Refusal)
vector_rules s c scale = bad_before s c ∷ when (eqb scale 0) NoScale ∷ vector_parts (window s c) c.len scale c.pos

-- ---- normals: 14, 7

abbrev pub normal_axis_bits : ℕ
normal_axis_bits = 16

abbrev pub normal_rules : List ℕ → Cursor → List (Rule Refusal)
normal_rules s c = bad_before s c ∷ lacking c.len c.pos (normal_axis_bits ∷ normal_axis_bits ∷ normal_axis_bits ∷ [])

-- ---- rotations

-- the bit at p is set
abbrev pub is_set : (W p : ℕ) → Bool
is_set W p = eqb (field W p 1) 1

-- the parts of some axes of width w: a bit, and where it is set w bits
unfoldable pub axis_parts : (axes W w p : ℕ) → List ℕ
axis_parts zero W w p = []
axis_parts (suc k) W w p = if is_set W p then 1 ∷ w ∷ axis_parts k W w (p + 1 + w) else 1 ∷ axis_parts k W w (p + 1)

abbrev pub rotation_parts : (W w p : ℕ) → List ℕ
rotation_parts W w p = axis_parts 3 W w p

-- rotations: 14, 13, 7
abbrev pub rotation_rules : List ℕ → Cursor → (w : ℕ) → List (Rule Refusal)
rotation_rules s c w =
    bad_before s c ∷ when (not (eqb w 8 || eqb w 16)) NoSuchWidth ∷ lacking c.len c.pos (rotation_parts (window s c) w c.pos)

-- ---- movements

-- a packed number: 7, 8, 9; and the bit behind it
abbrev pub number_parts : (W len p : ℕ) → List (Rule Refusal)
number_parts W len p = map unread (packed_parts W len p (following most_bytes W len p))

abbrev pub behind_number : (W len p : ℕ) → ℕ
behind_number W len p = p + 8 * suc (following most_bytes W len p)

-- where the parts behind the four flags start: location, rotation, linear velocity; angular velocity, frame and handle where their flag is set
abbrev pub location_bit : ℕ
location_bit = 4

abbrev pub rotation_bit : (W : ℕ) → ℕ
rotation_bit W = behind_vector W location_bit

abbrev pub linear_bit : (W w : ℕ) → ℕ
linear_bit W w = behind_all (rotation_bit W) (rotation_parts W w (rotation_bit W))

abbrev pub angular_bit : (W w : ℕ) → ℕ
angular_bit W w = behind_vector W (linear_bit W w)

abbrev pub frame_bit : (W w : ℕ) → ℕ
frame_bit W w = if is_set W 1 then behind_vector W (angular_bit W w) else angular_bit W w

abbrev pub handle_bit : (W len w : ℕ) → ℕ
handle_bit W len w = if is_set W 2 then behind_number W len (frame_bit W w) else frame_bit W w

abbrev pub movement_parts : (W len w scale : ℕ) → List (Rule Refusal)
movement_parts W len w scale =
    lacking len 0 (1 ∷ 1 ∷ 1 ∷ 1 ∷ []) ++
    (vector_parts W len scale location_bit ++
    (lacking len (rotation_bit W) (rotation_parts W w (rotation_bit W)) ++
    (vector_parts W len velocity_scale (linear_bit W w) ++
    ((if is_set W 1 then vector_parts W len velocity_scale (angular_bit W w) else []) ++
    ((if is_set W 2 then number_parts W len (frame_bit W w) else []) ++
    (if is_set W 3 then number_parts W len (handle_bit W len w) else []))))))

-- movements, in the first n bits: 1, 14, then as the parts
abbrev pub movement_rules : List ℕ → (n : ℕ) → RotatorQuantization → VectorQuantization → List (Rule Refusal)
movement_rules s n rotation location =
    map unread (opening_rules s n) ++ movement_parts (window s (record { start = 0; pos = 0; len = n })) n (width_of rotation) (scale_of location)
