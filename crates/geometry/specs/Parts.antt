-- Parts of one kind, one after another: what is read three times for a vector, a normal or a rotation (01, Bits and numbers). A step that is
-- refused ends a read; what follows one that succeeds starts at the position behind it.
use Rattle.std.specs.Prelude.{ℕ, ◌+◌, ◌*◌, ◌/◌, ◌%◌, ◌^◌, ◌<◌, Bool, true, false, List, leb, if◌then◌else◌, Result, Ok, Err}
use Rattle.bits.specs.Bits.{field}
use Rattle.bitio.specs.Reads.{read_bit_lem, read_bits_lem, widest_read}
use Rattle.bitio.specs.Numbers.{read_serialized_int_lem}
use Rattle.bitio.specs.declared.Cursor.{Cursor}
use Rattle.bitio.specs.declared.Read.{Read}
use Rattle.bitio.specs.declared.Refusal as bitio
use Rattle.geometry.specs.declared.Refusal.{Refusal}
use Rattle.geometry.specs.declared.Refusal.TheVariants.{Unread}
use Rattle.geometry.specs.declared.parts.Part.{Part}
use Rattle.geometry.specs.declared.parts.Part.TheVariants.{Bits, Axis, Integer}
use Rattle.geometry.specs.declared.parts.Three.{Three}

-- the cursor at bit p of its window
abbrev pub at : Cursor → (p : ℕ) → Cursor
at c p = record { start = c.start; pos = p; len = c.len }

-- what was read, up to bit p
abbrev pub up_to : {A : Type 0} → A → (p : ℕ) → Read A
up_to x p = record { value = x; next = p }

-- what comes after a step; a refusal passes
unfoldable pub and_then : {A B E : Type 0} → Result A E → (next : A → Result B E) → Result B E
and_then (Ok x) next = next x
and_then (Err r) next = Err r

-- a step of the bit reader; its refusal is of a part that can't be read
unfoldable pub unread : {A : Type 0} → Result A bitio.Refusal → Result A Refusal
unread (Ok x) = Ok x
unread (Err r) = Err (Unread r)

-- a rotation's axis behind its bit: k of w bits if the bit is set, else 0
unfoldable pub axis_after : List ℕ → (w : ℕ) → Cursor → (set : Bool) (p : ℕ) → Result (Read ℕ) bitio.Refusal
axis_after s w c true p = read_bits_lem s (at c p) w
axis_after s w c false p = Ok (up_to 0 p)

abbrev pub axis_at : List ℕ → Cursor → (w : ℕ) → Result (Read ℕ) bitio.Refusal
axis_at s c w = and_then (read_bit_lem s c) (λ bit. axis_after s w c bit.value bit.next)

-- one part at a cursor
unfoldable pub part_at : List ℕ → Part → Cursor → Result (Read ℕ) bitio.Refusal
part_at s (Bits n) c = read_bits_lem s c n
part_at s (Axis w) c = axis_at s c w
part_at s (Integer m) c = read_serialized_int_lem s c m

abbrev pub three : (x y z : ℕ) → Three
three x y z = record { x = x; y = y; z = z }

-- three of them
unfoldable pub three_at : List ℕ → Part → Cursor → Result (Read Three) bitio.Refusal
three_at s part c =
    and_then (part_at s part c) (λ x.
    and_then (part_at s part (at c x.next)) (λ y.
    and_then (part_at s part (at c y.next)) (λ z.
    Ok (up_to (three x.value y.value z.value) z.next))))

-- three numbers of w bits that stand in one, the first lowest
abbrev pub apart : (w x : ℕ) → Three
apart w x = three (field x 0 w) (field x w w) (field x (2 * w) w)

-- the same of a number that was read
unfoldable pub together : (w : ℕ) → Result (Read ℕ) bitio.Refusal → Result (Read Three) bitio.Refusal
together w r = and_then r (λ x. Ok (up_to (apart w x.value) x.next))

-- a vector's components of w bits each: one read if they fit one, else three
unfoldable pub components_at : List ℕ → (w : ℕ) → Cursor → Result (Read Three) bitio.Refusal
components_at s w c = if leb (3 * w) widest_read then together w (read_bits_lem s c (3 * w)) else three_at s (Bits w) c

-- an axis of w bits whose bit is the lowest of x: its number, how many bits it takes, and what stands behind it
abbrev pub axis_in_lem : (x w : ℕ) → ℕ
axis_in_lem x w = field x 1 (x % 2 * w)

abbrev pub axis_bits_lem : (x w : ℕ) → ℕ
axis_bits_lem x w = 1 + x % 2 * w

abbrev pub axis_behind : (x w : ℕ) → ℕ
axis_behind x w = x / 2 ^ axis_bits_lem x w

-- three of them, one behind another, of which the first begins at bit p
abbrev pub axes_in : (x w p : ℕ) → Read Three
axes_in x w p =
    let behind = axis_behind x w in
    let last = axis_behind behind w in
    up_to (three (axis_in_lem x w) (axis_in_lem behind w) (axis_in_lem last w)) (p + axis_bits_lem x w + axis_bits_lem behind w + axis_bits_lem last w)

-- every number of the three is below m
pub record Below (m : ℕ) (t : Three) : Type 0 where
  pub below_x : t.x < m
  pub below_y : t.y < m
  pub below_z : t.z < m
