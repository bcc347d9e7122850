-- A movement that is refused at a packed number had the number's five bytes in its window: only a packed number is refused 40 bits behind its
-- start, and it is read in the window.
use Rattle.std.specs.Prelude.{if◌then◌else◌, Result, Ok, Err, IfErr}
use mathlib.Core.Path.{◌≡◌, refl}
use mathlib.Core.Bool.{Bool, true, false}
use mathlib.Core.List.{List}
use Prim.Native.Nat.{ℕ, ◌+◌, ◌*◌, ◌/◌, ◌%◌, ◌^◌, ◌≤◌}
use native.Mathlib.Omega.{arith}
use lib.Dec.{leb, ltb, eqb}
use lib.Ieee.{Float, binary32, binary64, of_bits}
use Rattle.bits.specs.Bits.{field}
use Rattle.bits.specs.Packed.{Packed, packed}
use Rattle.bits.specs.declared.Broken.TheVariants as Num
use Rattle.std.specs.Prelude.{Ok, Err}
use Rattle.bits.proofs.PackedLaws.{goes_on_within, overflows_within}
use Rattle.bits.specs.Sizes.{longest_window}
use Rattle.bitio.specs.Cursors.{bits_of, good, window, at_cursor, asking, opened, skipped, seen}
use borrow.Author.Tests.{ltb-false}
use Rattle.bitio.specs.Reads.{read_bit_lem, read_bits_lem, widest_read}
use Rattle.bitio.specs.Numbers.{packed_answer, read_int_packed_lem, serialized_top, serialized_at, read_serialized_int_lem, log2}
use Rattle.bitio.specs.declared.Cursor.{Cursor}
use Rattle.bitio.specs.declared.Read.{Read}
use Rattle.bitio.specs.declared.Refusal.{Refusal}
use Rattle.bitio.specs.declared.Refusal.TheVariants as R0
use Rattle.bitio.proofs.CursorLaws.{good_le}
use Rattle.geometry.specs.Vectors.{is_finite, components, checked, vector_of, vector_behind, quantized_at}
use Rattle.geometry.specs.Rotations.{rotation_of, rotation_at}
use Rattle.geometry.specs.Movements.{width_of, scale_of, velocity_scale, flags_at, pose_at, spin_at, flagged_at, extras_at, movement_at, read_movement}
use Rattle.geometry.specs.Parts.{at, and_then, unread, axis_after, part_at, three_at, together, components_at}
use Rattle.geometry.specs.declared.Refusal as Geo
use Rattle.geometry.specs.declared.Refusal.TheVariants as G
use Rattle.geometry.specs.declared.Movement.{Movement}
use Rattle.geometry.specs.declared.RotatorQuantization.{RotatorQuantization}
use Rattle.geometry.specs.declared.VectorQuantization.{VectorQuantization}
use Rattle.geometry.specs.declared.parts.Part.{Part}
use Rattle.geometry.specs.declared.parts.Part.TheVariants.{Bits, Axis, Integer}
use Rattle.geometry.specs.declared.parts.Three.{Three}

-- ---- choices and steps

either : {A : Type 0} (Q : A → Type 0) (b : Bool) {x y : A} → Q x → Q y → Q (if b then x else y)
either Q true h k = h
either Q false h k = k

-- what holds of the refusals of a step, and of those of what comes after it, holds of all
then_holds : {A B E : Type 0} (Q : E → Type 0) (a : Result A E) (next : A → Result B E) → IfErr a Q → ((x : A) → IfErr (next x) Q) → IfErr (and_then a next) Q
unfolding and_then
then_holds Q (Ok x) next h k = k x
then_holds Q (Err r) next h k = h

-- ---- a refusal at a packed number has its 40 bits in m bits; another says nothing here

module _ (m : ℕ) where
  abbrev Fits : Refusal → Type 0
  Fits R0.TooLong = Unit
  Fits (R0.TooFew p l n) = Unit
  Fits (R0.GoesOn n) = n + 40 ≤ m
  Fits (R0.Overflows n) = n + 40 ≤ m
  Fits R0.NoMaximum = Unit
  Fits R0.TooMany = Unit
  Fits (R0.Past a b) = Unit

  abbrev pub FitsIn : Geo.Refusal → Type 0
  FitsIn (G.Unread r) = Fits r
  FitsIn G.NoScale = Unit
  FitsIn (G.NotFinite p) = Unit
  FitsIn G.NoSuchWidth = Unit

  -- of an answer of the bit reader, and of one of geometry
  abbrev OnReader : {A : Type 0} → Result A Refusal → Type 0
  OnReader r = IfErr r Fits

  abbrev On : {A : Type 0} → Result A Geo.Refusal → Type 0
  On r = IfErr r FitsIn

  abbrev pub OnMovement : Result (Read Movement) Geo.Refusal → Type 0
  OnMovement r = On r

  of_reader : {A : Type 0} (a : Result A Refusal) → OnReader a → On (unread a)
  unfolding unread
  of_reader (Ok x) h = h
  of_reader (Err r) h = h

  -- ---- reads

  inside_holds : {A : Type 0} (s : List ℕ) (c : Cursor) (inside : ℕ → Result A Refusal) → (good s c ≡ true → OnReader (inside (window s c))) → OnReader (at_cursor s c inside)
  unfolding at_cursor
  inside_holds s c inside k = go (good s c) refl where
    go : (b : Bool) → good s c ≡ b → OnReader (if b then inside (window s c) else Err (R0.Past c.len (bits_of s)))
    go true e = k e
    go false e = tt

  asked : {A : Type 0} (len pos n : ℕ) (enough : Result A Refusal) → OnReader enough → OnReader (asking len pos n enough)
  unfolding asking
  asked len pos n enough h = either OnReader (ltb len (pos + n)) tt h

  bit : (s : List ℕ) (c : Cursor) → OnReader (read_bit_lem s c)
  unfolding seen
  bit s c = go (skipped s c 1) (inside_holds s c _ (λ e. asked c.len c.pos 1 _ tt)) where
    go : (k : Result ℕ Refusal) → OnReader k → OnReader (seen (eqb (field (window s c) c.pos 1) 1) k)
    go (Ok p) h = tt
    go (Err r) h = h

  bits : (s : List ℕ) (c : Cursor) (n : ℕ) → OnReader (read_bits_lem s c n)
  unfolding read_bits_lem
  bits s c n = inside_holds s c _ (λ e. either OnReader (ltb widest_read n) tt (asked c.len c.pos n _ tt))

  integer : (s : List ℕ) (c : Cursor) (max : ℕ) → OnReader (read_serialized_int_lem s c max)
  unfolding serialized_at serialized_top
  integer s c max =
      inside_holds s c _ (λ e.
      either OnReader (eqb max 0) tt
      (asked c.len c.pos (log2 max) _
      (either OnReader (leb max (field (window s c) c.pos (log2 max) + 2 ^ log2 max)) tt (asked c.len (c.pos + log2 max) 1 _ tt))))

  number : (s : List ℕ) (c : Cursor) → c.len ≤ m → OnReader (read_int_packed_lem s c)
  unfolding packed_answer
  number s c h = inside_holds s c _ (λ e. go (good_le s c e).0 (packed (window s c) c.len c.pos) refl) where
    go : c.pos ≤ c.len → (x : Packed) → packed (window s c) c.len c.pos ≡ x → OnReader (packed_answer c.len c.pos x)
    go l (Ok x) e = tt
    go l (Err (Num.Cut n)) e = tt
    go l (Err Num.GoesOn) e = omega (arith, goes_on_within (window s c) c.len c.pos l e, h)
    go l (Err Num.Overflows) e = omega (arith, overflows_within (window s c) c.len c.pos l e, h)

  -- ---- three parts

  axis : (s : List ℕ) (w : ℕ) (c : Cursor) (b : Bool) (p : ℕ) → OnReader (axis_after s w c b p)
  unfolding axis_after
  axis s w c true p = bits s (at c p) w
  axis s w c false p = tt

  part : (s : List ℕ) (x : Part) (c : Cursor) → OnReader (part_at s x c)
  unfolding part_at
  part s (Bits n) c = bits s c n
  part s (Axis w) c = then_holds Fits (read_bit_lem s c) _ (bit s c) (λ b. axis s w c b.value b.next)
  part s (Integer max) c = integer s c max

  three : (s : List ℕ) (x : Part) (c : Cursor) → OnReader (three_at s x c)
  unfolding three_at
  three s x c =
      then_holds Fits (part_at s x c) _ (part s x c) (λ a.
      then_holds Fits (part_at s x (at c a.next)) _ (part s x (at c a.next)) (λ b.
      then_holds Fits (part_at s x (at c b.next)) _ (part s x (at c b.next)) (λ d. tt)))

  components_hold : (s : List ℕ) (w : ℕ) (c : Cursor) → OnReader (components_at s w c)
  unfolding components_at together
  components_hold s w c =
      either OnReader (leb (3 * w) widest_read)
      (then_holds Fits (read_bits_lem s c (3 * w)) _ (bits s c (3 * w)) (λ x. tt))
      (three s (Bits w) c)

  -- ---- vectors and rotations

  vector_of_lem : (component : ℕ → Float) (r : Result (Read Three) Refusal) → OnReader r → On (vector_of component r)
  unfolding vector_of checked
  vector_of_lem f r h =
      then_holds FitsIn (unread r) _ (of_reader r h) (λ t.
      either On (is_finite (components f t).value) tt tt)

  behind_header : (s : List ℕ) (scale w e : ℕ) (c : Cursor) → On (vector_behind s scale w e c)
  unfolding vector_behind
  behind_header s scale w e c =
      either On (eqb w 0)
      (either On (eqb e 0) (vector_of_lem (of_bits binary32) (three_at s (Bits 32) c) (three s (Bits 32) c)) (vector_of_lem (of_bits binary64) (three_at s (Bits 64) c) (three s (Bits 64) c)))
      (vector_of_lem _ (components_at s w c) (components_hold s w c))

  vector : (s : List ℕ) (scale : ℕ) (c : Cursor) → On (quantized_at s scale c)
  unfolding quantized_at
  vector s scale c =
      then_holds FitsIn (unread (read_serialized_int_lem s c 128)) _ (of_reader _ (integer s c 128)) (λ h.
      behind_header s scale (h.value % 64) (h.value / 64) (at c h.next))

  rotation_of_lem : (w : ℕ) (r : Result (Read Three) Refusal) → OnReader r → On (rotation_of w r)
  unfolding rotation_of
  rotation_of_lem w r h = then_holds FitsIn (unread r) _ (of_reader r h) (λ t. tt)

  rotation : (s : List ℕ) (w : ℕ) (c : Cursor) → On (rotation_at s w c)
  rotation s w c = rotation_of_lem w (three_at s (Axis w) c) (three s (Axis w) c)

  -- ---- the parts of a movement, in a window of at most m bits

  flags : (s : List ℕ) (c : Cursor) → On (flags_at s c)
  unfolding flags_at
  flags s c =
      then_holds FitsIn (unread (read_bit_lem s c)) _ (of_reader _ (bit s c)) (λ x.
      then_holds FitsIn (unread (read_bit_lem s (at c x.next))) _ (of_reader _ (bit s (at c x.next))) (λ y.
      then_holds FitsIn (unread (read_bit_lem s (at c y.next))) _ (of_reader _ (bit s (at c y.next))) (λ z.
      then_holds FitsIn (unread (read_bit_lem s (at c z.next))) _ (of_reader _ (bit s (at c z.next))) (λ w. tt))))

  pose : (s : List ℕ) (k : RotatorQuantization) (l : VectorQuantization) (c : Cursor) → On (pose_at s k l c)
  unfolding pose_at
  pose s k l c =
      then_holds FitsIn (quantized_at s (scale_of l) c) _ (vector s (scale_of l) c) (λ x.
      then_holds FitsIn (rotation_at s (width_of k) (at c x.next)) _ (rotation s (width_of k) (at c x.next)) (λ y.
      then_holds FitsIn (quantized_at s velocity_scale (at c y.next)) _ (vector s velocity_scale (at c y.next)) (λ z. tt)))

  spin : (s : List ℕ) (b : Bool) (c : Cursor) → On (spin_at s b c)
  unfolding spin_at
  spin s true c = then_holds FitsIn (quantized_at s velocity_scale c) _ (vector s velocity_scale c) (λ x. tt)
  spin s false c = tt

  counted : (s : List ℕ) (b : Bool) (c : Cursor) → c.len ≤ m → On (flagged_at s b c)
  unfolding flagged_at
  counted s true c l = then_holds FitsIn (unread (read_int_packed_lem s c)) _ (of_reader _ (number s c l)) (λ x. tt)
  counted s false c l = tt

  extras : (s : List ℕ) (physics frame handle : Bool) (c : Cursor) → c.len ≤ m → On (extras_at s physics frame handle c)
  unfolding extras_at
  extras s physics frame handle c l =
      then_holds FitsIn (spin_at s physics c) _ (spin s physics c) (λ x.
      then_holds FitsIn (flagged_at s frame (at c x.next)) _ (counted s frame (at c x.next) l) (λ y.
      then_holds FitsIn (flagged_at s handle (at c y.next)) _ (counted s handle (at c y.next) l) (λ z. tt)))

  record_fits : (s : List ℕ) (k : RotatorQuantization) (l : VectorQuantization) (c : Cursor) → c.len ≤ m → OnMovement (movement_at s k l c)
  unfolding movement_at
  record_fits s k l c h =
      then_holds FitsIn (flags_at s c) _ (flags s c) (λ f.
      then_holds FitsIn (pose_at s k l (at c f.next)) _ (pose s k l (at c f.next)) (λ q.
      then_holds FitsIn (extras_at s f.value.physics f.value.frame f.value.handle (at c q.next)) _ (extras s f.value.physics f.value.frame f.value.handle (at c q.next) h) (λ x. tt)))

-- A movement refused at a packed number has the number's 40 bits in the longest window.
pub movement_fits : (s : List ℕ) (n : ℕ) (k : RotatorQuantization) (l : VectorQuantization) → OnMovement longest_window (read_movement s n k l)
unfolding opened and_then unread
movement_fits s n k l = go (ltb longest_window n) refl where
  go : (b : Bool) → ltb longest_window n ≡ b
      → OnMovement longest_window (and_then (unread (if b then Err R0.TooLong else (if ltb (bits_of s) n then Err (R0.Past n (bits_of s)) else Ok (record { start = 0; pos = 0; len = n })))) (movement_at s k l))
  go true e = tt
  go false e =
      either (λ (x : Result Cursor Refusal). OnMovement longest_window (and_then (unread x) (movement_at s k l))) (ltb (bits_of s) n) tt
      (record_fits longest_window s k l (record { start = 0; pos = 0; len = n }) (ltb-false _ _ e))
