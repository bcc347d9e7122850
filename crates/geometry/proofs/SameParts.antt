-- Two lists of bytes give the same parts, one behind the other, wherever single reads are the same in both: a read that succeeds ends in the
-- window, and the next one stands there.
use Rattle.std.specs.Prelude.{if◌then◌else◌, Result, Ok, Err, Some, None}
use Prim.Native.Nat.{ℕ, ◌*◌, ◌/◌, ◌%◌, ◌≤◌}
use mathlib.Core.Path.{◌≡◌, refl, sym, ap, ◌∙◌}
use mathlib.Core.Bool.{Bool, true, false, ◌||◌}
use mathlib.Core.List.{List}
use lib.Dec.{leb, eqb}
use lib.Ieee.{Float, binary32, binary64, of_bits}
use Rattle.floats.specs.Numbers.{angle}
use Rattle.bitio.specs.Cursors.{window, at_cursor, position_of}
use Rattle.bitio.specs.Reads.{read_bit_lem, read_bits_lem, widest_read}
use Rattle.bitio.specs.Numbers.{read_int_packed_lem, read_serialized_int_lem}
use Rattle.bitio.proofs.Ends.{bit_ends, bits_ends, packed_ends, serialized_ends}
use Rattle.bitio.proofs.Outside.{same_read, same_bits, same_packed, same_serialized}
use Rattle.bitio.specs.declared.Cursor.{Cursor}
use Rattle.bitio.specs.declared.Read.{Read}
use Rattle.bitio.specs.declared.Refusal as bitio
use Rattle.geometry.specs.Parts.{at, up_to, and_then, unread, axis_after, part_at, three, three_at, apart, together, components_at}
use Rattle.geometry.specs.Vectors.{components, is_finite, checked, vector_of, integer_over, divisor, vector_behind, header_maximum, quantized_at, read_vector, normal_maximum, normal_of_lem, read_normal}
use Rattle.geometry.specs.Rotations.{rotation, rotation_of, rotation_at, read_rotation_lem}
use Rattle.geometry.specs.Movements.{width_of, scale_of, velocity_scale, flags, flags_at, pose, pose_at, spin_at, flagged, flagged_at, how_many_lem, extras, extras_at, movement, movement_at}
use Rattle.geometry.specs.declared.Vector.{Vector}
use Rattle.geometry.specs.declared.Rotation.{Rotation}
use Rattle.geometry.specs.declared.Refusal.{Refusal}
use Rattle.geometry.specs.declared.Refusal.TheVariants.{Unread, NoScale, NotFinite, NoSuchWidth}
use Rattle.geometry.specs.declared.RotatorQuantization.{RotatorQuantization}
use Rattle.geometry.specs.declared.VectorQuantization.{VectorQuantization}
use Rattle.geometry.specs.declared.parts.Part.{Part}
use Rattle.geometry.specs.declared.parts.Part.TheVariants.{Bits, Axis, Integer}
use Rattle.geometry.specs.declared.parts.Three.{Three}

-- ---- two answers that are one: a value that ends at a position of which Fine holds, or a refusal

data Same (Fine : ℕ → Type 0) {X E : Type 0} (a b : Result (Read X) E) : Type 0 where
  given : (x : Read X) → Fine x.next → a ≡ Ok x → b ≡ Ok x → Same Fine a b
  none : (r : E) → a ≡ Err r → b ≡ Err r → Same Fine a b

module _ {Fine : ℕ → Type 0} where
  equal : {X E : Type 0} {a b : Result (Read X) E} → Same Fine a b → a ≡ b
  equal (given x h e f) = e ∙ sym f
  equal (none r e f) = e ∙ sym f

  moved : {X E : Type 0} {a b a' b' : Result (Read X) E} → a ≡ a' → b ≡ b' → Same Fine a' b' → Same Fine a b
  moved k l (given x h e f) = given x h (k ∙ e) (l ∙ f)
  moved k l (none r e f) = none r (k ∙ e) (l ∙ f)

  -- a value that is read in both
  read_in_both : {X E : Type 0} (x : X) (p : ℕ) → Fine p → Same Fine {E = E} (Ok (up_to x p)) (Ok (up_to x p))
  read_in_both x p h = given (up_to x p) h refl refl

  -- by a test
  chosen : {X E : Type 0} (t : Bool) {a b a' b' : Result (Read X) E} → Same Fine a b → Same Fine a' b' → Same Fine (if t then a else a') (if t then b else b')
  chosen true h k = h
  chosen false h k = k

  -- a single read that is the same, and ends well
  one : {X E : Type 0} (a : Result (Read X) E) {b : Result (Read X) E} → a ≡ b → ((x : Read X) → a ≡ Ok x → Fine x.next) → Same Fine a b
  one (Ok x) e h = given x (h x refl) refl (sym e)
  one (Err r) e h = none r refl (sym e)

  -- what follows a part that was read
  past : {X Y E : Type 0} (f g : Read X → Result (Read Y) E) {a b : Result (Read X) E} → Same Fine a b
      → ((x : Read X) → Fine x.next → Same Fine (f x) (g x)) → Same Fine (and_then a f) (and_then b g)
  unfolding and_then
  past f g (given x h e k) next = moved (ap (λ r. and_then r f) e) (ap (λ r. and_then r g) k) (next x h)
  past f g (none r e k) next = none r (ap (λ r. and_then r f) e) (ap (λ r. and_then r g) k)

  of_reader : {X : Type 0} {a b : Result (Read X) bitio.Refusal} → Same Fine a b → Same Fine (unread a) (unread b)
  unfolding unread
  of_reader (given x h e k) = given x h (ap unread e) (ap unread k)
  of_reader (none r e k) = none (Unread r) (ap unread e) (ap unread k)

  -- three numbers as a vector
  checked_same : (v : Read Vector) → Fine v.next → Same Fine (checked v) (checked v)
  unfolding checked
  checked_same v h = chosen (is_finite v.value) (given v h refl refl) (none (NotFinite v.next) refl refl)

  vector_of_lem : (component : ℕ → Float) {a b : Result (Read Three) bitio.Refusal} → Same Fine a b → Same Fine (vector_of component a) (vector_of component b)
  unfolding vector_of
  vector_of_lem component e = past _ _ (of_reader e) (λ t h. checked_same (components component t) h)

-- ---- two lists of bytes

-- Wherever Fine holds, a call at that position makes the same of the window; and it holds throughout the window.
module _ (s t : List ℕ) (c : Cursor) (w : window s c ≡ window t c) (Fine : ℕ → Type 0) (in_window : (p : ℕ) → p ≤ c.len → Fine p)
    (both : (p : ℕ) → Fine p → (A : Type 0) (inside : ℕ → Result A bitio.Refusal) → at_cursor s (at c p) inside ≡ at_cursor t (at c p) inside) where
  -- the window of the cursor at any position is the same one
  there : (p : ℕ) → window s (at c p) ≡ window t (at c p)
  unfolding window
  there p = w

  bit : (p : ℕ) → Fine p → Same Fine (read_bit_lem s (at c p)) (read_bit_lem t (at c p))
  bit p h = one (read_bit_lem s (at c p)) (same_read s t (at c p) (there p) (both p h) (λ x. eqb x 1) 1) (λ x e. in_window x.next (bit_ends s (at c p) x e))

  bits : (n p : ℕ) → Fine p → Same Fine (read_bits_lem s (at c p) n) (read_bits_lem t (at c p) n)
  bits n p h = one (read_bits_lem s (at c p) n) (same_bits s t (at c p) (there p) (both p h) n) (λ x e. in_window x.next (bits_ends s (at c p) n x e))

  integer : (m p : ℕ) → Fine p → Same Fine (read_serialized_int_lem s (at c p) m) (read_serialized_int_lem t (at c p) m)
  integer m p h =
      one (read_serialized_int_lem s (at c p) m) (same_serialized s t (at c p) (there p) (both p h) m) (λ x e. in_window x.next (serialized_ends s (at c p) m x e))

  packed : (p : ℕ) → Fine p → Same Fine (read_int_packed_lem s (at c p)) (read_int_packed_lem t (at c p))
  packed p h =
      one (read_int_packed_lem s (at c p)) (same_packed s t (at c p) (there p) (both p h)) (λ x e. in_window x.next (packed_ends s (at c p) x e))

  axis_after_lem : (n p : ℕ) (b : Bool) (q : ℕ) → Fine q → Same Fine (axis_after s n (at c p) b q) (axis_after t n (at c p) b q)
  unfolding axis_after
  axis_after_lem n p true q h = bits n q h
  axis_after_lem n p false q h = read_in_both 0 q h

  part_same : (part : Part) (p : ℕ) → Fine p → Same Fine (part_at s part (at c p)) (part_at t part (at c p))
  unfolding part_at
  part_same (Bits n) p h = bits n p h
  part_same (Axis n) p h = past _ _ (bit p h) (λ b k. axis_after_lem n p b.value b.next k)
  part_same (Integer m) p h = integer m p h

  three_same : (part : Part) (p : ℕ) → Fine p → Same Fine (three_at s part (at c p)) (three_at t part (at c p))
  unfolding three_at
  three_same part p h =
      past _ _ (part_same part p h) (λ x h₁.
      past _ _ (part_same part x.next h₁) (λ y h₂.
      past _ _ (part_same part y.next h₂) (λ z h₃.
      read_in_both (three x.value y.value z.value) z.next h₃)))

  components_same : (n p : ℕ) → Fine p → Same Fine (components_at s n (at c p)) (components_at t n (at c p))
  unfolding components_at together
  components_same n p h =
      chosen (leb (3 * n) widest_read)
      (past _ _ (bits (3 * n) p h) (λ x k. read_in_both (apart n x.value) x.next k))
      (three_same (Bits n) p h)

  behind_same : (scale n e p : ℕ) → Fine p → Same Fine (vector_behind s scale n e (at c p)) (vector_behind t scale n e (at c p))
  unfolding vector_behind
  behind_same scale n e p h =
      chosen (eqb n 0)
      (chosen (eqb e 0) (vector_of_lem (of_bits binary32) (three_same (Bits 32) p h)) (vector_of_lem (of_bits binary64) (three_same (Bits 64) p h)))
      (vector_of_lem (integer_over n (divisor e scale)) (components_same n p h))

  vector_same : (scale p : ℕ) → Fine p → Same Fine (quantized_at s scale (at c p)) (quantized_at t scale (at c p))
  unfolding quantized_at
  vector_same scale p h =
      past _ _ (of_reader (integer header_maximum p h)) (λ x k. behind_same scale (x.value % 64) (x.value / 64) x.next k)

  rotation_same : (n p : ℕ) → Fine p → Same Fine (rotation_at s n (at c p)) (rotation_at t n (at c p))
  unfolding rotation_of
  rotation_same n p h =
      past _ _ (of_reader (three_same (Axis n) p h)) (λ v k.
      read_in_both (rotation (angle n v.value.x) (angle n v.value.y) (angle n v.value.z)) v.next k)

  -- ---- a movement, stage by stage
  flags_same : (p : ℕ) → Fine p → Same Fine (flags_at s (at c p)) (flags_at t (at c p))
  unfolding flags_at
  flags_same p h =
      past _ _ (of_reader (bit p h)) (λ sleep h₁.
      past _ _ (of_reader (bit sleep.next h₁)) (λ physics h₂.
      past _ _ (of_reader (bit physics.next h₂)) (λ frame h₃.
      past _ _ (of_reader (bit frame.next h₃)) (λ handle h₄.
      read_in_both (flags sleep.value physics.value frame.value handle.value) handle.next h₄))))

  pose_same : (q : RotatorQuantization) (location : VectorQuantization) (p : ℕ) → Fine p
      → Same Fine (pose_at s q location (at c p)) (pose_at t q location (at c p))
  unfolding pose_at
  pose_same q location p h =
      past _ _ (vector_same (scale_of location) p h) (λ x h₁.
      past _ _ (rotation_same (width_of q) x.next h₁) (λ r h₂.
      past _ _ (vector_same velocity_scale r.next h₂) (λ v h₃.
      read_in_both (pose x.value r.value v.value) v.next h₃)))

  spin_same : (b : Bool) (p : ℕ) → Fine p → Same Fine (spin_at s b (at c p)) (spin_at t b (at c p))
  unfolding spin_at
  spin_same true p h = past _ _ (vector_same velocity_scale p h) (λ v k. read_in_both (Some v.value) v.next k)
  spin_same false p h = read_in_both None p h

  number_same : (b : Bool) (p : ℕ) → Fine p → Same Fine (flagged_at s b (at c p)) (flagged_at t b (at c p))
  unfolding flagged_at
  number_same true p h =
      past _ _ (of_reader (packed p h)) (λ n k. read_in_both (flagged (Some n.value.value) n.value.padded) n.next k)
  number_same false p h = read_in_both (flagged None false) p h

  extras_same : (physics frame handle : Bool) (p : ℕ) → Fine p
      → Same Fine (extras_at s physics frame handle (at c p)) (extras_at t physics frame handle (at c p))
  unfolding extras_at
  extras_same physics frame handle p h =
      past _ _ (spin_same physics p h) (λ a h₁.
      past _ _ (number_same frame a.next h₁) (λ f h₂.
      past _ _ (number_same handle f.next h₂) (λ k h₃.
      read_in_both (extras a.value f.value.number k.value.number (how_many_lem f.value.padded k.value.padded)) k.next h₃)))

  -- ---- the calls at the cursor
  module _ (here : Fine c.pos) where
    same_position : position_of s c ≡ position_of t c
    same_position = both c.pos here _ (λ W. Ok c.pos)

    pub same_vector : (scale : ℕ) → read_vector s c scale ≡ read_vector t c scale
    same_vector scale =
        ap (λ (m : Result ℕ bitio.Refusal). and_then (unread m) (λ p. if eqb scale 0 then Err NoScale else quantized_at s scale c)) same_position
        ∙ ap (λ (v : Result (Read Vector) Refusal). and_then (unread (position_of t c)) (λ p. if eqb scale 0 then Err NoScale else v))
        (equal (vector_same scale c.pos here))

    pub same_normal : read_normal s c ≡ read_normal t c
    same_normal = ap normal_of_lem (equal (three_same (Integer normal_maximum) c.pos here))

    pub same_rotation : (n : ℕ) → read_rotation_lem s c n ≡ read_rotation_lem t c n
    same_rotation n =
        ap (λ (m : Result ℕ bitio.Refusal). and_then (unread m) (λ p. if eqb n 8 || eqb n 16 then rotation_at s n c else Err NoSuchWidth)) same_position
        ∙ ap (λ (v : Result (Read Rotation) Refusal). and_then (unread (position_of t c)) (λ p. if eqb n 8 || eqb n 16 then v else Err NoSuchWidth))
        (equal (rotation_same n c.pos here))

    pub same_record : (q : RotatorQuantization) (location : VectorQuantization) → movement_at s q location c ≡ movement_at t q location c
    unfolding movement_at
    same_record q location =
        equal {Fine = Fine}
        (past _ _ (flags_same c.pos here) (λ f h₁.
        past _ _ (pose_same q location f.next h₁) (λ v h₂.
        past _ _ (extras_same f.value.physics f.value.frame f.value.handle v.next h₂) (λ x h₃.
        read_in_both (movement f.value v.value x.value) x.next h₃))))
