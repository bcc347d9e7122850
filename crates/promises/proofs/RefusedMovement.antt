-- A movement is refused exactly when, and in the order that, document 01 says: 1, 14, then as its parts, in their order. For it is opened as a
-- reader is and then reads its parts, each of which adds its own rules behind those before it.
use Rattle.std.specs.Prelude.{if◌then◌else◌, Option, Some, None, Result, Ok, Err}
use Prim.Native.Nat.{ℕ, suc, ◌+◌, ◌*◌, ◌%◌, ◌≤◌}
use mathlib.Core.Path.{◌≡◌, refl, sym, ap, ◌∙◌, subst}
use mathlib.Core.Bool.{Bool, true, false}
use mathlib.Core.List.{List, [], ◌∷◌, ◌++◌, map}
use native.Mathlib.Omega.{arith}
use lib.Dec.{leb, ltb, eqb}
use borrow.Author.Tests.{ltb-false}
use Rattle.bits.specs.Packed.{Packed, most_bytes, packed}
use Rattle.bits.specs.Refusals.{Rule, first_of}
use Rattle.bits.proofs.Never.{never}
use Rattle.bits.specs.Sizes.{longest_window}
use Rattle.bitio.specs.Cursors.{bits_of, window, opened}
use Rattle.bitio.specs.Numbers.{packed_answer, read_int_packed_lem}
use Rattle.bitio.specs.Reads.{read_bit_lem, widest_read}
use Rattle.bitio.proofs.CursorLaws.{good_true, at_good}
use Rattle.bits.proofs.ChoiceLaws.{by_cases}
use Rattle.bitio.specs.declared.Cursor.{Cursor}
use Rattle.bitio.specs.declared.PackedNumber.{PackedNumber}
use Rattle.bitio.specs.declared.Read.{Read}
use Rattle.bitio.specs.declared.Refusal as bitio
use Rattle.geometry.specs.Parts as parts
use Rattle.geometry.specs.Parts.{at, up_to, and_then}
use Rattle.geometry.specs.Movements.{width_of, scale_of, velocity_scale, flags, flags_at, pose_at, spin_at, flagged, flagged_at, extras_at, movement, movement_at, read_movement}
use Rattle.geometry.specs.Rotations.{rotation_at}
use Rattle.geometry.specs.Vectors.{quantized_at}
use Rattle.geometry.specs.declared.Vector.{Vector}
use Rattle.geometry.specs.declared.Rotation.{Rotation}
use Rattle.geometry.specs.declared.Movement.{Movement}
use Rattle.geometry.specs.declared.Refusal.{Refusal}
use Rattle.geometry.specs.declared.RotatorQuantization.{RotatorQuantization}
use Rattle.geometry.specs.declared.RotatorQuantization.TheVariants.{ByteComponents, ShortComponents}
use Rattle.geometry.specs.declared.VectorQuantization.{VectorQuantization}
use Rattle.geometry.specs.declared.movements.Flags.{Flags}
use Rattle.geometry.specs.declared.movements.Pose.{Pose}
use Rattle.geometry.specs.declared.movements.Flagged.{Flagged}
use Rattle.geometry.specs.declared.movements.Extras.{Extras}
use Rattle.promises.specs.ReadOrders.{following, packed_parts}
use Rattle.promises.specs.MoveOrders.{refusal_of, unread, lacking, behind_all, vector_header_bits, component_bits, component_parts, header_of, behind_vector, vector_parts, is_set, rotation_parts, number_parts, behind_number, handle_bit, movement_parts, movement_rules}
use Rattle.promises.proofs.Standing.{Seen, stops, upto, first_or, refusal_in, seen, seen_refusal, first_or_lem, first_append, passes_front, lacking_none, then_asked, read_on}
use Rattle.promises.proofs.Parts.{bit_asked}
use Rattle.promises.proofs.RefusedNumbers.{Tested, fine, lacks, sixth, large, packed_tested}
use Rattle.promises.proofs.RefusedMoves.{vector_seen, rotation_seen}

-- a packed number, seen from outside
abbrev seen_packed : Result (Read PackedNumber) bitio.Refusal → Seen
seen_packed r = seen (parts.unread r)

-- ---- packed numbers

number_parts_lem : (W len p n : ℕ) (x : Packed) → Tested W len p n x
    → seen_packed (packed_answer len p x) ≡ first_or (map unread (packed_parts W len p n)) (upto (p + 8 * suc n))
unfolding packed_answer first_or parts.unread
number_parts_lem W len p n x (fine e h f g k) = simp (f, g, k, e)
number_parts_lem W len p n x (lacks e f) = simp (e, f)
number_parts_lem W len p n x (sixth f g) = simp (f, g)
number_parts_lem W len p n x (large f g k) = simp (f, g, k)

-- a number that was read ends in the window
number_inside : (W len p n q : ℕ) (x : Packed) → Tested W len p n x → seen_packed (packed_answer len p x) ≡ upto q → q ≤ len
unfolding packed_answer parts.unread
number_inside W len p n q x (fine {m = m} e h f g k) i = let j : p + 8 * m ≡ q = cc in omega arith
number_inside W len p n q x (lacks e f) i = let z : ◌≡◌ {A = ℕ} 0 1 = cc in never z
number_inside W len p n q x (sixth f g) i = let z : ◌≡◌ {A = ℕ} 0 1 = cc in never z
number_inside W len p n q x (large f g k) i = let z : ◌≡◌ {A = ℕ} 0 1 = cc in never z

-- the bit behind a vector's parts
components_end : (q n : ℕ) → behind_all q (component_parts n) ≡ q + component_bits n + component_bits n + component_bits n
unfolding component_parts component_bits
components_end q n = go (eqb (n % 64) 0) refl (leb (3 * (n % 64)) widest_read) refl
  where
    go : (a : Bool) → eqb (n % 64) 0 ≡ a → (b : Bool) → leb (3 * (n % 64)) widest_read ≡ b
        → behind_all q (component_parts n) ≡ q + component_bits n + component_bits n + component_bits n
    go true e b f = simp e
    go false e true f = simp (e, f) (omega arith)
    go false e false f = simp (e, f)

-- a rotation's width
narrow : (k : RotatorQuantization) → width_of k ≤ 64
unfolding width_of
narrow ByteComponents = omega arith
narrow ShortComponents = omega arith

-- ---- reading on behind a part of a movement

module _ (s : List ℕ) (c : Cursor) (fits : c.start + c.len ≤ bits_of s) where
  number_seen : (p : ℕ) → p ≤ c.len → seen_packed (read_int_packed_lem s (at c p)) ≡ first_or (number_parts (window s c) c.len p) (upto (behind_number (window s c) c.len p))
  unfolding window
  number_seen p h =
      let W = window s c in
      ap seen_packed (at_good s (at c p) _ (good_true s (at c p) h fits))
      ∙ number_parts_lem W c.len p (following most_bytes W c.len p) (packed W c.len p) (packed_tested W c.len p)

  number_ends : (p q : ℕ) → p ≤ c.len → seen_packed (read_int_packed_lem s (at c p)) ≡ upto q → q ≤ c.len
  unfolding window
  number_ends p q h e =
      let W = window s c in
      number_inside W c.len p (following most_bytes W c.len p) q (packed W c.len p) (packed_tested W c.len p)
      (sym (ap seen_packed (at_good s (at c p) _ (good_true s (at c p) h fits))) ∙ e)

  module _ {A : Type 0} (view : Result A Refusal → Seen) (shows : (r : Refusal) → view (Err r) ≡ stops r) where
    then_bit : (p : ℕ) (next : Read Bool → Result A Refusal) (z : Seen) → p ≤ c.len → (p + 1 ≤ c.len → view (next (up_to (is_set (window s c) p) (p + 1))) ≡ z)
        → view (and_then (parts.unread (read_bit_lem s (at c p))) next) ≡ first_or (lacking c.len p (1 ∷ [])) z
    then_bit p next z h f =
        then_asked view shows c.len p 1 (up_to (is_set (window s c) p) (p + 1)) (read_bit_lem s (at c p)) next z (bit_asked s c fits p h) f

    then_vector : (scale p : ℕ) (next : Read Vector → Result A Refusal) (more : List (Rule Refusal)) (z : Seen) → p ≤ c.len
        → ((v : Vector) → behind_vector (window s c) p ≤ c.len → view (next (up_to v (behind_vector (window s c) p))) ≡ first_or more z)
        → view (and_then (quantized_at s scale (at c p)) next) ≡ first_or (vector_parts (window s c) c.len scale p ++ more) z
    then_vector scale p next more z h f =
        let W = window s c in
        let widths = vector_header_bits ∷ component_parts (header_of W p) in
        read_on view shows (quantized_at s scale (at c p)) next
        (vector_parts W c.len scale p) more (behind_vector W p) z (vector_seen s c fits scale p h)
        (λ v k e. f v (subst (λ (q : ℕ). q ≤ c.len) (components_end (p + vector_header_bits) (header_of W p)) (lacking_none c.len p widths h (passes_front (lacking c.len p widths) _ k))))

    then_rotation : (w p : ℕ) (next : Read Rotation → Result A Refusal) (more : List (Rule Refusal)) (z : Seen) → w ≤ 64 → p ≤ c.len
        → let widths = rotation_parts (window s c) w p in
        ((v : Rotation) → behind_all p widths ≤ c.len → view (next (up_to v (behind_all p widths))) ≡ first_or more z)
        → view (and_then (rotation_at s w (at c p)) next) ≡ first_or (lacking c.len p widths ++ more) z
    then_rotation w p next more z small h f =
        let widths = rotation_parts (window s c) w p in
        read_on view shows (rotation_at s w (at c p)) next
        (lacking c.len p widths) more (behind_all p widths) z (rotation_seen s c fits w p small h) (λ v k e. f v (lacking_none c.len p widths h k))

    then_packed : (p : ℕ) (next : Read PackedNumber → Result A Refusal) (more : List (Rule Refusal)) (z : Seen) → p ≤ c.len
        → ((n : PackedNumber) → behind_number (window s c) c.len p ≤ c.len → view (next (up_to n (behind_number (window s c) c.len p))) ≡ first_or more z)
        → view (and_then (parts.unread (read_int_packed_lem s (at c p))) next) ≡ first_or (number_parts (window s c) c.len p ++ more) z
    then_packed p next more z h f =
        read_on view shows (parts.unread (read_int_packed_lem s (at c p))) next
        (number_parts (window s c) c.len p) more (behind_number (window s c) c.len p) z (number_seen p h)
        (λ n k e. f n (number_ends p (behind_number (window s c) c.len p) h e))

  -- what a flag announces
  module _ {A : Type 0} (view : Result A Refusal → Seen) (shows : (r : Refusal) → view (Err r) ≡ stops r) where
    then_spin : (b : Bool) (p : ℕ) (next : Read (Option Vector) → Result A Refusal) (more : List (Rule Refusal)) (z : Seen) → p ≤ c.len
        → let q = if b then behind_vector (window s c) p else p in
        ((v : Option Vector) → q ≤ c.len → view (next (up_to v q)) ≡ first_or more z)
        → view (and_then (spin_at s b (at c p)) next)
        ≡ first_or ((if b then vector_parts (window s c) c.len velocity_scale p else []) ++ more) z
    unfolding and_then spin_at
    then_spin true p next more z h f =
        then_vector (λ x. view (and_then x next)) (λ r. shows r) velocity_scale p (λ v. Ok (up_to (Some v.value) v.next)) more z h (λ v k. f (Some v) k)
    then_spin false p next more z h f = f None h

    then_number : (b : Bool) (p : ℕ) (next : Read Flagged → Result A Refusal) (more : List (Rule Refusal)) (z : Seen) → p ≤ c.len
        → let q = if b then behind_number (window s c) c.len p else p in
        ((v : Flagged) → q ≤ c.len → view (next (up_to v q)) ≡ first_or more z)
        → view (and_then (flagged_at s b (at c p)) next)
        ≡ first_or ((if b then number_parts (window s c) c.len p else []) ++ more) z
    unfolding and_then flagged_at
    then_number true p next more z h f =
        then_packed (λ x. view (and_then x next)) (λ r. shows r) p (λ n. Ok (up_to (flagged (Some n.value.value) n.value.padded) n.next)) more z h
        (λ n k. f (flagged (Some n.value) n.padded) k)
    then_number false p next more z h f = f (flagged None false) h

  -- ---- the stages of a movement, at bit p

  extras_seen : (view : Result (Read Extras) Refusal → Seen) → ((r : Refusal) → view (Err r) ≡ stops r) → ((x : Extras) (q : ℕ) → view (Ok (up_to x q)) ≡ upto q)
      → (physics frame handle : Bool) (p : ℕ) → p ≤ c.len →
      let W = window s c in
      let p₁ = if physics then behind_vector W p else p in
      let p₂ = if frame then behind_number W c.len p₁ else p₁ in
      let p₃ = if handle then behind_number W c.len p₂ else p₂ in
      view (extras_at s physics frame handle (at c p))
      ≡ first_or
      ((if physics then vector_parts W c.len velocity_scale p else []) ++
      ((if frame then number_parts W c.len p₁ else []) ++ (if handle then number_parts W c.len p₂ else []))) (upto p₃)
  unfolding extras_at first_or
  extras_seen view shows reads physics frame handle p h =
      let W = window s c in
      let p₁ = if physics then behind_vector W p else p in
      let p₂ = if frame then behind_number W c.len p₁ else p₁ in
      let p₃ = if handle then behind_number W c.len p₂ else p₂ in
      let last = if handle then number_parts W c.len p₂ else [] in
      then_spin view shows physics p _ ((if frame then number_parts W c.len p₁ else []) ++ last) (upto p₃) h (λ a h₁.
      then_number view shows frame p₁ _ last (upto p₃) h₁ (λ f h₂.
      then_number view shows handle p₂ _ [] (upto p₃) h₂ (λ k h₃. reads _ p₃) ∙ first_append last [] (upto p₃)))

  pose_seen : (view : Result (Read Pose) Refusal → Seen) → ((r : Refusal) → view (Err r) ≡ stops r)
      → (rotation : RotatorQuantization) (location : VectorQuantization) (p : ℕ) (more : List (Rule Refusal)) (z : Seen) → p ≤ c.len →
      let W = window s c in
      let w = width_of rotation in
      let p₁ = behind_vector W p in
      let p₂ = behind_all p₁ (rotation_parts W w p₁) in
      let p₃ = behind_vector W p₂ in
      ((q : Pose) → p₃ ≤ c.len → view (Ok (up_to q p₃)) ≡ first_or more z) → view (pose_at s rotation location (at c p))
      ≡ first_or
      (vector_parts W c.len (scale_of location) p ++
      (lacking c.len p₁ (rotation_parts W w p₁) ++ (vector_parts W c.len velocity_scale p₂ ++ more))) z
  unfolding pose_at
  pose_seen view shows rotation location p more z h f =
      let W = window s c in
      let w = width_of rotation in
      let p₁ = behind_vector W p in
      let p₂ = behind_all p₁ (rotation_parts W w p₁) in
      then_vector view shows (scale_of location) p _ _ z h (λ l h₁.
      then_rotation view shows w p₁ _ _ z (narrow rotation) h₁ (λ r h₂.
      then_vector view shows velocity_scale p₂ _ more z h₂ (λ v h₃. f _ h₃)))

-- the reader of the first n bits
abbrev front : (n : ℕ) → Cursor
front n = record { start = 0; pos = 0; len = n }

module _ (s : List ℕ) (n : ℕ) (fits : 0 + n ≤ bits_of s) where
  flags_seen : (view : Result (Read Flags) Refusal → Seen) → ((r : Refusal) → view (Err r) ≡ stops r) → (z : Seen) →
      let W = window s (front n) in
      (4 ≤ n → view (Ok (up_to (flags (is_set W 0) (is_set W 1) (is_set W 2) (is_set W 3)) 4)) ≡ z)
      → view (flags_at s (front n)) ≡ first_or (lacking n 0 (1 ∷ 1 ∷ 1 ∷ 1 ∷ [])) z
  unfolding flags_at first_or
  flags_seen view shows z f =
      then_bit s (front n) fits view shows 0 _ _ (omega arith) (λ h₁.
      then_bit s (front n) fits view shows 1 _ _ h₁ (λ h₂.
      then_bit s (front n) fits view shows 2 _ _ h₂ (λ h₃.
      then_bit s (front n) fits view shows 3 _ _ h₃ (λ h₄. f h₄))))

  -- what stands behind the flags, and behind the pose
  abbrev behind_pose : Flags → Read Pose → Result (Read Movement) Refusal
  behind_pose f q =
      and_then (extras_at s f.physics f.frame f.handle (at (front n) q.next)) (λ x. Ok (up_to (movement f q.value x.value) x.next))

  abbrev behind_flags : RotatorQuantization → VectorQuantization → Read Flags → Result (Read Movement) Refusal
  behind_flags rotation location f = and_then (pose_at s rotation location (at (front n) f.next)) (behind_pose f.value)

  -- the whole record
  record_seen : (rotation : RotatorQuantization) (location : VectorQuantization) →
      let W = window s (front n) in
      let w = width_of rotation in
      seen (movement_at s rotation location (front n))
      ≡ first_or (movement_parts W n w (scale_of location)) (upto (if is_set W 3 then behind_number W n (handle_bit W n w) else handle_bit W n w))
  unfolding movement_at and_then
  record_seen rotation location =
      let W = window s (front n) in
      let f = flags (is_set W 0) (is_set W 1) (is_set W 2) (is_set W 3) in
      flags_seen (λ x. seen (and_then x (behind_flags rotation location))) (λ r. refl) _ (λ h₁.
      pose_seen s (front n) fits (λ x. seen (and_then x (behind_pose f))) (λ r. refl) rotation location 4 _ _ h₁ (λ q h₂.
      extras_seen s (front n) fits (λ x. seen (and_then x (λ x. Ok (up_to (movement f q x.value) x.next)))) (λ r. refl) (λ x p. refl)
      (is_set W 1) (is_set W 2) (is_set W 3) _ h₂))
      ∙ sym (first_append (lacking n 0 (1 ∷ 1 ∷ 1 ∷ 1 ∷ [])) _ _)

-- ---- `read_rep_movement`

pub movement_order : (s : List ℕ) (n : ℕ) (rotation : RotatorQuantization) (location : VectorQuantization)
    → refusal_of (read_movement s n rotation location) ≡ first_of (movement_rules s n rotation location)
unfolding opened and_then parts.unread first_of
movement_order s n rotation location =
    by_cases (ltb longest_window n)
    (λ long. simp long)
    (λ long. by_cases (ltb (bits_of s) n)
    (λ past. simp (long, past))
    (λ past. simp (long, past)
    (seen_refusal (movement_at s rotation location (front n))
    ∙ ap refusal_in (record_seen s n (let h = ltb-false (bits_of s) n past in omega (arith, h)) rotation location)
    ∙ first_or_lem (movement_parts (window s (front n)) n (width_of rotation) (scale_of location)) _)))

-- A movement gives 1, 14, then what its parts give.
pub refused_read_rep_movement : (s : List ℕ) (n : ℕ) (rotation : RotatorQuantization) (location : VectorQuantization) (r : Result (Read Movement) Refusal)
    → r ≡ read_movement s n rotation location → refusal_of r ≡ first_of (movement_rules s n rotation location)
refused_read_rep_movement s n rotation location r f = ap refusal_of f ∙ movement_order s n rotation location
