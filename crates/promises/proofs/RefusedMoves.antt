-- Vectors, normals, rotations and movements are refused exactly when, and in the order that, document 01 says. Each is a read of parts, one behind
-- the other, and a part is bits that are asked for; so the rules of the whole are those of its parts in order. The theorem on a call is
-- `refused_` and the call's name.
use Rattle.std.specs.Prelude.{Result, Ok, Err}
use Prim.Native.Nat.{ℕ, ◌+◌, ◌*◌, ◌/◌, ◌%◌, ◌≤◌}
use mathlib.Core.Path.{◌≡◌, refl, sym, ap, ◌∙◌}
use mathlib.Core.Bool.{Bool, true, false, not, ◌||◌}
use mathlib.Core.List.{List, [], ◌∷◌, ◌++◌}
use native.Mathlib.Omega.{arith}
use lib.Dec.{leb, eqb}
use lib.Ieee.{Float, binary32, binary64, of_bits}
use borrow.Author.Tests.{leb-true, eqb-true}
use Rattle.bits.specs.Bits.{field}
use Rattle.bits.specs.Refusals.{when, first_of}
use Rattle.bits.proofs.FieldLaws.{field_field}
use Rattle.bits.proofs.Never.{never}
use Rattle.bitio.specs.Cursors.{bits_of, good, window, at_cursor}
use Rattle.bitio.specs.Reads.{read_bits_lem, widest_read}
use Rattle.bitio.proofs.CursorLaws.{good_le}
use Rattle.bitio.proofs.NumberLaws.{log2_is}
use Rattle.bits.proofs.ChoiceLaws.{by_cases}
use Rattle.bitio.specs.declared.Cursor.{Cursor}
use Rattle.bitio.specs.declared.Read.{Read}
use Rattle.bitio.specs.declared.Refusal as bitio
use Rattle.geometry.specs.Parts.{at, up_to, and_then, unread, part_at, three, three_at, together, components_at}
use Rattle.geometry.specs.Vectors.{components, is_finite, checked, vector_of, integer_over, divisor, vector_behind, header_maximum, quantized_at, read_vector, normal_maximum, normal_of_lem, read_normal}
use Rattle.geometry.specs.Rotations.{rotation_of, rotation_at, read_rotation_lem}
use Rattle.geometry.specs.declared.Vector.{Vector}
use Rattle.geometry.specs.declared.Rotation.{Rotation}
use Rattle.geometry.specs.declared.Refusal.{Refusal}
use Rattle.geometry.specs.declared.Refusal.TheVariants.{NotFinite}
use Rattle.geometry.specs.declared.parts.Part.TheVariants.{Bits, Integer}
use Rattle.geometry.specs.declared.parts.Three.{Three}
use Rattle.promises.specs.MoveOrders.{refusal_of, lacking, vector_header_bits, component_bits, component_parts, component_of, not_finite, header_of, behind_vector, vector_parts, vector_rules, normal_axis_bits, normal_rules, axis_parts, rotation_parts, rotation_rules}
use Rattle.promises.proofs.Standing.{Seen, upto, first_or, refusal_in, seen, seen_refusal, first_or_lem, first_append, ending, then_asked}
use Rattle.promises.proofs.Parts.{bits_asked, integer_asked, then_axis, three_read}

-- ---- vectors

-- three finite components, or 12
checked_seen : (v : Read Vector) → seen (checked v) ≡ first_or (when (not (is_finite v.value)) (NotFinite v.next) ∷ []) (upto v.next)
unfolding checked first_or
checked_seen v = by_cases (is_finite v.value) (λ e. simp e) (λ e. simp e)

module _ (s : List ℕ) (c : Cursor) (fits : c.start + c.len ≤ bits_of s) where
  module _ (f : ℕ → Float) (q : ℕ) (h : q ≤ c.len) where
    -- three reads
    apart_seen : (n : ℕ) → n ≤ 64
        → seen (vector_of f (three_at s (Bits n) (at c q)))
        ≡ first_or (lacking c.len q (n ∷ n ∷ n ∷ []) ++ (not_finite f (window s c) n q ∷ [])) (upto (q + n + n + n))
    unfolding vector_of and_then unread part_at
    apart_seen n small =
        three_read s c (Bits n) n (λ t. seen (vector_of f t)) (λ r. refl) (λ p k. bits_asked s c fits n p small k) q h
        (first_or (not_finite f (window s c) n q ∷ []) (upto (q + n + n + n)))
        (checked_seen (components f (up_to (three (field (window s c) q n) (field (window s c) (q + n) n) (field (window s c) (q + n + n) n)) (q + n + n + n))))
        ∙ sym (first_append (lacking c.len q (n ∷ n ∷ n ∷ [])) (not_finite f (window s c) n q ∷ []) (upto (q + n + n + n)))

    -- one read of all three
    in_one : (w : ℕ) (b : Result (Read ℕ) bitio.Refusal)
        → vector_of f (together w b) ≡ and_then (unread b) (λ x. checked (components f (up_to (three (field x.value 0 w) (field x.value w w) (field x.value (2 * w) w)) x.next)))
    unfolding vector_of together and_then unread
    in_one w (Ok x) = refl
    in_one w (Err r) = refl

    joined_seen : (w : ℕ) → 3 * w ≤ 64
        → seen (vector_of f (together w (read_bits_lem s (at c q) (3 * w))))
        ≡ first_or (lacking c.len q (3 * w ∷ []) ++ (not_finite f (window s c) w q ∷ [])) (upto (q + w + w + w))
    unfolding first_or
    joined_seen w small =
        let W = window s c in
        let x = field W q (3 * w) in
        let a : field x 0 w ≡ field W q w = field_field W q (3 * w) 0 w (omega arith) ∙ ap (λ (k : ℕ). field W k w) (let k : q + 0 ≡ q = omega arith in k) in
        let b : field x w w ≡ field W (q + w) w = field_field W q (3 * w) w w (omega arith) in
        let d : field x (2 * w) w ≡ field W (q + w + w) w
        = field_field W q (3 * w) (2 * w) w (omega arith) ∙ ap (λ (k : ℕ). field W k w) (let k : q + 2 * w ≡ q + w + w = omega arith in k) in
        let p : q + 3 * w ≡ q + w + w + w = omega arith in
        ap seen (in_one w (read_bits_lem s (at c q) (3 * w)))
        ∙ then_asked seen (λ r. refl) c.len q (3 * w) (up_to x (q + 3 * w)) _ _ _ (bits_asked s c fits (3 * w) q small h) (λ k.
        (λ i. seen (checked (components f (up_to (three (a i) (b i) (d i)) (p i)))))
        ∙ checked_seen (components f (up_to (three (field W q w) (field W (q + w) w) (field W (q + w + w) w)) (q + w + w + w))))

  -- the components behind a header h
  behind_seen : (scale n q : ℕ) → q ≤ c.len
      → seen (vector_behind s scale (n % 64) (n / 64) (at c q))
      ≡ first_or (lacking c.len q (component_parts n) ++ (not_finite (component_of n scale) (window s c) (component_bits n) q ∷ []))
      (upto (q + component_bits n + component_bits n + component_bits n))
  unfolding vector_behind components_at component_parts component_bits component_of
  behind_seen scale n q h = go (eqb (n % 64) 0) refl (eqb (n / 64) 0) refl (leb (3 * (n % 64)) widest_read) refl
    where
      go : (a : Bool) → eqb (n % 64) 0 ≡ a → (b : Bool) → eqb (n / 64) 0 ≡ b → (d : Bool) → leb (3 * (n % 64)) widest_read ≡ d
          → seen (vector_behind s scale (n % 64) (n / 64) (at c q))
          ≡ first_or (lacking c.len q (component_parts n) ++ (not_finite (component_of n scale) (window s c) (component_bits n) q ∷ []))
          (upto (q + component_bits n + component_bits n + component_bits n))
      go true e true f d g = simp (e, f) (apart_seen (of_bits binary32) q h 32 (omega arith))
      go true e false f d g = simp (e, f) (apart_seen (of_bits binary64) q h 64 (omega arith))
      go false e b f true g = simp (e, g) (joined_seen (integer_over (n % 64) (divisor (n / 64) scale)) q h (n % 64) (leb-true _ _ g))
      go false e b f false g = simp (e, g) (apart_seen (integer_over (n % 64) (divisor (n / 64) scale)) q h (n % 64) (omega arith))

  -- A vector at bit p is its parts, and 12 behind them.
  pub vector_seen : (scale p : ℕ) → p ≤ c.len
      → seen (quantized_at s scale (at c p)) ≡ first_or (vector_parts (window s c) c.len scale p) (upto (behind_vector (window s c) p))
  unfolding quantized_at first_or
  vector_seen scale p h =
      then_asked seen (λ r. refl) c.len p vector_header_bits (up_to (header_of (window s c) p) (p + vector_header_bits)) _ _ _
      (integer_asked s c fits header_maximum vector_header_bits p (log2_is 7 128 (omega arith) (omega arith) (omega arith)) (omega arith) (λ e. omega arith) h)
      (λ k. behind_seen scale (header_of (window s c) p) (p + vector_header_bits) k)

  -- ---- normals and rotations at bit p

  normal_seen : (p : ℕ) → p ≤ c.len
      → seen (normal_of_lem (three_at s (Integer normal_maximum) (at c p))) ≡ ending c.len p (normal_axis_bits ∷ normal_axis_bits ∷ normal_axis_bits ∷ [])
  unfolding normal_of_lem and_then unread part_at
  normal_seen p h =
      three_read s c (Integer normal_maximum) normal_axis_bits (λ t. seen (normal_of_lem t)) (λ r. refl)
      (λ q k. integer_asked s c fits normal_maximum normal_axis_bits q (log2_is 16 65536 (omega arith) (omega arith) (omega arith)) (omega arith) (λ e. omega arith) k)
      p h (upto (p + normal_axis_bits + normal_axis_bits + normal_axis_bits)) refl

  -- A rotation at bit p is its bits and the numbers behind those that are set.
  pub rotation_seen : (w p : ℕ) → w ≤ 64 → p ≤ c.len → seen (rotation_at s w (at c p)) ≡ ending c.len p (rotation_parts (window s c) w p)
  unfolding rotation_of three_at part_at axis_parts first_or and_then unread
  rotation_seen w p small h =
      let view : Result (Read Three) bitio.Refusal → Seen = λ t. seen (rotation_of w t) in
      then_axis view (λ r. refl) s c fits w small 2 p _ h (λ x q₁ h₁.
      then_axis view (λ r. refl) s c fits w small 1 q₁ _ h₁ (λ y q₂ h₂.
      then_axis view (λ r. refl) s c fits w small 0 q₂ _ h₂ (λ z q₃ h₃. refl)))

-- ---- the definitions of the calls

module _ (s : List ℕ) (c : Cursor) where
  pub vector_order : (scale : ℕ) → refusal_of (read_vector s c scale) ≡ first_of (vector_rules s c scale)
  unfolding at_cursor first_of and_then unread
  vector_order scale =
      by_cases (good s c)
      (λ g. by_cases (eqb scale 0)
      (λ e. simp (g, e))
      (λ e. simp (g, e)
      (seen_refusal (quantized_at s scale c) ∙ ap refusal_in (vector_seen s c (good_le s c g).1 scale c.pos (good_le s c g).0)
      ∙ first_or_lem (vector_parts (window s c) c.len scale c.pos) _)))
      (λ g. simp g)

  pub normal_order : refusal_of (read_normal s c) ≡ first_of (normal_rules s c)
  unfolding at_cursor first_of normal_of_lem three_at part_at and_then unread
  normal_order =
      by_cases (good s c)
      (λ g. seen_refusal (read_normal s c) ∙ ap refusal_in (normal_seen s c (good_le s c g).1 c.pos (good_le s c g).0)
      ∙ first_or_lem (lacking c.len c.pos (normal_axis_bits ∷ normal_axis_bits ∷ normal_axis_bits ∷ [])) _ ∙ simp g)
      (λ g. simp g)

  pub rotation_order : (w : ℕ) → refusal_of (read_rotation_lem s c w) ≡ first_of (rotation_rules s c w)
  unfolding at_cursor first_of and_then unread
  rotation_order w =
      by_cases (good s c)
      (λ g. by_cases (eqb w 8 || eqb w 16)
      (λ e. simp (g, e)
      (seen_refusal (rotation_at s w c) ∙ ap refusal_in (rotation_seen s c (good_le s c g).1 w c.pos (narrow w e) (good_le s c g).0)
      ∙ first_or_lem (lacking c.len c.pos (rotation_parts (window s c) w c.pos)) _))
      (λ e. simp (g, e)))
      (λ g. simp g)
    where
      narrow : (w : ℕ) → eqb w 8 || eqb w 16 ≡ true → w ≤ 64
      narrow w e = by_cases (eqb w 8) (λ k. let i = eqb-true w 8 k in omega arith) (λ k. by_cases (eqb w 16) (λ l. let i = eqb-true w 16 l in omega arith) (λ l. let f : false ≡ true = simp (k, l) at e in let z : ◌≡◌ {A = ℕ} 0 1 = cc in never z))

-- ---- the calls

module _ (s : List ℕ) (c : Cursor) where
  -- A vector gives 14, 11, 7, 12.
  pub refused_read_vector_net_quantize : (scale : ℕ) (r : Result (Read Vector) Refusal) → r ≡ read_vector s c scale → refusal_of r ≡ first_of (vector_rules s c scale)
  refused_read_vector_net_quantize scale r f = ap refusal_of f ∙ vector_order s c scale

  -- A normal gives 14, 7.
  pub refused_read_fixed_vector_normal : (r : Result (Read Vector) Refusal) → r ≡ read_normal s c → refusal_of r ≡ first_of (normal_rules s c)
  refused_read_fixed_vector_normal r f = ap refusal_of f ∙ normal_order s c

  -- A rotation gives 14, 13, 7.
  pub refused_read_rotation : (w : ℕ) (r : Result (Read Rotation) Refusal) → r ≡ read_rotation_lem s c w → refusal_of r ≡ first_of (rotation_rules s c w)
  refused_read_rotation w r f = ap refusal_of f ∙ rotation_order s c w
