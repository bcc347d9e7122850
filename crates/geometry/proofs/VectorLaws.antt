-- The laws of vectors: what each way through the reads gives.
use Rattle.std.specs.Prelude.{if◌then◌else◌, Result, Ok, Err}
use Prim.Native.Nat.{ℕ, ◌/◌, ◌%◌, ◌^◌, ◌≤◌, ◌<◌}
use mathlib.Core.Path.{◌≡◌, sym, ap, ◌∙◌}
use mathlib.Core.Bool.{Bool, true, false}
use mathlib.Core.List.{List}
use native.Mathlib.Omega.{arith}
use lib.Dec.{eqb}
use lib.Ieee.{Float, binary32, binary64, of_bits}
use lib.Ieee.Scale.{finite}
use borrow.Author.Tests.{eq-eqb, ne_eqb}
use Rattle.bits.specs.TwosComplement.{twos}
use Rattle.bits.proofs.TwosLaws.{twos_bound}
use Rattle.floats.proofs.Finite.{quotient_finite}
use Rattle.bitio.specs.Reads.{read_bits_lem}
use Rattle.bitio.specs.Numbers.{read_serialized_int_lem}
use Rattle.bitio.specs.declared.Cursor.{Cursor}
use Rattle.bitio.specs.declared.Read.{Read}
use Rattle.bitio.specs.declared.Refusal as bitio
use Rattle.geometry.specs.Parts.{at, and_then, unread, three_at, components_at, Below}
use Rattle.geometry.specs.Vectors.{components, checked, vector_of, integer_over, divisor, vector_behind, header_maximum, quantized_at}
use Rattle.geometry.proofs.RoomLaws.{power_maximum}
use Rattle.geometry.specs.declared.Vector.{Vector}
use Rattle.geometry.specs.declared.Refusal.{Refusal}
use Rattle.geometry.specs.declared.Refusal.TheVariants.{Unread, NotFinite}
use Rattle.geometry.specs.declared.parts.Part.TheVariants.{Bits}
use Rattle.geometry.specs.declared.parts.Three.{Three}

-- ---- what comes after a step of the bit reader
module _ {A B : Type 0} {a : Result A bitio.Refusal} (next : A → Result B Refusal) where
  pub onward : {x : A} {v : Result B Refusal} → Ok x ≡ a → v ≡ next x → v ≡ and_then (unread a) next
  unfolding and_then unread
  onward e k = let e' = sym e in rw e' k

  pub halted : {r : bitio.Refusal} {v : Result B Refusal} → Err r ≡ a → v ≡ Err (Unread r) → v ≡ and_then (unread a) next
  unfolding and_then unread
  halted e k = let e' = sym e in rw e' k

-- ---- the test of three components
module _ (v : Read Vector) where
  pub first_infinite : finite v.value.x ≡ false → Err (NotFinite v.next) ≡ checked v
  unfolding checked
  first_infinite h = rw h

  pub second_infinite : finite v.value.x ≡ true → finite v.value.y ≡ false → Err (NotFinite v.next) ≡ checked v
  unfolding checked
  second_infinite h k = rw (h, k)

  pub third_infinite : finite v.value.x ≡ true → finite v.value.y ≡ true → finite v.value.z ≡ false → Err (NotFinite v.next) ≡ checked v
  unfolding checked
  third_infinite h k l = rw (h, k, l)

  pub all_finite : finite v.value.x ≡ true → finite v.value.y ≡ true → finite v.value.z ≡ true → Ok v ≡ checked v
  unfolding checked
  all_finite h k l = rw (h, k, l)

-- ---- three integers of w bits over d: every quotient is finite
fine : (w d x : ℕ) → 1 ≤ w → w ≤ 63 → 0 < d → d < 2 ^ 32 → x < 2 ^ w → finite (integer_over w d x) ≡ true
fine w d x lo hi D E f = quotient_finite (twos w x) d (twos_bound w x lo hi f) D (omega arith)

integers_checked : (w d : ℕ) (t : Read Three) → 1 ≤ w → w ≤ 63 → 0 < d → d < 2 ^ 32 → Below (2 ^ w) t.value
    → Ok (components (integer_over w d) t) ≡ checked (components (integer_over w d) t)
integers_checked w d t lo hi D E b =
    all_finite (components (integer_over w d) t) (fine w d t.value.x lo hi D E b.below_x) (fine w d t.value.y lo hi D E b.below_y) (fine w d t.value.z lo hi D E b.below_z)

-- ---- the divisor
pub divisor_pos : (e d : ℕ) {k : ℕ} → 0 < d → k ≡ divisor e d → 0 < k
unfolding divisor
divisor_pos e d h g = rw g (go (eqb e 0))
  where
    go : (t : Bool) → 0 < (if t then 1 else d)
    go true = omega arith
    go false = h

-- ---- behind a header
module _ (s : List ℕ) (scale w e : ℕ) (c : Cursor) where
  pub singles_behind : {v : Result (Read Vector) Refusal} → w ≡ 0 → e ≡ 0 → v ≡ vector_of (of_bits binary32) (three_at s (Bits 32) c)
      → v ≡ vector_behind s scale w e c
  unfolding vector_behind
  singles_behind hw he ev = ev ∙ sym (simp (eq-eqb w 0 hw, eq-eqb e 0 he))

  pub doubles_behind : {v : Result (Read Vector) Refusal} → w ≡ 0 → (e ≡ 0 → ⊥) → v ≡ vector_of (of_bits binary64) (three_at s (Bits 64) c)
      → v ≡ vector_behind s scale w e c
  unfolding vector_behind
  doubles_behind hw he ev = ev ∙ sym (simp (eq-eqb w 0 hw, ne_eqb e 0 he))

  pub integers_behind : {d : ℕ} {v : Result (Read Vector) Refusal} → (w ≡ 0 → ⊥) → d ≡ divisor e scale
      → v ≡ vector_of (integer_over w d) (components_at s w c) → v ≡ vector_behind s scale w e c
  unfolding vector_behind
  integers_behind hw ed ev =
      ev ∙ ap (λ (k : ℕ). vector_of (integer_over w k) (components_at s w c)) ed ∙ sym (simp (ne_eqb w 0 hw))

-- ---- a vector whose components are refused, or are read
module _ (f : ℕ → Float) {r : Result (Read Three) bitio.Refusal} where
  pub vector_refused : {q : bitio.Refusal} {v : Result (Read Vector) Refusal} → Err q ≡ r → v ≡ Err (Unread q) → v ≡ vector_of f r
  unfolding vector_of
  vector_refused e k = halted _ e k

  pub vector_read : {t : Read Three} {v : Result (Read Vector) Refusal} → Ok t ≡ r → v ≡ checked (components f t) → v ≡ vector_of f r
  unfolding vector_of
  vector_read e k = onward _ e k

pub integers_read : (w d : ℕ) {r : Result (Read Three) bitio.Refusal} {t : Read Three} {v : Read Vector} → 1 ≤ w → w ≤ 63 → 0 < d → d < 2 ^ 32
    → Below (2 ^ w) t.value → Ok t ≡ r → v ≡ components (integer_over w d) t → Ok v ≡ vector_of (integer_over w d) r
integers_read w d {t = t} lo hi D E b e ev = ap Ok ev ∙ vector_read (integer_over w d) e (integers_checked w d t lo hi D E b)

-- ---- a header is seven bits
header_bits_lem : (s : List ℕ) (c : Cursor) → read_serialized_int_lem s c header_maximum ≡ read_bits_lem s c 7
header_bits_lem s c = power_maximum s c 7 (omega arith)

pub by_seven_bits : (s : List ℕ) (scale : ℕ) (c : Cursor)
    → quantized_at s scale c ≡ and_then (unread (read_bits_lem s c 7)) (λ h. vector_behind s scale (h.value % 64) (h.value / 64) (at c h.next))
unfolding quantized_at
by_seven_bits s scale c =
    ap (λ (r : Result (Read ℕ) bitio.Refusal). and_then (unread r) (λ h. vector_behind s scale (h.value % 64) (h.value / 64) (at c h.next)))
    (header_bits_lem s c)
