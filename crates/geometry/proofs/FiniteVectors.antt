-- An accepted vector's components are finite, as `checked` asks it of all three; a normal's are, as a quotient of two small integers is.
use Rattle.std.specs.Prelude.{if◌then◌else◌, Result, Ok, Err, IfOk}
use Prim.Native.Nat.{ℕ, ◌/◌, ◌%◌}
use mathlib.Core.Path.{◌≡◌, refl, sym, subst}
use mathlib.Core.Bool.{Bool, true, false, ◌&&◌}
use mathlib.Core.List.{List}
use native.Mathlib.Omega.{arith}
use lib.Dec.{eqb}
use lib.Ieee.{Float}
use lib.Ieee.Scale.{finite}
use Rattle.floats.proofs.Finite.{normal_finite}
use Rattle.bits.proofs.ChoiceLaws.{by_cases}
use Rattle.bitio.specs.Cursors.{position_of}
use Rattle.bitio.specs.Numbers.{read_serialized_int_lem}
use Rattle.bitio.specs.declared.Cursor.{Cursor}
use Rattle.bitio.specs.declared.Read.{Read}
use Rattle.bitio.specs.declared.Refusal as bitio
use Rattle.geometry.specs.Finite.{FiniteVector}
use Rattle.geometry.specs.Parts.{at, unread, three_at}
use Rattle.geometry.specs.Vectors.{components, checked, vector_of, vector_behind, header_maximum, quantized_at, read_vector, normal_maximum, normal_of_lem, read_normal}
use Rattle.geometry.proofs.PartLaws.{then_holds, was_read, below_integers}
use Rattle.geometry.specs.declared.Refusal.{Refusal}
use Rattle.geometry.specs.declared.Refusal.TheVariants.{NotFinite}
use Rattle.geometry.specs.declared.Vector.{Vector}
use Rattle.geometry.specs.declared.parts.Part.TheVariants.{Integer}
use Rattle.geometry.specs.declared.parts.Three.{Three}

-- what is said of an answer
abbrev FiniteOk : Result (Read Vector) Refusal → Type 0
FiniteOk r = IfOk r (λ v. FiniteVector v.value)

checked_finite : (v : Read Vector) → FiniteOk (checked v)
unfolding checked
checked_finite v = go (finite v.value.x) refl (finite v.value.y) refl (finite v.value.z) refl
  where
    go : (a : Bool) → finite v.value.x ≡ a → (b : Bool) → finite v.value.y ≡ b → (d : Bool) → finite v.value.z ≡ d
        → FiniteOk (if a && b && d then Ok v else Err (NotFinite v.next))
    go true h true k true l = record { finite_x = h; finite_y = k; finite_z = l }
    go true h true k false l = tt
    go true h false k d l = tt
    go false h b k d l = tt

three_finite : (f : ℕ → Float) (r : Result (Read Three) bitio.Refusal) → FiniteOk (vector_of f r)
unfolding vector_of
three_finite f r = then_holds FiniteOk (λ q. tt) (unread r) _ (λ t e. checked_finite (components f t))

module _ (s : List ℕ) (scale : ℕ) where
  behind_finite : (w e : ℕ) (c : Cursor) → FiniteOk (vector_behind s scale w e c)
  unfolding vector_behind
  behind_finite w e c =
      by_cases (eqb w 0)
      (λ a. by_cases (eqb e 0) (λ b. rw (a, b) (three_finite _ _)) (λ b. rw (a, b) (three_finite _ _)))
      (λ a. rw a (three_finite _ _))

  quantized_holds : (c : Cursor) → FiniteOk (quantized_at s scale c)
  unfolding quantized_at
  quantized_holds c =
      then_holds FiniteOk (λ q. tt) (unread (read_serialized_int_lem s c header_maximum)) _ (λ h e.
      behind_finite (h.value % 64) (h.value / 64) (at c h.next))

  pub quantized_finite : (c : Cursor) (v : Read Vector) → quantized_at s scale c ≡ Ok v → FiniteVector v.value
  quantized_finite c v e = subst FiniteOk e (quantized_holds c)

  -- An accepted vector has finite components.
  pub vector_finite : (c : Cursor) (v : Read Vector) → read_vector s c scale ≡ Ok v → FiniteVector v.value
  vector_finite c v e =
      subst FiniteOk e
      (then_holds FiniteOk (λ q. tt) (unread (position_of s c)) _ (λ p k.
      by_cases (eqb scale 0) (λ a. rw a tt) (λ a. rw a (quantized_holds c))))

-- An accepted normal has finite components.
pub fixed_finite : (s : List ℕ) (c : Cursor) (v : Read Vector) → read_normal s c ≡ Ok v → FiniteVector v.value
unfolding normal_of_lem
fixed_finite s c v e =
    subst FiniteOk e
    (then_holds FiniteOk (λ q. tt) (unread (three_at s (Integer normal_maximum) c)) _ (λ t k.
    let b = below_integers s c normal_maximum (omega arith) (omega arith) (sym (was_read _ t k)) in
    record { finite_x = normal_finite t.value.x b.below_x; finite_y = normal_finite t.value.y b.below_y; finite_z = normal_finite t.value.z b.below_z }))
