-- An accepted movement is sound: its vectors are finite and its rotation is exact, as each of them was read, and what is read behind one leaves it
-- alone.
use Rattle.std.specs.Prelude.{Result, Ok, Option, IfOk}
use Prim.Native.Nat.{ℕ, ◌≤◌}
use mathlib.Core.Path.{◌≡◌, subst}
use mathlib.Core.Bool.{Bool, true, false}
use mathlib.Core.List.{List}
use native.Mathlib.Omega.{arith}
use Rattle.bitio.specs.Cursors.{opened}
use Rattle.bitio.specs.declared.Cursor.{Cursor}
use Rattle.bitio.specs.declared.Read.{Read}
use Rattle.geometry.specs.Finite.{FiniteVector, ExactRotation, FiniteSpin, SoundMovement}
use Rattle.geometry.specs.Parts.{at, unread}
use Rattle.geometry.specs.Vectors.{quantized_at}
use Rattle.geometry.specs.Rotations.{rotation_at}
use Rattle.geometry.specs.Movements.{width_of, scale_of, velocity_scale, flags_at, pose_at, spin_at, flagged_at, extras_at, movement_at, read_movement}
use Rattle.geometry.proofs.ExactAngles.{at_short_width}
use Rattle.geometry.proofs.FiniteVectors.{quantized_finite}
use Rattle.geometry.proofs.PartLaws.{then_holds}
use Rattle.geometry.specs.declared.Vector.{Vector}
use Rattle.geometry.specs.declared.Movement.{Movement}
use Rattle.geometry.specs.declared.Refusal.{Refusal}
use Rattle.geometry.specs.declared.RotatorQuantization.{RotatorQuantization}
use Rattle.geometry.specs.declared.RotatorQuantization.TheVariants.{ByteComponents, ShortComponents}
use Rattle.geometry.specs.declared.VectorQuantization.{VectorQuantization}
use Rattle.geometry.specs.declared.movements.Pose.{Pose}
use Rattle.geometry.specs.declared.movements.Extras.{Extras}

-- the two widths
wide_enough : (q : RotatorQuantization) → 3 ≤ width_of q
unfolding width_of
wide_enough ByteComponents = omega arith
wide_enough ShortComponents = omega arith

not_too_wide : (q : RotatorQuantization) → width_of q ≤ 16
unfolding width_of
not_too_wide ByteComponents = omega arith
not_too_wide ShortComponents = omega arith

-- ---- what is said of an accepted part, whose rotation has w bits

record SoundPose (w : ℕ) (v : Pose) : Type 0 where
  location_is : FiniteVector v.location
  rotation_is : ExactRotation w v.rotation
  linear_is : FiniteVector v.linear

abbrev Posed : (w : ℕ) → Result (Read Pose) Refusal → Type 0
Posed w r = IfOk r (λ p. SoundPose w p.value)

abbrev Moved : (w : ℕ) → Result (Read Movement) Refusal → Type 0
Moved w r = IfOk r (λ m. SoundMovement w m.value)

abbrev Spun : Result (Read (Option Vector)) Refusal → Type 0
Spun r = IfOk r (λ a. FiniteSpin a.value)

abbrev Spare : Result (Read Extras) Refusal → Type 0
Spare r = IfOk r (λ x. FiniteSpin x.value.angular)

-- ---- a movement, stage by stage

module _ (s : List ℕ) where
  spun : (b : Bool) (c : Cursor) → Spun (spin_at s b c)
  unfolding spin_at
  spun true c = then_holds Spun (λ r. tt) (quantized_at s velocity_scale c) _ (λ v e. quantized_finite s velocity_scale c v e)
  spun false c = tt

  spare : (physics frame handle : Bool) (c : Cursor) → Spare (extras_at s physics frame handle c)
  unfolding extras_at
  spare physics frame handle c =
      then_holds Spare (λ r. tt) (spin_at s physics c) _ (λ a e.
      then_holds Spare (λ r. tt) (flagged_at s frame (at c a.next)) _ (λ f e₂.
      then_holds Spare (λ r. tt) (flagged_at s handle (at c f.next)) _ (λ h e₃.
      subst Spun e (spun physics c))))

module _ (s : List ℕ) (rotation : RotatorQuantization) (location : VectorQuantization) where
  posed : (c : Cursor) → Posed (width_of rotation) (pose_at s rotation location c)
  unfolding pose_at
  posed c =
      let w = width_of rotation in
      then_holds (Posed w) (λ r. tt) (quantized_at s (scale_of location) c) _ (λ l e₁.
      then_holds (Posed w) (λ r. tt) (rotation_at s w (at c l.next)) _ (λ r e₂.
      then_holds (Posed w) (λ r. tt) (quantized_at s velocity_scale (at c r.next)) _ (λ v e₃.
      record {
        location_is = quantized_finite s (scale_of location) c l e₁;
        rotation_is = at_short_width w (wide_enough rotation) (not_too_wide rotation) s (at c l.next) r e₂;
        linear_is = quantized_finite s velocity_scale (at c r.next) v e₃;
      })))

  moved : (c : Cursor) → Moved (width_of rotation) (movement_at s rotation location c)
  unfolding movement_at
  moved c =
      let w = width_of rotation in
      then_holds (Moved w) (λ r. tt) (flags_at s c) _ (λ f e₀.
      then_holds (Moved w) (λ r. tt) (pose_at s rotation location (at c f.next)) _ (λ q e₁.
      then_holds (Moved w) (λ r. tt) (extras_at s f.value.physics f.value.frame f.value.handle (at c q.next)) _ (λ x e₂.
      let of-pose : SoundPose w q.value = subst (Posed w) e₁ (posed (at c f.next)) in
      record {
        finite_location = of-pose.location_is;
        exact_rotation = of-pose.rotation_is;
        finite_linear = of-pose.linear_is;
        finite_angular = subst Spare e₂ (spare s f.value.physics f.value.frame f.value.handle (at c q.next));
      })))

  -- An accepted movement is sound.
  pub movement_sound : (n : ℕ) (m : Read Movement) → read_movement s n rotation location ≡ Ok m → SoundMovement (width_of rotation) m.value
  movement_sound n m e =
      let w = width_of rotation in
      subst (Moved w) e (then_holds (Moved w) (λ r. tt) (unread (opened s n)) _ (λ c k. moved c))

  -- So its rotation is exact on each axis.
  pub movement_exact : (n : ℕ) (m : Read Movement) → read_movement s n rotation location ≡ Ok m → ExactRotation (width_of rotation) m.value.rotation
  movement_exact n m e = (movement_sound n m e).exact_rotation
