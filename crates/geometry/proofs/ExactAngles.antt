-- An accepted rotation's angles are exact: each is a number of 8 or 16 bits times a step that binary32 holds (floats, Rounding).
use Rattle.std.specs.Prelude.{Result, Ok, IfOk}
use Prim.Native.Nat.{ℕ, ◌^◌, ◌≤◌, ◌<◌}
use mathlib.Core.Path.{◌≡◌, sym, subst}
use mathlib.Core.List.{List}
use native.Mathlib.Omega.{arith}
use lib.Dec.{eqb}
use borrow.Author.Tests.{eqb-true}
use Rattle.floats.specs.Numbers.{angle, Angle}
use Rattle.floats.proofs.Rounding.{exact_angle}
use Rattle.bits.proofs.ChoiceLaws.{by_cases}
use Rattle.bitio.specs.Cursors.{position_of}
use Rattle.bitio.specs.declared.Cursor.{Cursor}
use Rattle.bitio.specs.declared.Read.{Read}
use Rattle.geometry.specs.Finite.{Exact, ExactRotation}
use Rattle.geometry.specs.Parts.{unread, three_at}
use Rattle.geometry.specs.Rotations.{rotation_of, rotation_at, read_rotation_lem}
use Rattle.geometry.proofs.PartLaws.{then_holds, was_read, below_axes}
use Rattle.geometry.specs.declared.Refusal.{Refusal}
use Rattle.geometry.specs.declared.Rotation.{Rotation}
use Rattle.geometry.specs.declared.parts.Part.TheVariants.{Axis}

-- what is said of an answer
abbrev ExactOk : (w : ℕ) → Result (Read Rotation) Refusal → Type 0
ExactOk w r = IfOk r (λ v. ExactRotation w v.value)

module _ (w : ℕ) (each : (k : ℕ) → k < 2 ^ w → Angle w k (angle w k)) where
  exact_steps : (k : ℕ) → k < 2 ^ w → Exact w (angle w k)
  exact_steps k h = record { steps = k; few = h; angle_of = each k h }

  at_width_holds : (s : List ℕ) (c : Cursor) → ExactOk w (rotation_at s w c)
  unfolding rotation_of
  at_width_holds s c =
      then_holds (ExactOk w) (λ r. tt) (unread (three_at s (Axis w) c)) _ (λ t e.
      let b = below_axes s c w (sym (was_read _ t e)) in
      record {
        exact_pitch = exact_steps t.value.x b.below_x;
        exact_yaw = exact_steps t.value.y b.below_y;
        exact_roll = exact_steps t.value.z b.below_z;
      })

  -- where each number of steps of w bits is exact
  pub at_width : (s : List ℕ) (c : Cursor) (v : Read Rotation) → rotation_at s w c ≡ Ok v → ExactRotation w v.value
  at_width s c v e = subst (ExactOk w) e (at_width_holds s c)

-- each is, of 3 to 16 bits
short_holds : (w : ℕ) → 3 ≤ w → w ≤ 16 → (s : List ℕ) (c : Cursor) → ExactOk w (rotation_at s w c)
short_holds w lo hi = at_width_holds w (λ k h. exact_angle w k lo hi h)

pub at_short_width : (w : ℕ) → 3 ≤ w → w ≤ 16 → (s : List ℕ) (c : Cursor) (v : Read Rotation) → rotation_at s w c ≡ Ok v → ExactRotation w v.value
at_short_width w lo hi = at_width w (λ k h. exact_angle w k lo hi h)

read_holds : (s : List ℕ) (c : Cursor) (w : ℕ) → ExactOk w (read_rotation_lem s c w)
read_holds s c w =
    then_holds (ExactOk w) (λ r. tt) (unread (position_of s c)) _ (λ p e.
    by_cases (eqb w 8)
    (λ a. let i : w ≡ 8 = eqb-true w 8 a in rw a (short_holds w (omega arith) (omega arith) s c))
    (λ a. by_cases (eqb w 16)
    (λ b. let i : w ≡ 16 = eqb-true w 16 b in rw (a, b) (short_holds w (omega arith) (omega arith) s c))
    (λ b. rw (a, b) tt)))

-- An accepted rotation is exact on each axis.
pub rotation_exact : (s : List ℕ) (c : Cursor) (w : ℕ) (v : Read Rotation) → read_rotation_lem s c w ≡ Ok v → ExactRotation w v.value
rotation_exact s c w v e = subst (ExactOk w) e (read_holds s c w)
