-- The laws of rotations.
use Rattle.std.specs.Prelude.{Result, Ok, Err}
use Prim.Native.Nat.{ℕ, ◌+◌}
use mathlib.Core.Path.{◌≡◌, refl, sym, ap, ◌∙◌}
use mathlib.Core.Bool.{true, false, ◌||◌}
use mathlib.Core.List.{List}
use lib.Dec.{eqb}
use lib.Ieee.{Float}
use borrow.Author.Tests.{eq-eqb, ne_eqb}
use Rattle.floats.specs.Numbers.{angle}
use Rattle.bits.proofs.ChoiceLaws.{by_cases}
use Rattle.bitio.specs.Cursors.{good, bad_cursor_lem, asking, position_of, seen}
use Rattle.bitio.proofs.CursorLaws.{at_bad, at_good}
use Rattle.bitio.specs.declared.Cursor.{Cursor}
use Rattle.bitio.specs.declared.Read.{Read}
use Rattle.bitio.specs.declared.Refusal as bitio
use Rattle.geometry.specs.Parts.{up_to, and_then, unread, three_at, part_at, axis_after}
use Rattle.geometry.specs.Rotations.{rotation, rotation_of, rotation_at, read_rotation_lem}
use Rattle.geometry.proofs.VectorLaws.{onward, halted}
use Rattle.geometry.specs.declared.Rotation.{Rotation}
use Rattle.geometry.specs.declared.Refusal.{Refusal}
use Rattle.geometry.specs.declared.Refusal.TheVariants.{Unread, NoSuchWidth}
use Rattle.geometry.specs.declared.parts.Three.{Three}

module _ (w : ℕ) {r : Result (Read Three) bitio.Refusal} where
  pub rotation_refused : {q : bitio.Refusal} {v : Result (Read Rotation) Refusal} → Err q ≡ r → v ≡ Err (Unread q) → v ≡ rotation_of w r
  unfolding rotation_of
  rotation_refused e k = halted _ e k

  pub rotation_read : {t : Read Three} {x y z : Float} → Ok t ≡ r → x ≡ angle w t.value.x → y ≡ angle w t.value.y → z ≡ angle w t.value.z
      → Ok (up_to (rotation x y z) t.next) ≡ rotation_of w r
  unfolding rotation_of
  rotation_read e ex ey ez = onward _ e (rw (ex, ey, ez) refl)

-- ---- the public call: the three ways of a width

-- a bad cursor is refused by the first axis's bit
at_bad_cursor : (s : List ℕ) (w : ℕ) (c : Cursor) → good s c ≡ false → rotation_at s w c ≡ Err (Unread (bad_cursor_lem s c))
unfolding rotation_of three_at part_at and_then unread axis_after seen
at_bad_cursor s w c h = rw (at_bad s c (λ W. asking c.len c.pos 1 (Ok (c.pos + 1))) h)

module _ (s : List ℕ) (c : Cursor) (w : ℕ) where
  -- a width that is read: the reads test the cursor
  width_read : {v : Result (Read Rotation) Refusal} → eqb w 8 || eqb w 16 ≡ true → v ≡ rotation_at s w c → v ≡ read_rotation_lem s c w
  width_read h e =
      by_cases (good s c)
      (λ g. onward _ (sym (at_good s c (λ W. Ok c.pos) g)) (e ∙ sym (simp h)))
      (λ g. halted _ (sym (at_bad s c (λ W. Ok c.pos) g)) (e ∙ at_bad_cursor s w c g))

  pub width_8 : {v : Result (Read Rotation) Refusal} → w ≡ 8 → v ≡ rotation_at s 8 c → v ≡ read_rotation_lem s c w
  width_8 h e = width_read (simp (eq-eqb w 8 h)) (e ∙ ap (λ (k : ℕ). rotation_at s k c) (sym h))

  pub width_16 : {v : Result (Read Rotation) Refusal} → (w ≡ 8 → ⊥) → w ≡ 16 → v ≡ rotation_at s 16 c → v ≡ read_rotation_lem s c w
  width_16 n h e = width_read (simp (ne_eqb w 8 n, eq-eqb w 16 h)) (e ∙ ap (λ (k : ℕ). rotation_at s k c) (sym h))

  pub width_other : {p : ℕ} → (w ≡ 8 → ⊥) → (w ≡ 16 → ⊥) → Ok p ≡ position_of s c → Err NoSuchWidth ≡ read_rotation_lem s c w
  width_other n m e = onward _ e (sym (simp (ne_eqb w 8 n, ne_eqb w 16 m)))
