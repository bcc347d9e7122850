-- What the structs promise besides their contracts: where a packed number is refused, the 64 bits of a position hold it.
use Rattle.std.specs.Prelude.{Result, Ok, Err}
use mathlib.Core.Path.{◌≡◌, refl, sym, ap, ◌∙◌, subst}
use mathlib.Core.Bool.{Bool, true, false}
use mathlib.Core.List.{List}
use Prim.Native.Nat.{ℕ, ◌+◌, ◌^◌, ◌<◌, ◌≤◌}
use native.Mathlib.Omega.{arith}
use Rattle.bits.specs.Packed.{Packed, packed}
use Rattle.bits.specs.declared.Broken.TheVariants as Num
use Rattle.std.specs.Prelude.{Ok, Err}
use Rattle.bits.proofs.PackedLaws.{whole_within, cut_within, goes_on_within, overflows_within}
use Rattle.bits.specs.Sizes.{longest_window}
use Rattle.bitio.specs.Cursors.{good, window}
use Rattle.bitio.specs.Numbers.{packed_answer, read_int_packed_lem}
use Rattle.bitio.specs.Refusals.{stands_after_lem}
use Rattle.bitio.specs.declared.Cursor.{Cursor}
use Rattle.bitio.specs.declared.PackedNumber.{PackedNumber}
use Rattle.bitio.specs.declared.Read.{Read}
use Rattle.bitio.specs.declared.Refusal.{Refusal}
use Rattle.bitio.proofs.CursorLaws.{at_bad, at_good, good_le}
use Rattle.bitio.specs.declared.Refusal.TheVariants.{GoesOn, Overflows}
use Rattle.geometry.specs.Movements.{read_movement}
use Rattle.geometry.specs.declared.Refusal.TheVariants.{Unread}
use Rattle.geometry.specs.declared.RotatorQuantization.{RotatorQuantization}
use Rattle.geometry.specs.declared.VectorQuantization.{VectorQuantization}
use Rattle.geometry.specs.declared.Movement.{Movement}
use Rattle.geometry.specs.declared.Refusal as Geo
use Rattle.exports.specs.ReadResults.{packed_result}
use Rattle.exports.specs.MoveResults.{movement_result}
use Rattle.exports.proofs.MovementLaws.{OnMovement, movement_fits}

-- where a read of a packed number leaves a cursor that stood at `at`
abbrev pub stands : (at : ℕ) → Result (Read PackedNumber) Refusal → ℕ
stands at (Ok x) = x.next
stands at (Err r) = stands_after_lem at r

shown : (at : ℕ) (a : Result (Read PackedNumber) Refusal) → stands at a < 2 ^ 64 → (packed_result at a).position ≡ stands at a
shown at (Ok x) h = refl
shown at (Err r) h = omega (arith, h)

module _ (W len p : ℕ) (h : p ≤ len) where
  reaches : (x : Packed) → packed W len p ≡ x → stands p (packed_answer len p x) ≤ len
  unfolding packed_answer
  reaches (Ok x) e = whole_within W len p h x.value x.bytes e
  reaches (Err (Num.Cut n)) e = cut_within W len p h n e
  reaches (Err Num.GoesOn) e = goes_on_within W len p h e
  reaches (Err Num.Overflows) e = overflows_within W len p h e

stands_below : (s : List ℕ) (c : Cursor) → c.pos < 2 ^ 64 → c.len < 2 ^ 64 → stands c.pos (read_int_packed_lem s c) < 2 ^ 64
stands_below s c hp hl = go (good s c) refl where
  go : (b : Bool) → good s c ≡ b → stands c.pos (read_int_packed_lem s c) < 2 ^ 64
  go false e = subst (λ (a : Result (Read PackedNumber) Refusal). stands c.pos a < 2 ^ 64) (sym (at_bad s c _ e)) hp
  go true e =
      subst (λ (a : Result (Read PackedNumber) Refusal). stands c.pos a < 2 ^ 64) (sym (at_good s c _ e))
      (omega (arith, reaches (window s c) c.len c.pos (good_le s c e).0 (packed (window s c) c.len c.pos) refl, hl))

-- The position that `vrf_read_packed` gives is where the cursor stands, refused or not: 40 bits behind a number's start are never past 2 ^ 64.
pub packed_position : (s : List ℕ) (c : Cursor) → c.pos < 2 ^ 64 → c.len < 2 ^ 64
    → (packed_result c.pos (read_int_packed_lem s c)).position ≡ stands c.pos (read_int_packed_lem s c)
packed_position s c hp hl = shown c.pos (read_int_packed_lem s c) (stands_below s c hp hl)

-- So is that of `vrf_movement`, where one of its packed numbers is refused.
module _ (s : List ℕ) (n : ℕ) (k : RotatorQuantization) (l : VectorQuantization) (start : ℕ) where
  pub movement_goes_on : read_movement s n k l ≡ Err (Unread (GoesOn start)) → (movement_result (read_movement s n k l)).position ≡ start + 40
  movement_goes_on e =
      let h : start + 40 ≤ longest_window = subst (OnMovement longest_window) e (movement_fits s n k l) in
      ap (λ (x : Result (Read Movement) Geo.Refusal). (movement_result x).position) e ∙ omega (arith, h)

  pub movement_overflows : read_movement s n k l ≡ Err (Unread (Overflows start)) → (movement_result (read_movement s n k l)).position ≡ start + 40
  movement_overflows e =
      let h : start + 40 ≤ longest_window = subst (OnMovement longest_window) e (movement_fits s n k l) in
      ap (λ (x : Result (Read Movement) Geo.Refusal). (movement_result x).position) e ∙ omega (arith, h)
