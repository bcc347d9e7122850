-- A movement counts the padded ones of frame and handle: each is the answer of a read of a packed number, which tells the truth (Padded), or is
-- absent, and the count is made of what they told. The theorem on a call is `padded_` and the call's name.
use Rattle.std.specs.Prelude.{Some, Result, Ok, Err}
use Prim.Native.Nat.{ℕ}
use mathlib.Core.Path.{◌≡◌, refl, sym, subst}
use mathlib.Core.Bool.{Bool, true, false}
use mathlib.Core.List.{List}
use lib.Dec.{ltb}
use Rattle.bits.specs.Packed.{Packed, packed}
use Rattle.bits.specs.Sizes.{longest_window}
use Rattle.bits.specs.declared.Broken.TheVariants as Num
use Rattle.std.specs.Prelude.{Ok, Err}
use Rattle.bits.proofs.ChoiceLaws.{by_cases}
use Rattle.bitio.specs.Cursors.{bits_of, window, opened}
use Rattle.bitio.specs.Numbers.{packed_answer, read_int_packed_lem}
use Rattle.bitio.specs.declared.Cursor.{Cursor}
use Rattle.bitio.specs.declared.PackedNumber.{PackedNumber}
use Rattle.bitio.specs.declared.Read.{Read}
use Rattle.bitio.specs.declared.Refusal as bitio
use Rattle.bitio.proofs.CursorLaws.{at_holds}
use Rattle.geometry.specs.Parts.{at, up_to, and_then, unread}
use Rattle.geometry.specs.Movements.{flags_at, pose_at, spin_at, flagged, flagged_at, how_many_lem, extras_at, movement_at, read_movement}
use Rattle.geometry.proofs.PartLaws.{then_holds}
use Rattle.geometry.specs.declared.Movement.{Movement}
use Rattle.geometry.specs.declared.Refusal.{Refusal}
use Rattle.geometry.specs.declared.RotatorQuantization.{RotatorQuantization}
use Rattle.geometry.specs.declared.VectorQuantization.{VectorQuantization}
use Rattle.geometry.specs.declared.movements.Flags.{Flags}
use Rattle.geometry.specs.declared.movements.Flagged.{Flagged}
use Rattle.geometry.specs.declared.movements.Extras.{Extras}
use Rattle.exports.specs.Calls.{vrf_movement_lem}
use Rattle.exports.specs.MoveResults.{movement_result, rotation_kind_lem, location_kind_lem}
use Rattle.exports.specs.declared.VrfMovement.{VrfMovement}
use Rattle.promises.specs.PaddedMovements.{Stands, MayStand, CountsTwo, CountsAt, first_bits, CountsInMovement, CountsMovementInC}
use Rattle.promises.proofs.Padded.{answered}
use Rattle.promises.proofs.Finite.{not_refused}

-- ---- a number, at bit pos of the len bits of W

module _ (W len pos : ℕ) where
  abbrev Held : Result (Read PackedNumber) bitio.Refusal → Type 0
  Held (Ok x) = Stands W len pos x.value.value x.value.padded x.next
  Held (Err r) = Unit

  abbrev MayHold : (flag : Bool) → Result (Read Flagged) Refusal → Type 0
  MayHold flag (Ok n) = MayStand W len pos flag n.value.number n.value.padded n.next
  MayHold flag (Err r) = Unit

  held : (a : Packed) → packed W len pos ≡ a → Held (packed_answer len pos a)
  unfolding packed_answer
  held (Ok x) e = record { bytes = x.bytes; reads = e; told = answered W len pos (Ok x) e }
  held (Err (Num.Cut n)) e = tt
  held (Err Num.GoesOn) e = tt
  held (Err Num.Overflows) e = tt

packed_held : (s : List ℕ) (c : Cursor) → Held (window s c) c.len c.pos (read_int_packed_lem s c)
packed_held s c =
    let W = window s c in
    at_holds s c _ (Held W c.len c.pos) (λ x. tt) (λ g. held W c.len c.pos (packed W c.len c.pos) refl)

flagged_held : (s : List ℕ) (there : Bool) (c : Cursor) → MayHold (window s c) c.len c.pos there (flagged_at s there c)
unfolding flagged_at and_then unread
flagged_held s false c = (refl, refl)
flagged_held s true c = go (read_int_packed_lem s c) (packed_held s c)
  where
    go : (a : Result (Read PackedNumber) bitio.Refusal) → Held (window s c) c.len c.pos a
        → MayHold (window s c) c.len c.pos true (and_then (unread a) (λ n. Ok (up_to (flagged (Some n.value.value) n.value.padded) n.next)))
    go (Ok x) h = h
    go (Err r) h = tt

-- ---- the movement, stage by stage

abbrev CountsExtras : (s : List ℕ) (f : Flags) (c : Cursor) → Result (Read Extras) Refusal → Type 0
CountsExtras s f c (Ok x) = CountsTwo s f c x.value.angular x.value.frame x.value.handle x.value.padded x.next
CountsExtras s f c (Err r) = Unit

extras_count : (s : List ℕ) (f : Flags) (c : Cursor) → CountsExtras s f c (extras_at s f.physics f.frame f.handle c)
unfolding extras_at window how_many_lem
extras_count s f c =
    let E = CountsExtras s f c in
    then_holds E (λ r. tt) (spin_at s f.physics c) _ (λ a e₁.
    then_holds E (λ r. tt) (flagged_at s f.frame (at c a.next)) _ (λ n e₂.
    then_holds E (λ r. tt) (flagged_at s f.handle (at c n.next)) _ (λ h e₃.
    record {
      behind_spin = a.next;
      spin_read = e₁;
      frame_padded = n.value.padded;
      behind_frame = n.next;
      frame_stands = subst (MayHold (window s c) c.len a.next f.frame) e₂ (flagged_held s f.frame (at c a.next));
      handle_padded = h.value.padded;
      handle_stands = subst (MayHold (window s c) c.len n.next f.handle) e₃ (flagged_held s f.handle (at c n.next));
      counts = refl;
    })))

movement_counts : (s : List ℕ) (rotation : RotatorQuantization) (location : VectorQuantization) (c : Cursor)
    → CountsAt s rotation location c (movement_at s rotation location c)
unfolding movement_at
movement_counts s rotation location c =
    let E = CountsAt s rotation location c in
    then_holds E (λ r. tt) (flags_at s c) _ (λ f e₁.
    then_holds E (λ r. tt) (pose_at s rotation location (at c f.next)) _ (λ q e₂.
    then_holds E (λ r. tt) (extras_at s f.value.physics f.value.frame f.value.handle (at c q.next)) _ (λ x e₃.
    record {
      flags = f.value;
      behind_flags_lem = f.next;
      flags_read = e₁;
      pose = q.value;
      behind_pose_lem = q.next;
      pose_read = e₂;
      numbers = subst (CountsExtras s f.value (at c q.next)) e₃ (extras_count s f.value (at c q.next));
    })))

opened_counts : (bytes : List ℕ) (count : ℕ) (rotation : RotatorQuantization) (location : VectorQuantization)
    → CountsInMovement bytes count rotation location (read_movement bytes count rotation location)
unfolding opened and_then unread
opened_counts bytes count rotation location =
    by_cases (ltb longest_window count) (λ e. simp e tt) (λ e.
    by_cases (ltb (bits_of bytes) count) (λ f. simp (e, f) tt) (λ f.
    simp (e, f) (movement_counts bytes rotation location (first_bits count))))

-- `read_rep_movement`.
pub padded_read_rep_movement : (bytes : List ℕ) (count : ℕ) (rotation : RotatorQuantization) (location : VectorQuantization) (r : Result (Read Movement) Refusal)
    → r ≡ read_movement bytes count rotation location → CountsInMovement bytes count rotation location r
padded_read_rep_movement bytes count rotation location r e =
    subst (CountsInMovement bytes count rotation location) (sym e) (opened_counts bytes count rotation location)

-- ---- for C

movement_in : (bytes : List ℕ) (count rotation location : ℕ) (a : Result (Read Movement) Refusal)
    → CountsInMovement bytes count (rotation_kind_lem rotation) (location_kind_lem location) a → CountsMovementInC bytes count rotation location (movement_result a)
movement_in bytes count rotation location (Ok m) h =
    record { accepted = λ e. record { read = m.value; used = m.next; is = refl; counts = h }; refused = λ z. absurd (z refl) }
movement_in bytes count rotation location (Err r) h = record { accepted = λ e. not_refused r e; refused = λ z. refl }

-- `vrf_movement`.
pub padded_vrf_movement : (bytes : List ℕ) (count rotation location : ℕ) (r : VrfMovement)
    → r ≡ vrf_movement_lem bytes count rotation location → CountsMovementInC bytes count rotation location r
padded_vrf_movement bytes count rotation location r e =
    let a = read_movement bytes count (rotation_kind_lem rotation) (location_kind_lem location) in
    subst (CountsMovementInC bytes count rotation location) (sym e)
    (movement_in bytes count rotation location a (opened_counts bytes count (rotation_kind_lem rotation) (location_kind_lem location)))
