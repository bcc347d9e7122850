-- Reads inside a window are reads of the bytes, and what was read lies in the window.
use Rattle.std.specs.Prelude.{if◌then◌else◌}
use Prim.Native.Nat.{ℕ, ◌+◌, ◌-◌, ◌*◌, ◌≤◌, ◌<◌}
use mathlib.Core.Path.{◌≡◌, refl, sym, ap, ap₂, ◌∙◌, subst}
use mathlib.Core.Bool.{Bool, true, false}
use mathlib.Core.List.{List, [], ◌∷◌}
use Rattle.std.specs.Prelude.{Option, None, Some}
use native.Mathlib.Nat.{zero-add, add-zero}
use native.Mathlib.Omega.{arith}
use lib.IntN.{ℤ}
use mir.Val.{to_z, of_z}
use mir.Syntax.{w32}
use mir.Facts.{to_z-of_z}
use borrow.Author.Tests.{le-leb, lt-leb, eq-eqb, ne_eqb}
use Rattle.bits.specs.Bits.{num, field}
use Rattle.bits.specs.Packed.{Packed, packed, most_bytes, Number}
use Rattle.bits.proofs.FieldLaws.{field_lt, field_field}
use Rattle.bits.proofs.TwosLaws.{twos_fits}
use Rattle.bits.proofs.PackedLaws.{packed_window, whole_bytes}
use Rattle.bits.proofs.PackedWindows.{Lies, whole, cut, goes_on, overflows, packed_lies}
use Rattle.bits.specs.Padded.{padded, padded_among}
use Rattle.bits.proofs.PaddedLaws.{one_byte, among_append}
use Rattle.bits.proofs.Never.{never}
use Rattle.fastarray.specs.Body.{window, signed_at, number_end, as_number, packed_at, lead_width, lead_handle, lead_at}
use Rattle.fastarray.specs.Parts.{taken_of, padded_one_lem, head_of}
use Rattle.fastarray.specs.declared.Taken.{Taken}
use Rattle.fastarray.specs.declared.FieldHead.TheVariants as H

pub window_field : (s : List ℕ) (end p n : ℕ) → p + n ≤ end → field (window s end) p n ≡ field (num s) p n
unfolding window
window_field s end p n h = field_field (num s) 0 end p n h ∙ ap (λ (k : ℕ). field (num s) k n) (zero-add p)

pub window_packed : (s : List ℕ) (end p : ℕ) → packed (window s end) end p ≡ packed (num s) end p
unfolding window
window_packed s end p = packed_window (num s) 0 end p ∙ ap₂ (λ (e q : ℕ). packed (num s) e q) (zero-add end) (zero-add p)

-- an i32 that was read is what its bits say
pub read_back : (W p : ℕ) (z : ℤ) → z ≡ signed_at W p → to_z w32 (of_z w32 z) ≡ signed_at W p
read_back W p z e = rw e (to_z-of_z (twos_fits w32 32 (field W p 32) (omega arith) (omega arith) (omega arith) (field_lt W p 32)))

-- ---- a packed number takes a byte at least and lies in the window

lies_number : (len p : ℕ) (x : Number) (r : Packed) → Lies len p r → as_number p r ≡ Some x → (p + 8 ≤ number_end x) × (number_end x ≤ len)
unfolding as_number
lies_number len p x _ (whole {x = y} h k) e =
    let q : ◌≡◌ {A = Number} (record { start = p; bytes = y.bytes; value = y.value }) x = cc in
    let l : p + 8 ≤ p + 8 * y.bytes = omega arith in
    subst (λ (y : Number). (p + 8 ≤ number_end y) × (number_end y ≤ len)) q (l, h)
lies_number len p x _ cut e = let z : ◌≡◌ {A = ℕ} 0 1 = cc in never z
lies_number len p x _ goes_on e = let z : ◌≡◌ {A = ℕ} 0 1 = cc in never z
lies_number len p x _ overflows e = let z : ◌≡◌ {A = ℕ} 0 1 = cc in never z

pub number_within : (W len p : ℕ) (x : Number) → packed_at W len p ≡ Some x → (p + 8 ≤ number_end x) × (number_end x ≤ len)
number_within W len p x e = lies_number len p x (packed W len p) (packed_lies W len p) e

-- ---- how many of one number, and of two, are padded

among_one : (x : Number) → padded_among (x ∷ []) ≡ padded_one_lem x.value x.bytes
unfolding padded_among
among_one x = add-zero (padded_one_lem x.value x.bytes)

pub one_or_none : (v n : ℕ) → padded_one_lem v n ≤ 1
one_or_none v n = go (padded v n)
  where
    go : (b : Bool) → (if b then 1 else 0) ≤ 1
    go true = omega arith
    go false = omega arith

pub one_at_most : (x : Number) → padded_among (x ∷ []) ≤ 1
one_at_most x = omega (arith, among_one x, one_or_none x.value x.bytes)

pub two_at_most : (x y : Number) → padded_among (x ∷ y ∷ []) ≤ 2
two_at_most x y = omega (arith, among_append (x ∷ []) (y ∷ []), one_at_most x, one_at_most y)

-- a byte each
pub none_of_two : (c v n w m : ℕ) → 1 ≤ n → 1 ≤ m → n + m ≡ 2 → c ≡ c + padded_one_lem v n + padded_one_lem w m
none_of_two c v n w m hn hm e =
    let a : padded_one_lem v n ≡ 0 = simp (one_byte v n (omega arith)) in
    let b : padded_one_lem w m ≡ 0 = simp (one_byte w m (omega arith)) in
    omega arith

-- ---- a number that the code took

pub record TakenAs (W len p v n : ℕ) : Type 0 where
  pub number : Number
  pub is : packed_at W len p ≡ Some number
  pub value_is : number.value ≡ v
  pub bytes_is : number.bytes ≡ n
  pub behind_is : number_end number ≡ p + 8 * n
  pub some_bytes : 1 ≤ n
  pub few_bytes : n ≤ most_bytes
  pub within : p + 8 * n ≤ len

taken_by : (W len p : ℕ) (t : Taken) (r : Packed) → packed W len p ≡ r → Lies len p r → taken_of (as_number p r) ≡ Some t → TakenAs W len p t.value t.bytes
unfolding taken_of as_number
taken_by W len p t _ q (whole {x = y} h z) e =
    let et : record { value = y.value; bytes = y.bytes } ≡ t = cc in
    let en : y.bytes ≡ t.bytes = ap (λ (x : Taken). x.bytes) et in
    record {
      number = record { start = p; bytes = y.bytes; value = y.value };
      is = ap (as_number p) q;
      value_is = ap (λ (x : Taken). x.value) et;
      bytes_is = en;
      behind_is = ap (λ (j : ℕ). p + 8 * j) en;
      some_bytes = omega arith;
      few_bytes = omega (arith, whole_bytes W len p y.value y.bytes q);
      within = omega arith;
    }
taken_by W len p t _ q cut e = let z : ◌≡◌ {A = ℕ} 0 1 = cc in never z
taken_by W len p t _ q goes_on e = let z : ◌≡◌ {A = ℕ} 0 1 = cc in never z
taken_by W len p t _ q overflows e = let z : ◌≡◌ {A = ℕ} 0 1 = cc in never z

pub taken_as : (W len p : ℕ) (t : Taken) → taken_of (packed_at W len p) ≡ Some t → TakenAs W len p t.value t.bytes
taken_as W len p t e = taken_by W len p t (packed W len p) refl (packed_lies W len p) e

pub taken_none : (o : Option Number) → taken_of o ≡ None → o ≡ None
unfolding taken_of
taken_none None e = refl
taken_none (Some x) e = let z : ◌≡◌ {A = ℕ} 0 1 = cc in never z

-- what it adds to the count
taken_padded : (W len p v n : ℕ) (t : TakenAs W len p v n) → padded_among (t.number ∷ []) ≡ padded_one_lem v n
taken_padded W len p v n t = among_one t.number ∙ ap₂ (λ (a b : ℕ). padded_one_lem a b) t.value_is t.bytes_is

-- ---- what stands where a handle number is due

module _ (b W len p : ℕ) where
  pub head_broken : taken_of (packed_at W len p) ≡ None → head_of b (lead_at W len p) ≡ None
  unfolding head_of lead_handle
  head_broken e = ap (λ (o : Option Number). head_of b (lead_handle W len o)) (taken_none _ e)

  module _ (v n : ℕ) (t : TakenAs W len p v n) where
    pub head_closes : (c : ℕ) → v ≡ 0 → c ≡ b + padded_one_lem v n → head_of b (lead_at W len p) ≡ Some (H.Closes (p + 8 * n) c)
    unfolding head_of lead_handle
    head_closes c z k =
        let counted : b + padded_among (t.number ∷ []) ≡ c = ap (λ (x : ℕ). b + x) (taken_padded W len p v n t) ∙ sym k in
        ap (λ (o : Option Number). head_of b (lead_handle W len o)) t.is
        ∙ simp (eq-eqb _ _ (t.value_is ∙ z)) (ap₂ (λ (x y : ℕ). Some (H.Closes x y)) t.behind_is counted)

    -- a handle
    handled : (v ≡ 0 → ⊥) → head_of b (lead_at W len p) ≡ head_of b (lead_width len t.number (packed_at W len (p + 8 * n)))
    unfolding lead_handle
    handled f =
        ap (λ (o : Option Number). head_of b (lead_handle W len o)) t.is
        ∙ simp (ne_eqb t.number.value 0 (λ z. f (sym t.value_is ∙ z)))
        (ap (λ (k : ℕ). head_of b (lead_width len t.number (packed_at W len k))) t.behind_is)

    pub head_no_width : (v ≡ 0 → ⊥) → taken_of (packed_at W len (p + 8 * n)) ≡ None → head_of b (lead_at W len p) ≡ None
    unfolding head_of lead_width
    head_no_width f e = handled f ∙ ap (λ (o : Option Number). head_of b (lead_width len t.number o)) (taken_none _ e)

    module _ (w m : ℕ) (f : v ≡ 0 → ⊥) (u : TakenAs W len (p + 8 * n) w m) where
      ends : number_end u.number + u.number.value ≡ p + 8 * n + 8 * m + w
      ends = ap₂ (λ (x y : ℕ). x + y) u.behind_is u.value_is

      widths : head_of b (lead_at W len p) ≡ head_of b (lead_width len t.number (Some u.number))
      widths = handled f ∙ ap (λ (o : Option Number). head_of b (lead_width len t.number o)) u.is

      pub head_past : len < p + 8 * n + 8 * m + w → head_of b (lead_at W len p) ≡ None
      unfolding head_of lead_width
      head_past h = widths ∙ simp (ends, lt-leb (p + 8 * n + 8 * m + w) len h)

      counted_two : (c : ℕ) → c ≡ b + padded_one_lem v n + padded_one_lem w m → b + padded_among (t.number ∷ u.number ∷ []) ≡ c
      counted_two c k =
          omega (arith, among_append (t.number ∷ []) (u.number ∷ []), taken_padded W len p v n t, taken_padded W len (p + 8 * n) w m u)

      pub head_opens : (c : ℕ) → p + 8 * n + 8 * m + w ≤ len → c ≡ b + padded_one_lem v n + padded_one_lem w m
          → head_of b (lead_at W len p) ≡ Some (H.Opens (v - 1) (p + 8 * n + 8 * m) w c)
      unfolding head_of lead_width
      head_opens c h k =
          let e₁ = t.value_is in
          let e₂ = u.value_is in
          let e₃ = u.behind_is in
          widths ∙ simp (ends, le-leb (p + 8 * n + 8 * m + w) len h) (simp (e₁, e₂, e₃, counted_two c k))
