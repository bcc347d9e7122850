-- Packed numbers in a window: where a number that was read lies, and what becomes of it in the window's first bits.
use Rattle.std.specs.Prelude.{Ok, Err}
use Prim.Native.Nat.{ℕ, zero, suc, ◌+◌, ◌*◌, ◌/◌, ◌%◌, ◌^◌, ◌≤◌, ◌<◌}
use mathlib.Core.Path.{◌≡◌, refl, sym, ◌∙◌}
use mathlib.Core.Bool.{Bool, true, false}
use native.Mathlib.Omega.{arith}
use lib.Dec.{leb, eqb}
use borrow.Author.Tests.{le-leb, leb-true, eqb-true, eqb-false}
use Rattle.bits.specs.Bits.{field}
use Rattle.bits.specs.Packed.{Whole, Packed, after, earlier_byte, fifth_byte, fifth_most, packed_from, packed}
use Rattle.bits.proofs.FieldLaws.{field_prefix}
use Rattle.bits.proofs.PackedLaws.{same_value, packed_one, packed_more, byte_cut}
use Rattle.bits.specs.declared.Broken.TheVariants.{Cut, GoesOn, Overflows}

-- ---- a number that is read has a byte at least, and lies in the window

pub data Lies (len p : ℕ) : Packed → Type 0 where
  whole : {x : Whole} → p + 8 * x.bytes ≤ len → 0 < x.bytes → Lies len p (Ok x)
  cut : {n : ℕ} → Lies len p (Err (Cut n))
  goes_on : Lies len p (Err GoesOn)
  overflows : Lies len p (Err Overflows)

lies_after : (len p g : ℕ) {r : Packed} → Lies len (p + 8) r → Lies len p (after 1 g r)
unfolding after
lies_after len p g (whole h k) = whole (omega arith) (omega arith)
lies_after len p g cut = cut
lies_after len p g goes_on = goes_on
lies_after len p g overflows = overflows

lies_fifth : (len p b : ℕ) → p + 8 ≤ len → Lies len p (fifth_byte b)
unfolding fifth_byte
lies_fifth len p b h = go (eqb (b % 2) 0) refl (leb (b / 2) fifth_most) refl
  where
    go : (x : Bool) → eqb (b % 2) 0 ≡ x → (y : Bool) → leb (b / 2) fifth_most ≡ y → Lies len p (fifth_byte b)
    go true e true f = rw (e, f) (whole {x = record { value = b / 2; bytes = 1 }} (omega arith) (omega arith))
    go true e false f = rw (e, f) overflows
    go false e y f = rw e goes_on

lies_earlier : (len p b : ℕ) {r : Packed} → p + 8 ≤ len → Lies len (p + 8) r → Lies len p (earlier_byte b r)
unfolding earlier_byte
lies_earlier len p b {r} h l = go (eqb (b % 2) 0) refl
  where
    go : (x : Bool) → eqb (b % 2) 0 ≡ x → Lies len p (earlier_byte b r)
    go true e = rw e (whole {x = record { value = b / 2; bytes = 1 }} (omega arith) (omega arith))
    go false e = rw e (lies_after len p (b / 2) l)

lies_from : (left W len p : ℕ) → Lies len p (packed_from left W len p)
unfolding packed_from
lies_from zero W len p = go (leb (p + 8) len) refl
  where
    go : (x : Bool) → leb (p + 8) len ≡ x → Lies len p (packed_from zero W len p)
    go true e = rw e (lies_fifth len p (field W p 8) (leb-true _ _ e))
    go false e = rw e cut
lies_from (suc left) W len p = go (leb (p + 8) len) refl (lies_from left W len (p + 8))
  where
    go : (x : Bool) → leb (p + 8) len ≡ x → Lies len (p + 8) (packed_from left W len (p + 8)) → Lies len p (packed_from (suc left) W len p)
    go true e l = rw e (lies_earlier len p (field W p 8) (leb-true _ _ e) l)
    go false e l = rw e cut

pub packed_lies : (W len p : ℕ) → Lies len p (packed W len p)
unfolding packed
packed_lies W len p = lies_from 4 W len p

-- ---- in the first m bits it is the same number, inside of them; or it is not read there

pub data Shortened (m p : ℕ) : Packed → Packed → Type 0 where
  same : {x : Whole} → p + 8 * x.bytes ≤ m → Shortened m p (Ok x) (Ok x)
  cut : {n : ℕ} {r : Packed} → Shortened m p (Err (Cut n)) r
  goes_on : {r : Packed} → Shortened m p (Err GoesOn) r
  overflows : {r : Packed} → Shortened m p (Err Overflows) r

shortened_after : (m p g : ℕ) {r s : Packed} → Shortened m (p + 8) r s → Shortened m p (after 1 g r) (after 1 g s)
unfolding after
shortened_after m p g (same h) = same (omega arith)
shortened_after m p g cut = cut
shortened_after m p g goes_on = goes_on
shortened_after m p g overflows = overflows

shortened_fifth : (m p b : ℕ) → p + 8 ≤ m → Shortened m p (fifth_byte b) (fifth_byte b)
unfolding fifth_byte
shortened_fifth m p b h = go (eqb (b % 2) 0) refl (leb (b / 2) fifth_most) refl
  where
    go : (x : Bool) → eqb (b % 2) 0 ≡ x → (y : Bool) → leb (b / 2) fifth_most ≡ y → Shortened m p (fifth_byte b) (fifth_byte b)
    go true e true f = rw (e, f) (same {x = record { value = b / 2; bytes = 1 }} (omega arith))
    go true e false f = rw (e, f) overflows
    go false e y f = rw e goes_on

shortened_earlier : (m p b : ℕ) {r s : Packed} → p + 8 ≤ m → Shortened m (p + 8) r s → Shortened m p (earlier_byte b r) (earlier_byte b s)
unfolding earlier_byte
shortened_earlier m p b {r} {s} h k = go (eqb (b % 2) 0) refl
  where
    go : (x : Bool) → eqb (b % 2) 0 ≡ x → Shortened m p (earlier_byte b r) (earlier_byte b s)
    go true e = rw e (same {x = record { value = b / 2; bytes = 1 }} (omega arith))
    go false e = rw e (shortened_after m p (b / 2) k)

shortened_from : (left W len m p : ℕ) → m ≤ len → Shortened m p (packed_from left (W % 2 ^ m) m p) (packed_from left W len p)
unfolding packed_from
shortened_from zero W len m p l = go (leb (p + 8) m) refl
  where
    go : (x : Bool) → leb (p + 8) m ≡ x → Shortened m p (packed_from zero (W % 2 ^ m) m p) (packed_from zero W len p)
    go true e =
        let h : p + 8 ≤ m = leb-true _ _ e in
        rw (e, le-leb (p + 8) len (omega arith), field_prefix W m p 8 h) (shortened_fifth m p (field W p 8) h)
    go false e = rw e cut
shortened_from (suc left) W len m p l = go (leb (p + 8) m) refl (shortened_from left W len m (p + 8) l)
  where
    go : (x : Bool) → leb (p + 8) m ≡ x → Shortened m (p + 8) (packed_from left (W % 2 ^ m) m (p + 8)) (packed_from left W len (p + 8))
        → Shortened m p (packed_from (suc left) (W % 2 ^ m) m p) (packed_from (suc left) W len p)
    go true e k =
        let h : p + 8 ≤ m = leb-true _ _ e in
        rw (e, le-leb (p + 8) len (omega arith), field_prefix W m p 8 h) (shortened_earlier m p (field W p 8) h k)
    go false e k = rw e cut

pub packed_shortened : (W len m p : ℕ) → m ≤ len → Shortened m p (packed (W % 2 ^ m) m p) (packed W len p)
unfolding packed
packed_shortened W len m p l = shortened_from 4 W len m p l

-- ---- with eight bits left

-- a number that is zero there is a zero byte
pub zero_byte : (W len p v n : ℕ) → p + 8 ≡ len → packed W len p ≡ Ok (record { value = v; bytes = n }) → v ≡ 0 → field W p 8 ≡ 0
zero_byte W len p v n fit e z = go (eqb (field W p 8 % 2) 0) refl
  where
    go : (x : Bool) → eqb (field W p 8 % 2) 0 ≡ x → field W p 8 ≡ 0
    go true t =
        let even = eqb-true _ _ t in
        let one = packed_one W len p (field W p 8) (omega arith) refl even in
        let val = same_value (sym one ∙ e) in
        omega arith
    go false t =
        let more = packed_more W len p (field W p 8) (omega arith) refl (eqb-false _ _ t) in
        let none = byte_cut 1 (field W p 8 / 2) W len (p + 8) 3 (omega arith) in
        let no_way : ◌≡◌ {A = ℕ} 0 1 = cc in
        omega arith
