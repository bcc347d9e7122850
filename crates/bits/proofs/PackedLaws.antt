-- The laws of the packed number: what each byte that is read makes of it.
use Rattle.std.specs.Prelude.{Ok, Err}
use Prim.Native.Nat.{ℕ, zero, suc, ◌+◌, ◌-◌, ◌*◌, ◌/◌, ◌%◌, ◌^◌, ◌≤◌, ◌<◌}
use mathlib.Core.Path.{◌≡◌, refl, sym, ap, ap₂, ◌∙◌, subst}
use mathlib.Core.Bool.{true, false}
use native.Mathlib.Nat.{add-zero, add_assoc, mul-add, mul_assoc, mul_comm}
use native.Mathlib.Omega.{arith}
use lib.Dec.{leb, eqb}
use lib.Pow.{pow-add}
use borrow.Author.Tests.{le-leb, lt-leb, leb-true, leb-false, eq-eqb, ne_eqb}
use Rattle.bits.specs.Bits.{field}
use Rattle.bits.specs.Packed.{Packed, whole, after, earlier_byte, fifth_byte, packed_from, packed, most_bytes}
use Rattle.bits.proofs.ChoiceLaws.{by_cases}
use Rattle.bits.proofs.FieldLaws.{field_field}
use Rattle.bits.specs.declared.Broken.TheVariants.{Cut, GoesOn, Overflows}

-- the same whole number has the same value and the same bytes
value_of : Packed → ℕ
value_of (Ok x) = x.value
value_of (Err why) = 0

bytes_of : Packed → ℕ
bytes_of (Ok x) = x.bytes
bytes_of (Err why) = 0

pub same_value : {v n w m : ℕ} → whole v n ≡ whole w m → v ≡ w
unfolding value_of
same_value e = ap value_of e

pub same_bytes : {v n w m : ℕ} → whole v n ≡ whole w m → n ≡ m
unfolding bytes_of
same_bytes e = ap bytes_of e

-- a group above n others
group_above : (n v g x : ℕ) → v + 2 ^ (7 * n) * (g + 2 ^ (7 * 1) * x) ≡ v + g * 2 ^ (7 * n) + 2 ^ (7 * (n + 1)) * x
group_above n v g x =
    let e : 7 * (n + 1) ≡ 7 * n + 7 = omega arith in
    let q : 2 ^ (7 * (n + 1)) ≡ 2 ^ (7 * n) * 2 ^ 7 = ap (λ (k : ℕ). 2 ^ k) e ∙ pow-add 2 (7 * n) 7 in
    let d : 2 ^ (7 * n) * (g + 2 ^ 7 * x) ≡ 2 ^ (7 * n) * g + 2 ^ (7 * n) * (2 ^ 7 * x) = mul-add (2 ^ (7 * n)) g (2 ^ 7 * x) in
    let m : 2 ^ (7 * n) * 2 ^ 7 * x ≡ 2 ^ (7 * n) * (2 ^ 7 * x) = mul_assoc (2 ^ (7 * n)) (2 ^ 7) x in
    let c : 2 ^ (7 * n) * g ≡ g * 2 ^ (7 * n) = mul_comm (2 ^ (7 * n)) g in
    ap (λ (y : ℕ). v + y) d
    ∙ ap₂ (λ (y z : ℕ). v + (y + z)) c (sym m ∙ ap (λ (y : ℕ). y * x) (sym q))
    ∙ sym (add_assoc v (g * 2 ^ (7 * n)) (2 ^ (7 * (n + 1)) * x))

-- n bytes and one more are n + 1 bytes
pub after_after : (n v g : ℕ) (rest : Packed) → after n v (after 1 g rest) ≡ after (n + 1) (v + g * 2 ^ (7 * n)) rest
unfolding after
after_after n v g (Ok x) = ap₂ whole (group_above n v g x.value) (sym (add_assoc n 1 x.bytes))
after_after n v g (Err (Cut m)) = ap (λ (k : ℕ). Err (Cut k)) (sym (add_assoc n 1 m))
after_after n v g (Err GoesOn) = refl
after_after n v g (Err Overflows) = refl

-- The number of which n bytes worth v are read, and whose next byte stands at bit p.
module _ (n v W len p : ℕ) where
  -- the window ends in that byte
  pub byte_cut : (left : ℕ) → len < p + 8 → after n v (packed_from left W len p) ≡ Err (Cut n)
  unfolding after packed_from
  byte_cut zero h = simp (lt-leb _ _ h, add-zero)
  byte_cut (suc left) h = simp (lt-leb _ _ h, add-zero)

  module _ (b : ℕ) (h : p + 8 ≤ len) (eb : b ≡ field W p 8) where
    ends' : (left : ℕ) → b % 2 ≡ 0 → after n v (packed_from (suc left) W len p) ≡ whole (v + b / 2 * 2 ^ (7 * n)) (n + 1)
    unfolding after packed_from earlier_byte
    ends' left e = simp (le-leb _ _ h, ← eb, eq-eqb _ _ e) (ap (λ (y : ℕ). whole (v + y) (n + 1)) (mul_comm (2 ^ (7 * n)) (b / 2)))

    follows' : (left : ℕ) → (b % 2 ≡ 0 → ⊥)
        → after n v (packed_from (suc left) W len p) ≡ after (n + 1) (v + b / 2 * 2 ^ (7 * n)) (packed_from left W len (p + 8))
    unfolding packed_from earlier_byte
    follows' left e = simp (le-leb _ _ h, ← eb, ne_eqb _ _ e) (after_after n v (b / 2) (packed_from left W len (p + 8)))

    one_less : (left : ℕ) → 0 < left → packed_from left W len p ≡ packed_from (suc (left - 1)) W len p
    one_less left l = let e : left ≡ suc (left - 1) = omega arith in ap (λ (k : ℕ). packed_from k W len p) e

    -- that byte ends it
    pub byte_ends : (left : ℕ) → 0 < left → b % 2 ≡ 0 → after n v (packed_from left W len p) ≡ whole (v + b / 2 * 2 ^ (7 * n)) (n + 1)
    byte_ends left l e = ap (after n v) (one_less left l) ∙ ends' (left - 1) e

    -- another byte follows
    pub byte_follows : (left : ℕ) → 0 < left → (b % 2 ≡ 0 → ⊥)
        → after n v (packed_from left W len p) ≡ after (n + 1) (v + b / 2 * 2 ^ (7 * n)) (packed_from (left - 1) W len (p + 8))
    byte_follows left l e = ap (after n v) (one_less left l) ∙ follows' (left - 1) e

    -- that byte is the fifth
    pub fifth_goes_on : b % 2 ≡ 1 → after n v (packed_from 0 W len p) ≡ Err GoesOn
    unfolding after packed_from fifth_byte
    fifth_goes_on e = simp (le-leb _ _ h, ← eb, ne_eqb (b % 2) 0 (λ z. omega arith))

    pub fifth_over : (b % 2 ≡ 1 → ⊥) → 15 < b / 2 → after n v (packed_from 0 W len p) ≡ Err Overflows
    unfolding after packed_from fifth_byte
    fifth_over e k = let z : b % 2 ≡ 0 = omega arith in simp (le-leb _ _ h, ← eb, eq-eqb _ _ z, lt-leb _ _ k)

    pub fifth_ends : (b % 2 ≡ 1 → ⊥) → b / 2 ≤ 15 → after n v (packed_from 0 W len p) ≡ whole (v + 2 ^ (7 * n) * (b / 2)) (n + 1)
    unfolding after packed_from fifth_byte
    fifth_ends e k = let z : b % 2 ≡ 0 = omega arith in simp (le-leb _ _ h, ← eb, eq-eqb _ _ z, le-leb _ _ k)

-- nothing is read yet
nothing_before : (r : Packed) → after 0 0 r ≡ r
unfolding after
nothing_before (Ok x) = ap₂ whole (omega arith) (omega arith)
nothing_before (Err (Cut m)) = ap (λ (k : ℕ). Err (Cut k)) (omega arith)
nothing_before (Err GoesOn) = refl
nothing_before (Err Overflows) = refl

module _ (W len p : ℕ) where
  from_start : after 0 0 (packed_from 4 W len p) ≡ packed W len p
  unfolding packed
  from_start = nothing_before (packed_from 4 W len p)

  pub packed_cut : len < p + 8 → packed W len p ≡ Err (Cut 0)
  packed_cut h = sym from_start ∙ byte_cut 0 0 W len p 4 h

  module _ (b : ℕ) (h : p + 8 ≤ len) (eb : b ≡ field W p 8) where
    first : 0 + b / 2 * 2 ^ (7 * 0) ≡ b / 2
    first = omega arith

    pub packed_one : b % 2 ≡ 0 → packed W len p ≡ whole (b / 2) 1
    packed_one e = sym from_start ∙ byte_ends 0 0 W len p b h eb 4 (omega arith) e ∙ ap (λ (x : ℕ). whole x 1) first

    pub packed_more : (b % 2 ≡ 0 → ⊥) → packed W len p ≡ after 1 (b / 2) (packed_from 3 W len (p + 8))
    packed_more e =
        sym from_start
        ∙ byte_follows 0 0 W len p b h eb 4 (omega arith) e
        ∙ ap (λ (x : ℕ). after 1 x (packed_from 3 W len (p + 8))) first

-- ---- windows

-- the same test in the window and in the bytes
shifted_in : (start len p : ℕ) → p + 8 ≤ len → leb (start + p + 8) (start + len) ≡ true
shifted_in start len p h = le-leb (start + p + 8) (start + len) (omega arith)

shifted_out : (start len p : ℕ) → len < p + 8 → leb (start + p + 8) (start + len) ≡ false
shifted_out start len p h = lt-leb (start + p + 8) (start + len) (omega arith)

-- a number of a window is one of the bytes that the window lies in
from_window : (left N start len p : ℕ) → packed_from left (field N start len) len p ≡ packed_from left N (start + len) (start + p)
unfolding packed_from
from_window zero N start len p =
    by_cases (leb (p + 8) len)
    (λ k. let h : p + 8 ≤ len = leb-true _ _ k in simp (k, shifted_in start len p h) (ap fifth_byte (field_field N start len p 8 h)))
    (λ k. simp (k, shifted_out start len p (leb-false _ _ k)))
from_window (suc left) N start len p =
    by_cases (leb (p + 8) len)
    (λ k. let h : p + 8 ≤ len = leb-true _ _ k in
    simp (k, shifted_in start len p h)
    (ap₂ earlier_byte (field_field N start len p 8 h)
    (from_window left N start len (p + 8) ∙ ap (λ (q : ℕ). packed_from left N (start + len) q) (sym (add_assoc start p 8)))))
    (λ k. simp (k, shifted_out start len p (leb-false _ _ k)))

pub packed_window : (N start len p : ℕ) → packed (field N start len) len p ≡ packed N (start + len) (start + p)
unfolding packed
packed_window N start len p = from_window 4 N start len p

-- ---- how far a read goes

-- the whole bytes that are read of a number whose next byte may be followed by left more
abbrev pub bytes_read : (left : ℕ) → Packed → ℕ
bytes_read left (Ok x) = x.bytes
bytes_read left (Err (Cut n)) = n
bytes_read left (Err GoesOn) = left + 1
bytes_read left (Err Overflows) = left + 1

read_after : (left g : ℕ) (rest : Packed) → bytes_read (suc left) (after 1 g rest) ≡ 1 + bytes_read left rest
unfolding after
read_after left g (Ok x) = refl
read_after left g (Err (Cut n)) = refl
read_after left g (Err GoesOn) = omega arith
read_after left g (Err Overflows) = omega arith

read_fifth : (b : ℕ) → bytes_read 0 (fifth_byte b) ≡ 1
unfolding fifth_byte
read_fifth b =
    by_cases (eqb (b % 2) 0)
    (λ e. by_cases (leb (b / 2) 15) (λ k. simp (e, k)) (λ k. simp (e, k)))
    (λ e. simp e)

-- they lie in the window
pub read_within : (left W len p : ℕ) → p ≤ len → p + 8 * bytes_read left (packed_from left W len p) ≤ len
unfolding packed_from earlier_byte
read_within zero W len p h =
    by_cases (leb (p + 8) len)
    (λ k. let l : p + 8 ≤ len = leb-true _ _ k in simp k (omega (arith, read_fifth (field W p 8))))
    (λ k. simp k (omega arith))
read_within (suc left) W len p h =
    by_cases (leb (p + 8) len)
    (λ k. let l : p + 8 ≤ len = leb-true _ _ k in
    by_cases (eqb (field W p 8 % 2) 0)
    (λ e. simp (k, e) (omega arith))
    (λ e. simp (k, e)
    (omega (arith, read_after left (field W p 8 / 2) (packed_from left W len (p + 8)), read_within left W len (p + 8) l))))
    (λ k. simp k (omega arith))

-- they are no more than may follow, and that one
read_few : (left W len p : ℕ) → bytes_read left (packed_from left W len p) ≤ left + 1
unfolding packed_from earlier_byte
read_few zero W len p =
    by_cases (leb (p + 8) len)
    (λ k. simp k (omega (arith, read_fifth (field W p 8))))
    (λ k. simp k (omega arith))
read_few (suc left) W len p =
    by_cases (leb (p + 8) len)
    (λ k. by_cases (eqb (field W p 8 % 2) 0)
    (λ e. simp (k, e) (omega arith))
    (λ e. simp (k, e)
    (omega (arith, read_after left (field W p 8 / 2) (packed_from left W len (p + 8)), read_few left W len (p + 8)))))
    (λ k. simp k (omega arith))

pub whole_bytes : (W len p v n : ℕ) → packed W len p ≡ whole v n → n ≤ most_bytes
unfolding packed
whole_bytes W len p v n e = subst (λ (x : Packed). bytes_read 4 x ≤ most_bytes) e (read_few 4 W len p)

module _ (W len p : ℕ) (h : p ≤ len) where
  within : (r : Packed) → packed W len p ≡ r → p + 8 * bytes_read 4 r ≤ len
  unfolding packed
  within r e = subst (λ (x : Packed). p + 8 * bytes_read 4 x ≤ len) e (read_within 4 W len p h)

  pub whole_within : (v n : ℕ) → packed W len p ≡ whole v n → p + 8 * n ≤ len
  whole_within v n e = within (whole v n) e

  pub cut_within : (n : ℕ) → packed W len p ≡ Err (Cut n) → p + 8 * n ≤ len
  cut_within n e = within (Err (Cut n)) e

  -- 8 and 9 come after five bytes
  pub goes_on_within : packed W len p ≡ Err GoesOn → p + 40 ≤ len
  goes_on_within e = within (Err GoesOn) e

  pub overflows_within : packed W len p ≡ Err Overflows → p + 40 ≤ len
  overflows_within e = within (Err Overflows) e
