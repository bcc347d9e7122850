-- A packed number is refused exactly when, and in the order that, document 01 says: 14, 7, 8, 9. By how many whole bytes say that another follows.
use Rattle.std.specs.Prelude.{if◌then◌else◌, Result}
use Prim.Native.Nat.{ℕ, zero, suc, ◌+◌, ◌*◌, ◌/◌, ◌%◌, ◌≤◌, ◌<◌}
use mathlib.Core.Path.{◌≡◌, refl, ap, ◌∙◌, subst}
use mathlib.Core.Bool.{Bool, true, false, ◌&&◌}
use mathlib.Core.List.{List}
use native.Mathlib.Omega.{arith}
use lib.Dec.{leb, ltb, eqb}
use borrow.Author.Tests.{leb-true, leb-false, eqb-true, eqb-false, lt-ltb, le-ltb, eq-eqb, ne_eqb}
use Rattle.bits.specs.Bits.{field}
use Rattle.bits.specs.Packed.{Packed, most_bytes, fifth_most, after, earlier_byte, fifth_byte, packed_from, packed}
use Rattle.bits.specs.Refusals.{first_of}
use Rattle.bits.specs.declared.Broken.TheVariants as Num
use Rattle.std.specs.Prelude.{Err}
use Rattle.bits.specs.Packed as N
use Rattle.bitio.specs.Cursors.{good, window, at_cursor}
use Rattle.bitio.specs.Numbers.{packed_answer, read_int_packed_lem}
use Rattle.bitio.specs.Order.{refusal_of}
use Rattle.bits.proofs.ChoiceLaws.{by_cases}
use Rattle.bitio.specs.declared.Cursor.{Cursor}
use Rattle.bitio.specs.declared.PackedNumber.{PackedNumber}
use Rattle.bitio.specs.declared.Read.{Read}
use Rattle.bitio.specs.declared.Refusal.{Refusal}
use Rattle.promises.specs.ReadOrders.{following, packed_parts, packed_rules}

-- what a number comes to behind whose first n bytes another follows, where `left` may follow the first
pub data Packs (left W len p n : ℕ) : Packed → Type 0 where
  whole : {v m : ℕ} → m ≡ suc n → n ≤ left → p + 8 * n + 8 ≤ len → (n ≡ left → field W (p + 8 * n) 8 / 2 ≤ fifth_most)
      → Packs left W len p n (N.whole v m)
  cut : {m : ℕ} → m ≡ n → n ≤ left → len < p + 8 * n + 8 → Packs left W len p n (Err (Num.Cut m))
  goes_on : n ≡ suc left → Packs left W len p n (Err Num.GoesOn)
  overflows : n ≡ left → p + 8 * n + 8 ≤ len → fifth_most < field W (p + 8 * n) 8 / 2 → Packs left W len p n (Err Num.Overflows)

-- one byte further in front
further : (left W len p n v : ℕ) (x : Packed) → Packs left W len (p + 8) n x → Packs (suc left) W len p (suc n) (after 1 v x)
unfolding after
further left W len p n v x (whole {m = m} e h k f) =
    whole {m = 1 + m} (omega arith) (omega arith) (omega arith)
    (λ g. subst (λ (q : ℕ). field W q 8 / 2 ≤ fifth_most) (let q : p + 8 + 8 * n ≡ p + 8 * suc n = omega arith in q) (f (omega arith)))
further left W len p n v x (cut {m = m} e h k) = cut {m = 1 + m} (omega arith) (omega arith) (omega arith)
further left W len p n v x (goes_on e) = goes_on (omega arith)
further left W len p n v x (overflows e h k) =
    overflows (omega arith) (omega arith)
    (subst (λ (q : ℕ). fifth_most < field W q 8 / 2) (let q : p + 8 + 8 * n ≡ p + 8 * suc n = omega arith in q) k)

-- a byte's low bit
even : (b : ℕ) → eqb (b % 2) 0 ≡ true → eqb (b % 2) 1 ≡ false
even b e = ne_eqb (b % 2) 1 (λ g. let h = eqb-true (b % 2) 0 e in omega arith)

odd : (b : ℕ) → eqb (b % 2) 0 ≡ false → eqb (b % 2) 1 ≡ true
odd b e = let h = eqb-false (b % 2) 0 e in eq-eqb (b % 2) 1 (by_cases (eqb (b % 2) 1) (λ g. eqb-true (b % 2) 1 g) (λ g. let k = eqb-false (b % 2) 1 g in absurd (k (omega arith))))

-- no byte behind bit p says that another follows
here : (p : ℕ) → p ≡ p + 8 * 0
here p = omega arith

-- the fifth byte, which is even
last_byte : (W len p : ℕ) → p + 8 ≤ len → Packs 0 W len p 0 (if leb (field W p 8 / 2) fifth_most then N.whole (field W p 8 / 2) 1 else Err Num.Overflows)
last_byte W len p h = go (leb (field W p 8 / 2) fifth_most) refl
  where
    go : (b : Bool) → leb (field W p 8 / 2) fifth_most ≡ b → Packs 0 W len p 0 (if b then N.whole (field W p 8 / 2) 1 else Err Num.Overflows)
    go true e =
        whole refl (omega arith) (omega arith)
        (λ g. subst (λ (q : ℕ). field W q 8 / 2 ≤ fifth_most) (here p) (leb-true (field W p 8 / 2) fifth_most e))
    go false e = overflows refl (omega arith) (subst (λ (q : ℕ). fifth_most < field W q 8 / 2) (here p) (leb-false (field W p 8 / 2) fifth_most e))

-- Every number comes to what its bytes say.
pub packs : (left W len p : ℕ) → Packs left W len p (following (suc left) W len p) (packed_from left W len p)
unfolding following packed_from fifth_byte earlier_byte
packs zero W len p = go (leb (p + 8) len) refl (eqb (field W p 8 % 2) 0) refl
  where
    go : (a : Bool) → leb (p + 8) len ≡ a → (b : Bool) → eqb (field W p 8 % 2) 0 ≡ b → Packs 0 W len p (following 1 W len p) (packed_from 0 W len p)
    go false e b f = rw e (cut refl (omega arith) (let k = leb-false (p + 8) len e in omega arith))
    go true e true f = rw (e, f, even (field W p 8) f) (last_byte W len p (leb-true (p + 8) len e))
    go true e false f = rw (e, f, odd (field W p 8) f) (goes_on refl)
packs (suc left) W len p = go (packs left W len (p + 8)) (leb (p + 8) len) refl (eqb (field W p 8 % 2) 0) refl
  where
    go : Packs left W len (p + 8) (following (suc left) W len (p + 8)) (packed_from left W len (p + 8)) → (a : Bool) → leb (p + 8) len ≡ a
        → (b : Bool) → eqb (field W p 8 % 2) 0 ≡ b → Packs (suc left) W len p (following (suc (suc left)) W len p) (packed_from (suc left) W len p)
    go rest false e b f = rw e (cut refl (omega arith) (let k = leb-false (p + 8) len e in omega arith))
    go rest true e true f = rw (e, f, even (field W p 8) f) (whole refl (omega arith) (let k = leb-true (p + 8) len e in omega arith) (λ g. absurd (omega arith)))
    go rest true e false f =
        rw (e, f, odd (field W p 8) f) (further left W len p (following (suc left) W len (p + 8)) (field W p 8 / 2) (packed_from left W len (p + 8)) rest)

-- ---- the three rules

abbrev cut_test : (len p n : ℕ) → Bool
cut_test len p n = ltb n most_bytes && ltb len (p + 8 * n + 8)

abbrev large_test : (W p n : ℕ) → Bool
large_test W p n = eqb (suc n) most_bytes && ltb fifth_most (field W (p + 8 * n) 8 / 2)

-- which of them holds of a number
pub data Tested (W len p n : ℕ) : Packed → Type 0 where
  fine : {v m : ℕ} → m ≡ suc n → p + 8 * n + 8 ≤ len → cut_test len p n ≡ false → eqb n most_bytes ≡ false → large_test W p n ≡ false
      → Tested W len p n (N.whole v m)
  lacks : {m : ℕ} → m ≡ n → cut_test len p n ≡ true → Tested W len p n (Err (Num.Cut m))
  sixth : cut_test len p n ≡ false → eqb n most_bytes ≡ true → Tested W len p n (Err Num.GoesOn)
  large : cut_test len p n ≡ false → eqb n most_bytes ≡ false → large_test W p n ≡ true → Tested W len p n (Err Num.Overflows)

tested : (W len p n : ℕ) (x : Packed) → Packs 4 W len p n x → Tested W len p n x
tested W len p n x (whole e h k f) =
    fine e k (simp (lt-ltb n most_bytes (omega arith), le-ltb len (p + 8 * n + 8) k)) (ne_eqb n most_bytes (λ g. omega arith))
    (by_cases (eqb (suc n) most_bytes)
    (λ g. simp (g, le-ltb fifth_most (field W (p + 8 * n) 8 / 2) (f (let i = eqb-true (suc n) most_bytes g in omega arith))))
    (λ g. simp g))
tested W len p n x (cut e h k) = lacks e (simp (lt-ltb n most_bytes (omega arith), lt-ltb len (p + 8 * n + 8) k))
tested W len p n x (goes_on e) = sixth (simp (le-ltb n most_bytes (omega arith))) (eq-eqb n most_bytes e)
tested W len p n x (overflows e h k) =
    large (simp (lt-ltb n most_bytes (omega arith), le-ltb len (p + 8 * n + 8) h)) (ne_eqb n most_bytes (λ g. omega arith))
    (simp (eq-eqb (suc n) most_bytes (omega arith), lt-ltb fifth_most (field W (p + 8 * n) 8 / 2) k))

-- Of every packed number one rule holds, or none and it is whole.
pub packed_tested : (W len p : ℕ) → Tested W len p (following most_bytes W len p) (packed W len p)
unfolding packed
packed_tested W len p = tested W len p (following most_bytes W len p) (packed_from 4 W len p) (packs 4 W len p)

-- ---- `read_int_packed`

parts_order : (W len p n : ℕ) (x : Packed) → Tested W len p n x → refusal_of (packed_answer len p x) ≡ first_of (packed_parts W len p n)
unfolding packed_answer first_of
parts_order W len p n x (fine e h f g k) = simp (f, g, k)
parts_order W len p n x (lacks e f) = simp (e, f)
parts_order W len p n x (sixth f g) = simp (f, g)
parts_order W len p n x (large f g k) = simp (f, g, k)

-- Behind a good cursor its parts decide.
pub packed_order : (s : List ℕ) (c : Cursor) → refusal_of (read_int_packed_lem s c) ≡ first_of (packed_rules s c)
unfolding at_cursor first_of
packed_order s c =
    by_cases (good s c)
    (λ g. simp g (parts_order (window s c) c.len c.pos (following most_bytes (window s c) c.len c.pos) (packed (window s c) c.len c.pos) (packed_tested (window s c) c.len c.pos)))
    (λ g. simp g)

-- A packed number gives 14, 7, 8, 9.
pub refused_read_int_packed : (s : List ℕ) (c : Cursor) (r : Result (Read PackedNumber) Refusal) → r ≡ read_int_packed_lem s c → refusal_of r ≡ first_of (packed_rules s c)
refused_read_int_packed s c r f = ap refusal_of f ∙ packed_order s c
