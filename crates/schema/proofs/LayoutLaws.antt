-- The laws of the layout's tests: a conjunction by its first part that fails, the parts of one that holds, and a test of all numbers.
use mathlib.Core.Path.{◌≡◌, refl, sym, ap, ◌∙◌}
use mathlib.Core.Bool.{Bool, true, false, ◌&&◌}
use Prim.Native.Nat.{ℕ, zero, suc, ◌+◌, ◌-◌, ◌≤◌, ◌<◌}
use native.Mathlib.Omega.{arith}
use lib.Dec.{eqb}
use borrow.Author.Tests.{eqb-true, eqb-false}
use Rattle.std.specs.List.{list_all, range_with_len}
use Rattle.bits.proofs.ChoiceLaws.{and_true}
use Rattle.schema.specs.Layout.{all_from}

-- x answers the first part, and y the second
pub refused : (a b x : Bool) → x ≡ a → x ≡ false → false ≡ (a && b)
refused a b x e h = let f : a ≡ false = sym e ∙ h in rw f

pub passed : (a b x y : Bool) → x ≡ a → x ≡ true → y ≡ b → y ≡ (a && b)
passed a b x y e h q = let f : a ≡ true = sym e ∙ h in rw f q

-- the same of three parts
pub refused_first : (a b c x : Bool) → x ≡ a → x ≡ false → false ≡ (a && b && c)
refused_first a b c x e h = let f : a ≡ false = sym e ∙ h in rw f

pub refused_second : (a b c x y : Bool) → x ≡ a → x ≡ true → y ≡ b → y ≡ false → false ≡ (a && b && c)
refused_second a b c x y e h f k = refused (a && b) c y (passed a b x y e h f) k

pub passed_both : (a b c x y z : Bool) → x ≡ a → x ≡ true → y ≡ b → y ≡ true → z ≡ c → z ≡ (a && b && c)
passed_both a b c x y z e h f k g = passed (a && b) c y z (passed a b x y e h f) k g

-- and back: the parts of what holds
pub and_left : (a b : Bool) → (a && b) ≡ true → a ≡ true
and_left a b e = (and_true a b e).0

pub and_right : (a b : Bool) → (a && b) ≡ true → b ≡ true
and_right a b e = (and_true a b e).1

pub and_three : (a b c : Bool) → (a && b && c) ≡ true → (a ≡ true) × (b ≡ true) × (c ≡ true)
and_three a b c e =
    let f = and_left (a && b) c e in
    (and_left a b f, and_right a b f, and_right (a && b) c e)

-- a test that holds of all numbers holds of each
pub all_at : (n : ℕ) (test : ℕ → Bool) (a : ℕ) → all_from n test a ≡ true → (i : ℕ) → a ≤ i → i < a + n → test i ≡ true
unfolding all_from
all_at zero test a e i h k = absurd (omega arith)
all_at (suc n) test a e i h k =
    go (eqb a i) refl (λ l. all_at n test (a + 1) (and_right (test a) (all_from n test (a + 1)) e) i l (omega arith))
  where
    go : (b : Bool) → eqb a i ≡ b → (a + 1 ≤ i → test i ≡ true) → test i ≡ true
    go true q rest = ap test (sym (eqb-true a i q)) ∙ and_left (test a) (all_from n test (a + 1)) e
    go false q rest = let m = eqb-false a i q in rest (omega arith)

-- the numbers from a on, as a range gives them
pub all_in_range : (test : ℕ → Bool) (n a : ℕ) → list_all test (range_with_len a n) ≡ all_from n test a
unfolding all_from
all_in_range test zero a = refl
all_in_range test (suc n) a = ap (λ (b : Bool). test a && b) (all_in_range test n (a + 1))

-- all numbers below n, one after the other from the last on
module _ (test : ℕ → Bool) (n : ℕ) where
  opened : (i : ℕ) → 0 < i → i ≤ n → all_from (n - (i - 1)) test (i - 1) ≡ (test (i - 1) && all_from (n - i) test i)
  unfolding all_from
  opened i h k =
      let e : n - (i - 1) ≡ suc (n - i) = omega arith in
      let f : i - 1 + 1 ≡ i = omega arith in
      ap (λ (m : ℕ). all_from m test (i - 1)) e ∙ ap (λ (j : ℕ). test (i - 1) && all_from (n - i) test j) f

  pub all_no : (i : ℕ) (x : Bool) → 0 < i → i ≤ n → x ≡ test (i - 1) → x ≡ false → false ≡ all_from (n - (i - 1)) test (i - 1)
  all_no i x h k e q = refused (test (i - 1)) (all_from (n - i) test i) x e q ∙ sym (opened i h k)

  pub all_yes : (i : ℕ) (x y : Bool) → 0 < i → i ≤ n → x ≡ test (i - 1) → x ≡ true → y ≡ all_from (n - i) test i
      → y ≡ all_from (n - (i - 1)) test (i - 1)
  all_yes i x y h k e q r = passed (test (i - 1)) (all_from (n - i) test i) x y e q r ∙ sym (opened i h k)
