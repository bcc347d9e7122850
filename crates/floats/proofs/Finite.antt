-- A quotient of an integer of at most 63 bits by one from 1 to 2 ^ 53 is finite; an axis of a normal is one.
use Rattle.std.proofs.Common.{◌≡◌, ℕ, zero, suc, ◌+◌, ◌-◌, ◌*◌, ◌/◌, ◌%◌, ◌^◌, ◌<◌, ◌≤◌, Bool, true, false, cond, not, T, eqb, ltb, ◌⊎◌, ℤ, pos, negsuc, nat_abs, sym, refl, ap, ◌∙◌, subst, inl, inr, le_trans, le_of_eq, mul-le-mul_right, zero-lt-suc, mul_assoc, mul_comm, mul-le-mul, mul-pos, mul-one, arith, lit≤}
use Prim.Native.Nat.{compare}
use lib.Dec.{eqb-suc-zero}
use lib.IntN.{sub_ℕ}
use lib.Ieee.{Float, nan, inf, fin, Format, binary64, prec, low, emax, up, down, unlike, size, nearest, odd, units, round, neg, div, of_int, le}
use lib.Ieee.Scale.{finite}
use lib.Ieee.Order.{round_mono}
use lib.Ieee.Positive.{positive, num, den, den_pos, own_value, value_pos, between, le→cross}
use Rattle.floats.specs.Numbers.{quotient, normal_axis_lem}
use Rattle.floats.proofs.Rounding.{quotient_once}

-- ---- a sign goes through `round` and `div`
odd_neg : (d : ℕ) (s : Bool) (q k l : ℕ) → odd d (not s) q k l ≡ neg (odd d s q k l)
unfolding odd neg
odd_neg d s zero k l = refl
odd_neg d s (suc q) k l = refl

units_neg : (f : Format) (s : Bool) (q k : ℕ) → units f (not s) q k ≡ neg (units f s q k)
unfolding units neg
units_neg f s q k = go (ltb (q * 2 ^ k) (2 ^ (low f + suc (emax f))))
  where
    go : (b : Bool) → cond b (odd (suc (prec f)) (not s) q k (low f)) (inf (not s)) ≡ neg (cond b (odd (suc (prec f)) s q k (low f)) (inf s))
    go true = odd_neg (suc (prec f)) s q k (low f)
    go false = refl

pub round_neg : (f : Format) (s : Bool) (a b : ℕ) → round f (not s) a b ≡ neg (round f s a b)
unfolding round
round_neg f s a b =
    let n = a * 2 ^ low f in
    let k = size (n / b) - prec f in
    let u = b * 2 ^ k in
    units_neg f s (nearest (n / u) (compare (n % u * 2) u)) k

unlike_neg : (s t : Bool) → unlike (not s) t ≡ not (unlike s t)
unlike_neg true true = refl
unlike_neg true false = refl
unlike_neg false true = refl
unlike_neg false false = refl

pub div_neg : (f : Format) (x y : Float) → div f (neg x) y ≡ neg (div f x y)
unfolding div neg
div_neg f nan y = refl
div_neg f (inf s) nan = refl
div_neg f (inf s) (inf t) = refl
div_neg f (inf s) (fin t n d) = ap inf (unlike_neg s t)
div_neg f (fin s m e) nan = refl
div_neg f (fin s m e) (inf t) = ap (λ (b : Bool). fin b 0 (pos 0)) (unlike_neg s t)
div_neg f (fin s m e) (fin t n d) = go (eqb n 0) (eqb m 0)
  where
    go : (p q : Bool) → cond p (cond q nan (inf (unlike (not s) t))) (round f (unlike (not s) t) (m * up e * down d) (n * up d * down e))
        ≡ neg (cond p (cond q nan (inf (unlike s t))) (round f (unlike s t) (m * up e * down d) (n * up d * down e)))
    go true true = refl
    go true false = ap inf (unlike_neg s t)
    go false q = ap (λ (b : Bool). round f b (m * up e * down d) (n * up d * down e)) (unlike_neg s t) ∙ round_neg f (unlike s t) (m * up e * down d) (n * up d * down e)

finite_neg : (x : Float) → finite (neg x) ≡ finite x
unfolding neg
finite_neg nan = refl
finite_neg (inf s) = refl
finite_neg (fin s m e) = refl

-- ---- a fraction up to 2 ^ 64 rounds to a finite value
either : (f : Format) (a b : ℕ) → (finite (round f false a b) ≡ true) ⊎ (round f false a b ≡ inf false)
unfolding round units odd
either f a b =
    let n = a * 2 ^ low f in
    let k = size (n / b) - prec f in
    let u = b * 2 ^ k in
    let q = nearest (n / u) (compare (n % u * 2) u) in
    go (ltb (q * 2 ^ k) (2 ^ (low f + suc (emax f)))) q k
  where
    fine : (q k : ℕ) → finite (odd (suc (prec f)) false q k (low f)) ≡ true
    fine zero k = refl
    fine (suc q) k = refl

    go : (t : Bool) (q k : ℕ) → (finite (cond t (odd (suc (prec f)) false q k (low f)) (inf false)) ≡ true) ⊎ (cond t (odd (suc (prec f)) false q k (low f)) (inf false) ≡ inf false)
    go true q k = inl (fine q k)
    go false q k = inr refl

ceiling : round binary64 false (2 ^ 64) 1 ≡ fin false 1 (pos 64)
unfolding round
ceiling = refl

not_above : (x : Float) → x ≡ inf false → T (le x (fin false 1 (pos 64))) → ⊥
unfolding le
not_above x e h = subst (λ (y : Float). T (le y (fin false 1 (pos 64)))) e h

pub round_finite : (a b : ℕ) → 0 < b → a ≤ 2 ^ 64 * b → finite (round binary64 false a b) ≡ true
round_finite a b B h =
    go (either binary64 a b)
    (subst (λ (y : Float). T (le (round binary64 false a b) y)) ceiling (round_mono binary64 a b (2 ^ 64) 1 B (zero-lt-suc 0) (le_trans (le_of_eq (mul-one a)) h)))
  where
    go : (finite (round binary64 false a b) ≡ true) ⊎ (round binary64 false a b ≡ inf false) → T (le (round binary64 false a b) (fin false 1 (pos 64))) → finite (round binary64 false a b) ≡ true
    go (inl e) t = e
    go (inr e) t = absurd (not_above (round binary64 false a b) e t)

-- ---- the quotient of two values above zero
div_is : (f : Format) (x y : Float) → T (positive x) → T (positive y) → div f x y ≡ round f false (num x * den y) (num y * den x)
unfolding div
div_is f nan y p q = absurd p
div_is f (inf s) y p q = absurd p
div_is f (fin true m e) y p q = absurd p
div_is f (fin false m e) nan p q = absurd q
div_is f (fin false m e) (inf t) p q = absurd q
div_is f (fin false m e) (fin true n d) p q = absurd q
div_is f (fin false m e) (fin false zero d) p q = absurd q
div_is f (fin false m e) (fin false (suc n) d) p q =
    ap (λ (w : Bool). cond w (cond (eqb m 0) nan (inf false)) (round f false (m * up e * down d) (suc n * up d * down e))) (eqb-suc-zero n)

-- 1 and 2 ^ 63, and what lies between
one : round binary64 false 1 1 ≡ fin false 1 (pos 0)
unfolding round
one = refl

most : round binary64 false (2 ^ 63) 1 ≡ fin false 1 (pos 63)
unfolding round
most = refl

module _ (a : ℕ) (lo : 1 ≤ a) (hi : a ≤ 2 ^ 63) where
  from_one : T (le (fin false 1 (pos 0)) (round binary64 false a 1))
  from_one = subst (λ (y : Float). T (le y (round binary64 false a 1))) one (round_mono binary64 1 1 a 1 (zero-lt-suc 0) (zero-lt-suc 0) (omega arith))

  to_most : T (le (round binary64 false a 1) (fin false 1 (pos 63)))
  to_most = subst (λ (y : Float). T (le (round binary64 false a 1) y)) most (round_mono binary64 a 1 (2 ^ 63) 1 (zero-lt-suc 0) (zero-lt-suc 0) (omega arith))

  is_positive : T (positive (round binary64 false a 1))
  is_positive = between (fin false 1 (pos 0)) (round binary64 false a 1) (fin false 1 (pos 63)) tt tt from_one to_most

  at_least : den (round binary64 false a 1) ≤ num (round binary64 false a 1)
  at_least = omega (arith, le→cross (fin false 1 (pos 0)) (round binary64 false a 1) tt is_positive from_one)

  at_most : num (round binary64 false a 1) ≤ 9223372036854775808 * den (round binary64 false a 1)
  at_most = omega (arith, le→cross (round binary64 false a 1) (fin false 1 (pos 63)) is_positive tt to_most)

bound : (x p y q : ℕ) → x ≤ 9223372036854775808 * p → q ≤ y → x * q ≤ 2 ^ 64 * (y * p)
bound x p y q h k =
    le_trans (mul-le-mul h k)
    (le_trans (le_of_eq (mul_assoc 9223372036854775808 p y ∙ ap (λ (z : ℕ). 9223372036854775808 * z) (mul_comm p y))) (mul-le-mul_right (y * p) (lit≤ tt)))

positive_quotient : (a d : ℕ) → 1 ≤ a → a ≤ 2 ^ 63 → 1 ≤ d → d ≤ 2 ^ 53 → finite (quotient (pos a) d) ≡ true
unfolding of_int
positive_quotient a d lo hi D E =
    let x = round binary64 false a 1 in
    let y = round binary64 false d 1 in
    let F : d ≤ 2 ^ 63 = omega arith in
    ap finite (div_is binary64 x y (is_positive a lo hi) (is_positive d D F))
    ∙ round_finite (num x * den y) (num y * den x) (mul-pos (num_pos y (is_positive d D F)) (den_pos x)) (bound (num x) (den x) (num y) (den y) (at_most a lo hi) (at_least d D F))
  where
    num_pos : (y : Float) → T (positive y) → 0 < num y
    num_pos y p = value_pos y (num y) (den y) p (den_pos y) (own_value y p)

pub quotient_finite : (z : ℤ) (d : ℕ) → nat_abs z ≤ 2 ^ 63 → 1 ≤ d → d ≤ 2 ^ 53 → finite (quotient z d) ≡ true
unfolding of_int
quotient_finite (pos zero) d h D E = ap finite (quotient_once (pos zero) d (lit≤ tt) D E) ∙ round_finite 0 d D (omega arith)
quotient_finite (pos (suc n)) d h D E = positive_quotient (suc n) d (omega arith) h D E
quotient_finite (negsuc n) d h D E =
    ap (λ (x : Float). finite (div binary64 x (round binary64 false d 1))) (round_neg binary64 false (suc n) 1)
    ∙ ap finite (div_neg binary64 (round binary64 false (suc n) 1) (round binary64 false d 1))
    ∙ finite_neg (div binary64 (round binary64 false (suc n) 1) (round binary64 false d 1))
    ∙ positive_quotient (suc n) d (omega arith) h D E

-- an axis of a normal is such a quotient
small_difference : (k : ℕ) → k < 65536 → nat_abs (sub_ℕ k 32768) ≤ 32768
small_difference k h = go (ltb k 32768)
  where
    go : (b : Bool) → nat_abs (cond b (negsuc (32768 - suc k)) (pos (k - 32768))) ≤ 32768
    go true = omega arith
    go false = omega arith

pub normal_finite : (k : ℕ) → k < 65536 → finite (normal_axis_lem k) ≡ true
normal_finite k h =
    let z = sub_ℕ k 32768 in
    let small : nat_abs z ≤ 32768 = small_difference k h in
    ap finite (sym (quotient_once z 32767 (omega arith) (omega arith) (omega arith))) ∙ quotient_finite z 32767 (omega arith) (omega arith) (omega arith)
