-- Products and quotients of floats by the fractions that they equal, and where a rounding changes nothing.
use Rattle.std.proofs.Common.{◌≡◌, ℕ, zero, suc, ◌+◌, ◌-◌, ◌*◌, ◌^◌, ◌<◌, ◌≤◌, Bool, true, false, cond, eqb, ℤ, pos, negsuc, nat_abs, sym, refl, ap, ◌∙◌, subst, lt_of_lt_of_le, lt_irrefl, zero-lt-suc, mul_assoc, mul_comm, mul-pos, mul-one, one-mul, zero-mul, arith, pow_pos, pow_mono, pow-add, shl_lt}
use native.Mathlib.Nat.{mul-mul-mul_comm}
use lib.Dec.{eqb-suc-zero}
use lib.Ieee.{Float, nan, inf, fin, Format, binary32, binary64, up, down, unlike, round, mul, div, of_int}
use lib.Ieee.Fits.{down_pos, up_pos}
use lib.Ieee.Exact.{HasValue, round_exact}
use lib.Ieee.Scale.{round_same}
use lib.Ieee.Back.{round_whole}
use Rattle.floats.specs.Numbers.{quotient, rounded, angle, Angle}

-- x is a / c with the sign s, y is b / d with the sign t
pub mul_at : (f : Format) (x y : Float) (s t : Bool) (a c b d : ℕ) → 0 < c → 0 < d → HasValue x s a c → HasValue y t b d → mul f x y ≡ round f (unlike s t) (a * b) (c * d)
unfolding mul
mul_at f nan y s t a c b d C D h k = absurd h
mul_at f (inf u) y s t a c b d C D h k = absurd h
mul_at f (fin u m e) nan s t a c b d C D h k = absurd k
mul_at f (fin u m e) (inf v) s t a c b d C D h k = absurd k
mul_at f (fin u m e) (fin v n g) s t a c b d C D h k =
    ap (λ (w : Bool). round f (unlike w v) (m * up e * (n * up g)) (down e * down g)) h.0
    ∙ ap (λ (w : Bool). round f (unlike s w) (m * up e * (n * up g)) (down e * down g)) k.0
    ∙ round_same f (unlike s t) (m * up e * (n * up g)) (down e * down g) (a * b) (c * d) (mul-pos (down_pos e) (down_pos g)) (mul-pos C D)
    (mul-mul-mul_comm (m * up e) (n * up g) c d ∙ ap (λ (z : ℕ). z * (n * up g * d)) h.1 ∙ ap (λ (z : ℕ). a * down e * z) k.1 ∙ mul-mul-mul_comm a (down e) b (down g))

-- a divisor that is not 0 has an n that is not 0
not_zero : (n u b d v : ℕ) → 0 < b → 0 < v → n * u * d ≡ b * v → (n ≡ 0 → ⊥)
not_zero n u b d v B P h z = lt_irrefl 0 (subst (λ (x : ℕ). 0 < x) (sym h ∙ ap (λ (x : ℕ). x * u * d) z ∙ ap (λ (x : ℕ). x * d) (zero-mul u) ∙ zero-mul d) (mul-pos B P))

pub div_at : (f : Format) (x y : Float) (s t : Bool) (a c b d : ℕ) → 0 < c → 0 < d → 0 < b → HasValue x s a c → HasValue y t b d → div f x y ≡ round f (unlike s t) (a * d) (b * c)
unfolding div
div_at f nan y s t a c b d C D B h k = absurd h
div_at f (inf u) y s t a c b d C D B h k = absurd h
div_at f (fin u m e) nan s t a c b d C D B h k = absurd k
div_at f (fin u m e) (inf v) s t a c b d C D B h k = absurd k
div_at f (fin u m e) (fin v zero g) s t a c b d C D B h k = absurd (not_zero zero (up g) b d (down g) B (down_pos g) k.1 refl)
div_at f (fin u m e) (fin v (suc n) g) s t a c b d C D B h k =
    ap (λ (w : Bool). cond w (cond (eqb m 0) nan (inf (unlike u v))) (round f (unlike u v) (m * up e * down g) (suc n * up g * down e))) (eqb-suc-zero n)
    ∙ ap (λ (w : Bool). round f (unlike w v) (m * up e * down g) (suc n * up g * down e)) h.0
    ∙ ap (λ (w : Bool). round f (unlike s w) (m * up e * down g) (suc n * up g * down e)) k.0
    ∙ round_same f (unlike s t) (m * up e * down g) (suc n * up g * down e) (a * d) (b * c)
    (mul-pos (mul-pos (zero-lt-suc n) (up_pos g)) (down_pos e)) (mul-pos B C)
    (ap (λ (z : ℕ). m * up e * down g * z) (mul_comm b c)
    ∙ mul-mul-mul_comm (m * up e) (down g) c b
    ∙ ap (λ (z : ℕ). z * (down g * b)) h.1
    ∙ ap (λ (z : ℕ). a * down e * z) (mul_comm (down g) b ∙ sym k.1 ∙ mul_comm (suc n * up g) d)
    ∙ mul-mul-mul_comm a (down e) d (suc n * up g)
    ∙ ap (λ (z : ℕ). a * d * z) (mul_comm (down e) (suc n * up g)))

-- ---- a quotient of two integers that the format holds is rounded once
pub once : (z : ℤ) (d : ℕ) (s : Bool) (a : ℕ) → of_int binary64 z ≡ round binary64 s a 1 → a ≤ 2 ^ 53 → 0 < d → d ≤ 2 ^ 53 → quotient z d ≡ round binary64 s a d
unfolding of_int
once z d s a e small D fine =
    ap (λ (x : Float). div binary64 x (round binary64 false d 1)) e
    ∙ div_at binary64 (round binary64 s a 1) (round binary64 false d 1) s false a 1 d 1 (zero-lt-suc 0) (zero-lt-suc 0) D (round_whole binary64 s a small) (round_whole binary64 false d fine)
    ∙ tidy s
  where
    tidy : (s : Bool) → round binary64 (unlike s false) (a * 1) (d * 1) ≡ round binary64 s a d
    tidy true = ap (λ (x : ℕ). round binary64 true x (d * 1)) (omega arith) ∙ ap (round binary64 true a) (omega arith)
    tidy false = ap (λ (x : ℕ). round binary64 false x (d * 1)) (omega arith) ∙ ap (round binary64 false a) (omega arith)

pub quotient_once : (z : ℤ) (d : ℕ) → nat_abs z ≤ 2 ^ 53 → 0 < d → d ≤ 2 ^ 53 → quotient z d ≡ rounded z d
unfolding of_int
quotient_once (pos n) d h D fine = once (pos n) d false n refl h D fine
quotient_once (negsuc n) d h D fine = once (negsuc n) d true (suc n) refl h D fine

-- ---- n / 2 ^ j is a value of binary32, for an n of up to 24 digits
pub dyadic : (s : Bool) (n j : ℕ) → n < 2 ^ 24 → j ≤ 149 → HasValue (round binary32 s n (2 ^ j)) s n (2 ^ j)
dyadic s n j h J =
    round_exact binary32 s n (2 ^ j) n (149 - j) (pow_pos j) h
    (lt_of_lt_of_le (shl_lt 24 (149 - j) h) (pow_mono {i = 24 + (149 - j)} {j = 277} (omega arith)))
    (ap (λ (x : ℕ). n * x) (ap (λ (x : ℕ). 2 ^ x) (back J) ∙ pow-add 2 (149 - j) j) ∙ sym (mul_assoc n (2 ^ (149 - j)) (2 ^ j)))
  where
    back : j ≤ 149 → 149 ≡ (149 - j) + j
    back J = omega arith

-- ---- k steps of 45 / 2 ^ j, y being the step
module _ (k j : ℕ) (y : Float) (step : HasValue y false 45 (2 ^ j)) (h : k < 65536) (J : j ≤ 149) where
  pub steps : mul binary32 (of_int binary32 (pos k)) y ≡ round binary32 false (45 * k) (2 ^ j)
  unfolding of_int
  steps =
      mul_at binary32 (round binary32 false k 1) y false false k 1 45 (2 ^ j) (zero-lt-suc 0) (pow_pos j) (round_whole binary32 false k (omega arith)) step
      ∙ ap (λ (x : ℕ). round binary32 false x (1 * 2 ^ j)) (mul_comm k 45) ∙ ap (round binary32 false (45 * k)) (one-mul (2 ^ j))

  pub steps_exact : HasValue (mul binary32 (of_int binary32 (pos k)) y) false (45 * k) (2 ^ j)
  steps_exact = subst (λ (x : Float). HasValue x false (45 * k) (2 ^ j)) (sym steps) (dyadic false (45 * k) j (omega arith) J)

-- k * 360 / 2 ^ w (01, Bits and numbers) is 45 * k / 2 ^ (w - 3)
pub angle_over : (w k : ℕ) → 3 ≤ w → round binary32 false (45 * k) (2 ^ (w - 3)) ≡ angle w k
angle_over w k lo =
    let p = 2 ^ (w - 3) in
    let eighths : 2 ^ w ≡ p * 8 = ap (λ (x : ℕ). 2 ^ x) (back lo) ∙ pow-add 2 (w - 3) 3 in
    let left : 45 * k * 2 ^ w ≡ 45 * (k * p) * 8 = ap (λ (x : ℕ). 45 * k * x) eighths ∙ sym (mul_assoc (45 * k) p 8) ∙ ap (λ (x : ℕ). x * 8) (mul_assoc 45 k p) in
    let right : k * 360 * p ≡ 360 * (k * p) = ap (λ (x : ℕ). x * p) (mul_comm k 360) ∙ mul_assoc 360 k p in
    round_same binary32 false (45 * k) p (k * 360) (2 ^ w) (pow_pos (w - 3)) (pow_pos w) (left ∙ omega arith ∙ sym right)
  where
    back : 3 ≤ w → w ≡ (w - 3) + 3
    back h = omega arith

-- ---- a number of at most 24 digits over a power of 2
pub whole_over : (n j : ℕ) → n ≤ 2 ^ 24 → j ≤ 24 → div binary32 (of_int binary32 (pos n)) (of_int binary32 (pos (2 ^ j))) ≡ round binary32 false n (2 ^ j)
unfolding of_int
whole_over n j h J =
    div_at binary32 (of_int binary32 (pos n)) (of_int binary32 (pos (2 ^ j))) false false n 1 (2 ^ j) 1 (zero-lt-suc 0) (zero-lt-suc 0) (pow_pos j)
    (round_whole binary32 false n h) (round_whole binary32 false (2 ^ j) (pow_mono {i = j} {j = 24} J))
    ∙ ap (λ (x : ℕ). round binary32 false x (2 ^ j * 1)) (mul-one n) ∙ ap (round binary32 false n) (mul-one (2 ^ j))

-- ---- a rotation's angle: no rounding changes it
module _ (w k : ℕ) (lo : 3 ≤ w) (hi : w ≤ 16) (few : k < 2 ^ w) where
  small : 45 * k < 2 ^ 24
  small = let m : 2 ^ w ≤ 2 ^ 16 = pow_mono {i = w} {j = 16} hi in omega arith

  pub exact_angle : Angle w k (angle w k)
  exact_angle =
      record {
        value = refl;
        exact = subst (λ (x : Float). HasValue x false (45 * k) (2 ^ (w - 3))) (angle_over w k lo) (dyadic false (45 * k) (w - 3) small (omega arith));
      }

  -- so made, it is that angle
  pub divided_angle : Angle w k (div binary32 (of_int binary32 (pos (45 * k))) (of_int binary32 (pos (2 ^ (w - 3)))))
  divided_angle = subst (Angle w k) (sym (whole_over (45 * k) (w - 3) (omega (arith, small)) (omega arith) ∙ angle_over w k lo)) exact_angle

-- k steps of 360 / 2 ^ w, y being the step: their product is that angle too
pub product_angle : (w k : ℕ) (y : Float) → 3 ≤ w → w ≤ 16 → HasValue y false 45 (2 ^ (w - 3)) → k < 65536 → Angle w k (mul binary32 (of_int binary32 (pos k)) y)
product_angle w k y lo hi step h =
    record { value = steps k (w - 3) y step h (omega arith) ∙ angle_over w k lo; exact = steps_exact k (w - 3) y step h (omega arith) }

-- k steps of w bits are k * 2 ^ (16 - w) steps of 16 bits
module _ (w k : ℕ) (hi : w ≤ 16) (few : k < 2 ^ w) where
  back_to_16 : w + (16 - w) ≡ 16
  back_to_16 = omega arith

  pub short_steps : k * 2 ^ (16 - w) < 65536
  short_steps = subst (λ (x : ℕ). k * 2 ^ (16 - w) < 2 ^ x) back_to_16 (shl_lt {a = k} w (16 - w) few)

  pub as_short : (r : Float) → 3 ≤ w → Angle 16 (k * 2 ^ (16 - w)) r → Angle w k r
  as_short r lo a =
      let q = 2 ^ (16 - w) in
      let whole : q * 2 ^ w ≡ 65536 = mul_comm q (2 ^ w) ∙ sym (pow-add 2 w (16 - w)) ∙ ap (λ (x : ℕ). 2 ^ x) back_to_16 in
      let cross : k * q * 360 * 2 ^ w ≡ k * 360 * 65536 = mul_assoc (k * q) 360 (2 ^ w) ∙ mul-mul-mul_comm k q 360 (2 ^ w) ∙ ap (λ (x : ℕ). k * 360 * x) whole in
      let value : r ≡ angle w k = a.value ∙ round_same binary32 false (k * q * 360) 65536 (k * 360) (2 ^ w) (zero-lt-suc 65535) (pow_pos w) cross in
      subst (Angle w k) (sym value) (exact_angle w k lo hi few)

-- the angle of 0 is +0
pub angle_zero : (angle 8 0 ≡ fin false 0 (pos 0)) × (angle 16 0 ≡ fin false 0 (pos 0))
unfolding round
angle_zero = (refl, refl)
