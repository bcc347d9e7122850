-- Which bit patterns are finite numbers: those that, without the sign's bit, are below the infinity's.
use Rattle.std.proofs.Common.{◌≡◌, ℕ, zero, suc, ◌+◌, ◌-◌, ◌*◌, ◌/◌, ◌%◌, ◌^◌, ◌<◌, ◌≤◌, Bool, true, false, cond, not, ◌&&◌, T, eqb, ltb, leb, sym, refl, ap, ◌∙◌, subst, mod-lt, mul_comm, div-lt_iff_lt-mul, mul-pos, le-div_iff_mul-le, mul-one, arith, ltb→lt, nltb→le, pow_pos, eq-eqb, ne_eqb}
use lib.Ieee.{Float, nan, inf, fin, Format, binary32, binary64, prec, low, odd, hid, ones, top, of_fields, of_bits, nan_bits, is_nan, fits}
use lib.Ieee.Exact.{HasValue, odd_sign}
use Rattle.floats.specs.Numbers.{field_units}
use lib.Ieee.Bits.{of_bits-fits, nan_bits_is}
use lib.Ieee.Fits.{fits_widens, and_i}
use lib.Ieee.Scale.{finite}

odd_finite : (d : ℕ) (s : Bool) (q k l : ℕ) → finite (odd d s q k l) ≡ true
unfolding odd
odd_finite d s zero k l = refl
odd_finite d s (suc q) k l = refl

by_tests : (a b : Bool) (s : Bool) (v : Float) → finite v ≡ true → finite (cond a (cond b (inf s) nan) v) ≡ not a
by_tests true true s v h = refl
by_tests true false s v h = refl
by_tests false b s v h = h

ones_pos : (f : Format) → 0 < ones f
ones_pos f = omega arith

fields_finite : (f : Format) (s : Bool) (x t : ℕ) → finite (of_fields f s x t) ≡ not (eqb x (ones f))
unfolding of_fields
fields_finite f s zero t = odd_finite (prec f) s t 0 (low f) ∙ sym (ap not (ne_eqb 0 (ones f) (λ e. never (ones f) (ones_pos f) e)))
  where
    never : (n : ℕ) → 0 < n → 0 ≡ n → ⊥
    never n h e = omega arith
fields_finite f s (suc x) t = by_tests (eqb (suc x) (ones f)) (eqb t 0) s (odd (prec f) s (hid f + t) x (low f)) (odd_finite (prec f) s (hid f + t) x (low f))

-- x / h is the last field only from o * h on
at_last : (o h r : ℕ) → 0 < h → r < h * suc o → not (eqb (r / h) o) ≡ ltb r (o * h)
at_last o h r H l = go (ltb r (o * h)) (ltb→lt r (o * h)) (nltb→le r (o * h))
  where
    ne : (q : ℕ) → q < o → (q ≡ o → ⊥)
    ne q a b = omega arith

    same : (q : ℕ) → o ≤ q → q < suc o → q ≡ o
    same q a b = omega arith

    go : (t : Bool) → (T t → r < o * h) → (T (not t) → o * h ≤ r) → not (eqb (r / h) o) ≡ t
    go true a b = ap not (ne_eqb (r / h) o (ne (r / h) ((div-lt_iff_lt-mul H).1 (a tt))))
    go false a b = ap not (eq-eqb (r / h) o (same (r / h) ((le-div_iff_mul-le H).1 (b tt)) ((div-lt_iff_lt-mul H).1 (subst (λ (x : ℕ). r < x) (mul_comm h (suc o)) l))))

pub finite_below : (f : Format) (n : ℕ) → finite (of_bits f n) ≡ ltb (n % top f) (ones f * hid f)
unfolding of_bits
finite_below f n =
    fields_finite f (leb (top f) n) (n % top f / hid f) (n % hid f)
    ∙ at_last (ones f) (hid f) (n % top f) (pow_pos (prec f - 1)) (mod-lt n (mul-pos (pow_pos (prec f - 1)) (omega arith)))

-- what a finite pattern's float is not
no_nan : (x : Float) → finite x ≡ true → T (not (is_nan x))
unfolding is_nan
no_nan nan h = let z : ◌≡◌ {A = Bool} true false = sym h in absurd (subst (λ (b : Bool). T (not b)) h tt)
no_nan (inf s) h = tt
no_nan (fin s m e) h = tt

pub pattern_ok : (f : Format) (n : ℕ) → finite (of_bits f n) ≡ true → T (not (nan_bits f n))
pattern_ok f n h = subst (λ (b : Bool). T (not b)) (sym (nan_bits_is f n)) (no_nan (of_bits f n) h)

pub widens_ok : (n : ℕ) → finite (of_bits binary32 n) ≡ true → T (fits binary64 (of_bits binary32 n) && not (is_nan (of_bits binary32 n)))
widens_ok n h = and_i (fits binary64 (of_bits binary32 n)) (not (is_nan (of_bits binary32 n))) (fits_widens (of_bits binary32 n) (of_bits-fits binary32 n)) (no_nan (of_bits binary32 n) h)

-- ---- the size of a finite pattern, in units of the format's smallest value (2 ^ -149 at binary32)
fields_units : (f : Format) (s : Bool) (x t : ℕ) → finite (of_fields f s x t) ≡ true → HasValue (of_fields f s x t) s (field_units (hid f) x t) (2 ^ low f)
unfolding of_fields
fields_units f s zero t h = subst (λ (a : ℕ). HasValue (odd (prec f) s t 0 (low f)) s a (2 ^ low f)) (mul-one t) (odd_sign (prec f) s t 0 (low f))
fields_units f s (suc x) t h = go (eqb (suc x) (ones f)) (eqb t 0) h
  where
    go : (a b : Bool) → finite (cond a (cond b (inf s) nan) (odd (prec f) s (hid f + t) x (low f))) ≡ true
        → HasValue (cond a (cond b (inf s) nan) (odd (prec f) s (hid f + t) x (low f))) s ((hid f + t) * 2 ^ x) (2 ^ low f)
    go true true e = let z : ◌≡◌ {A = ℕ} 0 1 = cc in omega arith
    go true false e = let z : ◌≡◌ {A = ℕ} 0 1 = cc in omega arith
    go false b e = odd_sign (prec f) s (hid f + t) x (low f)

pub bits_units : (f : Format) (n : ℕ) → finite (of_bits f n) ≡ true → HasValue (of_bits f n) (leb (top f) n) (field_units (hid f) (n % top f / hid f) (n % hid f)) (2 ^ low f)
unfolding of_bits
bits_units f n h = fields_units f (leb (top f) n) (n % top f / hid f) (n % hid f) h
