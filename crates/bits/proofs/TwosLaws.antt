-- Signed numbers from unsigned ones: a difference of two unsigned numbers as an `i64`, and the w bits of a number as two's complement.
-- Assumes nothing.
use Rattle.std.specs.Prelude.{if◌then◌else◌}
use mathlib.Core.Path.{◌≡◌, refl, sym, ap, ◌∙◌}
use mathlib.Core.Bool.{Bool, true, false, cond}
use Prim.Native.Nat.{ℕ, zero, suc, ◌+◌, ◌-◌, ◌*◌, ◌%◌, ◌^◌, ◌≤◌, ◌<◌}
use native.Mathlib.Nat.{mod-eq_of_lt, pow-suc, one-mul}
use native.Mathlib.Omega.{arith}
use lib.Dec.{T, ltb, ltb→lt}
use lib.Pow.{pow_mono}
use lib.IntN.{ℤ, pos, negsuc, nat_abs, sub_ℕ, ◌-ℤ◌}
use borrow.Author.Tests.{lt-ltb, le-ltb, ltb-true, ltb-false}
use mir.Val.{SFits, to_z, of_z, hbits}
use mir.Syntax.{Width, w32, w64}
use mir.Facts.{to_z-of_z}
use Rattle.bits.specs.TwosComplement.{twos}

pub sub_is : (a b : ℕ) → pos a -ℤ pos b ≡ sub_ℕ a b
sub_is a zero = simp (le-ltb a 0 (omega arith)) (ap pos (omega arith))
sub_is a (suc b) = refl

pub below : (a b : ℕ) → a < b → sub_ℕ a b ≡ negsuc (b - suc a)
below a b h = simp (lt-ltb a b h)

pub sub_fits : {w : Width} (a b : ℕ) → a < 2 ^ hbits w → b ≤ 2 ^ hbits w → SFits w (sub_ℕ a b)
sub_fits {w} a b ha hb = go (ltb a b) (ltb→lt a b)
  where
    go : (t : Bool) → (T t → a < b) → SFits w (cond t (negsuc (b - suc a)) (pos (a - b)))
    go true h = let k : a < b = h tt in record { sfits = omega arith }
    go false h = record { sfits = omega arith }

-- half of 2 ^ w, as the shift computes it
module _ (w : ℕ) (lo : 1 ≤ w) (hi : w ≤ 63) where
  pub half_small : 2 ^ (w - 1) ≤ 4611686018427387904
  half_small = pow_mono {i = w - 1} {j = 62} (omega arith)

  pub half_is : (1 * 2 ^ (w - 1)) % 18446744073709551616 ≡ 2 ^ (w - 1)
  half_is = ap (λ (x : ℕ). x % 18446744073709551616) (one-mul (2 ^ (w - 1))) ∙ mod-eq_of_lt (omega (arith, half_small))

  pub twice : 2 ^ w ≡ 2 ^ (w - 1) + 2 ^ (w - 1)
  twice = ap (λ (x : ℕ). 2 ^ x) (e) ∙ pow-suc 2 (w - 1) ∙ (omega arith)
    where
      e : w ≡ suc (w - 1)
      e = omega arith

-- the top bit is clear; the top bit is set
pub twos_low : (w raw : ℕ) → raw < 2 ^ (w - 1) → twos w raw ≡ pos raw
unfolding twos
twos_low w raw h = simp (lt-ltb raw (2 ^ (w - 1)) h)

pub twos_high : (w raw : ℕ) → 1 ≤ w → w ≤ 63 → raw < 2 ^ w → 2 ^ (w - 1) ≤ raw → sub_ℕ (raw - 2 ^ (w - 1)) (2 ^ (w - 1)) ≡ twos w raw
unfolding twos
twos_high w raw lo hi f h =
    let d : 2 ^ w ≡ 2 ^ (w - 1) + 2 ^ (w - 1) = twice w lo hi in
    below (raw - 2 ^ (w - 1)) (2 ^ (w - 1)) (omega arith)
    ∙ ap negsuc (omega arith)
    ∙ sym (below raw (2 ^ w) f)
    ∙ sym (simp (le-ltb raw (2 ^ (w - 1)) h))

pub twos_bound : (w raw : ℕ) → 1 ≤ w → w ≤ 63 → raw < 2 ^ w → nat_abs (twos w raw) ≤ 2 ^ 63
unfolding twos
twos_bound w raw lo hi f = go (ltb raw (2 ^ (w - 1))) (ltb→lt raw (2 ^ (w - 1)))
  where
    full : raw < 2 ^ w → raw ≤ 2 ^ 63
    full h = omega (arith, twice w lo hi, half_small w lo hi)

    go : (t : Bool) → (T t → raw < 2 ^ (w - 1)) → nat_abs (if t then pos raw else sub_ℕ raw (2 ^ w)) ≤ 2 ^ 63
    go true h = full f
    go false h = rw (below raw (2 ^ w) f) (omega (arith, twice w lo hi, half_small w lo hi))

-- w bits are an integer of a type that has as many
pub twos_fits : (t : Width) (w raw : ℕ) → 1 ≤ w → w ≤ 63 → w - 1 ≤ hbits t → raw < 2 ^ w → SFits t (twos w raw)
twos_fits t w raw lo hi h f = go (ltb raw (2 ^ (w - 1))) refl
  where
    half : 2 ^ (w - 1) ≤ 2 ^ hbits t
    half = pow_mono h

    rest : 2 ^ (w - 1) ≤ raw → SFits t (sub_ℕ (raw - 2 ^ (w - 1)) (2 ^ (w - 1)))
    rest k = sub_fits (raw - 2 ^ (w - 1)) (2 ^ (w - 1)) (omega (arith, twice w lo hi, half)) half

    go : (b : Bool) → ltb raw (2 ^ (w - 1)) ≡ b → SFits t (twos w raw)
    go true e =
        let k : raw < 2 ^ (w - 1) = ltb-true _ _ e in
        let l : raw < 2 ^ hbits t = omega (arith, half) in
        rw (twos_low w raw k) (record { sfits = l })
    go false e = let k : 2 ^ (w - 1) ≤ raw = ltb-false _ _ e in rw (← (twos_high w raw lo hi f k)) (rest k)

-- 32 bits that are made an i64, and that an i32
module _ (x : ℕ) (z : ℤ) (h : x < 2 ^ 32) (e : z ≡ twos 32 x) where
  pub twos_i64 : to_z w64 (of_z w64 z) ≡ twos 32 x
  twos_i64 = rw e (to_z-of_z (twos_fits w64 32 x (omega arith) (omega arith) (omega arith) h))

  pub twos_narrows : SFits w32 (to_z w64 (of_z w64 z))
  twos_narrows = rw twos_i64 (twos_fits w32 32 x (omega arith) (omega arith) (omega arith) h)

  pub twos_i32 : to_z w32 (of_z w32 (to_z w64 (of_z w64 z))) ≡ twos 32 x
  twos_i32 = rw twos_i64 (to_z-of_z (twos_fits w32 32 x (omega arith) (omega arith) (omega arith) h))
