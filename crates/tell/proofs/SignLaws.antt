-- An i32 as an i64, and how far it is from 0.
use mathlib.Core.Path.{◌≡◌, sym, subst}
use mathlib.Core.Bool.{true, false}
use Prim.Native.Nat.{◌<◌}
use native.Mathlib.Omega.{arith}
use lib.Dec.{T, ltb→lt}
use lib.IntN.{ℤ, pos, negsuc, nat_abs, ◌-ℤ◌}
use lib.Signed.{non_neg, lt_z}
use mir.Val.{Fits, SFits, to_z, of_z}
use mir.Syntax.{w32, w64}
use mir.Facts.{to_z-of_z}
use Rattle.bits.proofs.TwosLaws.{sub_is, sub_fits}

pub widened : (x : ℤ) → SFits w32 x → to_z w64 (of_z w64 (to_z w32 (of_z w32 x))) ≡ x
widened x f = rw (to_z-of_z {w = w32} f) (to_z-of_z {w = w64} (record { sfits = omega (arith, f.sfits) }))

pub negated : (x : ℤ) → SFits w32 x → SFits w64 (pos 0 -ℤ x)
negated (pos n) f = rw (sub_is 0 n) (sub_fits 0 n (omega arith) (omega (arith, f.sfits)))
negated (negsuc n) f = record { sfits = omega (arith, f.sfits) }

pub not_negative : (x : ℤ) → SFits w32 x → lt_z x (pos 0) ≡ false → T (non_neg x) × Fits w64 (nat_abs x)
not_negative (pos n) f h = (tt, record { fits = omega (arith, f.sfits) })
not_negative (negsuc n) f h = absurd (subst T h tt)

pub negative : (x : ℤ) → SFits w32 x → lt_z x (pos 0) ≡ true → T (non_neg (pos 0 -ℤ x)) × Fits w64 (nat_abs (pos 0 -ℤ x))
negative (pos n) f h = absurd (not_below (ltb→lt n 0 (subst T (sym h) tt)))
  where
    not_below : n < 0 → ⊥
    not_below l = omega (arith, l)
negative (negsuc n) f h = (tt, record { fits = omega (arith, f.sfits) })
