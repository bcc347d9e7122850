-- An i64 that is not below 0 is a u64.
use mathlib.Core.Path.{◌≡◌, subst}
use mathlib.Core.Bool.{false}
use native.Mathlib.Omega.{arith}
use lib.Dec.{T}
use lib.IntN.{ℤ, pos, negsuc, nat_abs}
use lib.Signed.{non_neg, lt_z}
use mir.Val.{Fits, SFits}
use mir.Syntax.{w64}

pub not_below : (x : ℤ) → SFits w64 x → lt_z x (pos 0) ≡ false → T (non_neg x) × Fits w64 (nat_abs x)
not_below (pos n) f h = (tt, record { fits = omega (arith, f.sfits) })
not_below (negsuc n) f h = absurd (subst T h tt)
