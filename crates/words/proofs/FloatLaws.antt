-- A float that equals itself is no NaN.
use mathlib.Core.Path.{◌≡◌, subst}
use mathlib.Core.Bool.{false, not}
use lib.Dec.{T}
use lib.Ieee.{Float, nan, inf, fin, is_nan, ne}

pub same_self : (x : Float) → ne x x ≡ false → T (not (is_nan x))
unfolding is_nan ne
same_self nan h = subst T h tt
same_self (inf s) h = tt
same_self (fin s m e) h = tt
