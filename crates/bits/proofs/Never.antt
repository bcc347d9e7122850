-- Two constructors are never equal: `cc` makes 0 ≡ 1 of an equation between them, and this makes anything of that.
use Prim.Native.Nat.{ℕ}
use mathlib.Core.Path.{◌≡◌}
use native.Mathlib.Omega.{arith}

pub never : {A : Type 0} → ◌≡◌ {A = ℕ} 0 1 → A
never z = absurd (let n : ⊥ = omega arith in n)
