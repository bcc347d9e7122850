-- What a write says of its count.
use mathlib.Core.Path.{◌≡◌, subst}
use Rattle.std.specs.Prelude.{ℕ, ◌≤◌, Result, Ok}
use Rattle.words.specs.Output.{Takes}

pub took : {E : Type 0} {p : Result ℕ E} {n most : ℕ} → p ≡ Ok n → Takes p most → (1 ≤ n) × (n ≤ most)
took {E} {p} {n} {most} e m = subst (λ (u : Result ℕ E). Takes u most) e m
