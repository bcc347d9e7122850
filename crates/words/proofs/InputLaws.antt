-- What a turn, a filled buffer and a file that was read say of their counts.
use mathlib.Core.Path.{◌≡◌, subst}
use native.Mathlib.Omega.{arith}
use Rattle.std.specs.Prelude.{ℕ, ◌≤◌, Option, Some, Result, Ok, Err}
use Rattle.words.specs.Input.{Moves, Fills, Holds}

pub got : {E : Type 0} {t : Result (Option ℕ) E} {n most : ℕ} → t ≡ Ok (Some n) → Moves t most → (1 ≤ n) × (n ≤ most)
got {E} {t} {n} {most} e m = subst (λ (u : Result (Option ℕ) E). Moves u most) e m

pub ended : {E : Type 0} {f : Result ℕ E} {n most : ℕ} → f ≡ Ok n → Fills f most → n ≤ most
ended {E} {f} {n} {most} e m = subst (λ (u : Result ℕ E). Fills u most) e m

-- A count that lies in fewer bytes lies in more.
pub holds_more : {E : Type 0} (x : Result ℕ E) {n most : ℕ} → n ≤ most → Holds x n → Holds x most
holds_more (Ok k) l h = omega (arith, l, h)
holds_more (Err why) l h = tt
