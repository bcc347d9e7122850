-- Refusals as document 01 numbers them, and their order: stated once for all calls.
use Rattle.std.specs.Prelude.{ℕ, Bool, List, [], ◌∷◌, if◌then◌else◌}
use Rattle.std.proofs.Math.Option.{Option, none, some}

-- the number, and the values that 01's table names, in its order; a value that it doesn't name is 0
pub record Numbered : Type 0 where
  pub number : ℕ
  pub first : ℕ
  pub second : ℕ
  pub third : ℕ

abbrev pub refusal : (number first second third : ℕ) → Numbered
refusal n a b c = record { number = n; first = a; second = b; third = c }

-- when a refusal is given
pub record Rule (A : Type 0) : Type 0 where
  pub holds : Bool
  pub gives : A

abbrev pub when : {A : Type 0} → Bool → A → Rule A
when t r = record { holds = t; gives = r }

-- the first whose condition holds, and none if none holds
unfoldable pub first_of : {A : Type 0} → List (Rule A) → Option A
first_of [] = none
first_of (r ∷ rs) = if r.holds then some r.gives else first_of rs
