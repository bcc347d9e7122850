-- A count of bytes written that lies in so many bytes.
use Rattle.std.specs.Prelude.{ℕ, ◌≤◌, Result, Ok, Err}

abbrev pub Takes : {E : Type 0} → Result ℕ E → ℕ → Type 0
Takes (Ok n) most = (1 ≤ n) × (n ≤ most)
Takes (Err why) most = Unit {0}
