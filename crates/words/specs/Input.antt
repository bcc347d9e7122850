-- Counts of bytes read that lie in a buffer of so many bytes.
use Rattle.std.specs.Prelude.{ℕ, ◌≤◌, Option, Some, None, Result, Ok, Err}

-- One read: at least a byte, or it is told apart.
abbrev pub Moves : {E : Type 0} → Result (Option ℕ) E → ℕ → Type 0
Moves (Ok (Some n)) most = (1 ≤ n) × (n ≤ most)
Moves (Ok None) most = Unit {0}
Moves (Err why) most = Unit {0}

-- A buffer that was filled to where the file ended.
abbrev pub Fills : {E : Type 0} → Result ℕ E → ℕ → Type 0
Fills (Ok n) most = n ≤ most
Fills (Err why) most = Unit {0}

-- A whole file.
abbrev pub Holds : {E : Type 0} → Result ℕ E → ℕ → Type 0
Holds (Ok n) most = n ≤ most
Holds (Err why) most = Unit {0}
