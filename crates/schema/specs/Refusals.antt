-- Document 01's refusal numbers: for each refusing answer of this crate the number and its values. 01's table doesn't list those of filling the
-- schema; they are its needs, as the other 3s have theirs. An answer that refuses nothing has none.
use Rattle.std.specs.Prelude.{ℕ, Result, Ok, Err, Bool, true, false}
use Rattle.std.proofs.Math.Option.{Option, none, some}
use Rattle.bits.specs.Refusals.{Numbered, refusal}
use Rattle.schema.specs.declared.Short.{Short}
use Rattle.schema.specs.declared.said.Saying.{Saying}

-- the tables keep their layout, or 2
abbrev pub tables_numbered : Bool → Option Numbered
tables_numbered true = none
tables_numbered false = some (refusal 2 0 0 0)

-- the buffers are filled, or 3 with what they need: u32 of rows, bytes of names
abbrev pub filled_numbered : Result Unit Short → Option Numbered
filled_numbered (Ok done) = none
filled_numbered (Err need) = some (refusal 3 need.rows need.names 0)

-- the number, 0 for none
abbrev pub refusal_number : Option Numbered → ℕ
refusal_number none = 0
refusal_number (some n) = n.number

-- the number and the values as the code's record of them
abbrev pub saying_of : Option Numbered → Saying
saying_of none = record { number = 0; rows = 0; names = 0 }
saying_of (some n) = record { number = n.number; rows = n.first; names = n.second }

abbrev pub said : Result Unit Short → Saying
said answer = saying_of (filled_numbered answer)

abbrev pub tables_number_lem : (kept : Bool) → ℕ
tables_number_lem kept = refusal_number (tables_numbered kept)
