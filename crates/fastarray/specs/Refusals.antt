-- Document 01's refusal numbers: for each refusing answer the number and the values that 01's table names, in its order; a
-- value that it doesn't name is 0.
use Rattle.std.specs.Prelude.{Result, Ok, Err}
use Rattle.std.proofs.Math.Option.{Option, none, some}
use Rattle.bits.specs.Refusals.{Numbered, refusal}
use Rattle.fastarray.specs.declared.Delta.{Delta}
use Rattle.fastarray.specs.declared.Refusal.{Refusal}
use Rattle.fastarray.specs.declared.Refusal.TheVariants.{TooLong, NotFastArray, Short}
use Rattle.fastarray.specs.declared.said.Saying.{Saying}

abbrev pub numbered : Result Delta Refusal → Option Numbered
numbered (Ok d) = none
numbered (Err TooLong) = some (refusal 1 0 0 0)
numbered (Err (Short need)) = some (refusal 3 need.deletes need.items need.fields)
numbered (Err NotFastArray) = some (refusal 6 0 0 0)

-- the number and the values as the code's record of them; without a refusal all are 0
abbrev pub saying_as : Numbered → Saying
saying_as n = record { number = n.number; deletes = n.first; items = n.second; fields = n.third }

abbrev pub saying_of : Option Numbered → Saying
saying_of none = saying_as (refusal 0 0 0 0)
saying_of (some n) = saying_as n

abbrev pub said : Result Delta Refusal → Saying
said answer = saying_of (numbered answer)
