-- What the crate's answers say: counters, how many numbers were padded, needs, and document 01's refusal numbers. For each case of each answer
-- the number, and the values that 01's table names; a value that it doesn't name is 0.
use Rattle.std.specs.Prelude.{ℕ, Result, Ok, Err}
use Rattle.bits.specs.Refusals.{Numbered, refusal}
use Rattle.framing.specs.Counters.{Counters, counted}
use Rattle.framing.specs.Refusing.{Room, no_room_lem, Answer, refused, accepted}
use Rattle.array.specs.Merges.{Sums, summed, overflowing}
use Rattle.array.specs.declared.ArrayDecodeStats.{ArrayDecodeStats}
use Rattle.array.specs.declared.Extent.{Extent}
use Rattle.array.specs.declared.Walked.{Walked}
use Rattle.array.specs.declared.Refusal.{Refusal}
use Rattle.array.specs.declared.Refusal.TheVariants as structs
use Rattle.array.specs.declared.PairRefusal.{PairRefusal}
use Rattle.array.specs.declared.PairRefusal.TheVariants as objects
use Rattle.array.specs.declared.Overflow.{Overflow}
use Rattle.array.specs.declared.said.Saying.{Saying}

-- ---- the answers of a struct or exact walk, of an object walk, of a merge

abbrev pub StructArray : Type 0
StructArray = Result (Walked Extent) Refusal

abbrev pub ObjectArray : Type 0
ObjectArray = Result (Walked ℕ) PairRefusal

abbrev pub Merged : Type 0
Merged = Result ArrayDecodeStats Overflow

-- ---- what they say

abbrev pub counters_of_lem : ArrayDecodeStats → Counters
counters_of_lem s =
    counted s.elements_decoded s.fields_emitted s.truncations s.errors s.unconsumed_nested_bits s.unconsumed_root_bits
    s.implicit_terminations

abbrev pub room_in : Extent → Room
room_in e = record { leaves = e.leaves; path_bytes_lem = e.path_bytes; payload_bytes_lem = e.payload_bytes }

-- the struct and the exact walk
abbrev pub answer_of : StructArray → Answer Room
answer_of (Ok w) = accepted (counters_of_lem w.stats) w.padded (room_in w.filled)
answer_of (Err structs.TooLong) = refused 1 no_room_lem
answer_of (Err structs.BrokenTables) = refused 2 no_room_lem
answer_of (Err (structs.Short e)) = refused 3 (room_in e)

-- the object walk
abbrev pub pairs_of : ObjectArray → Answer ℕ
pairs_of (Ok w) = accepted (counters_of_lem w.stats) w.padded w.filled
pairs_of (Err objects.TooLong) = refused 1 0
pairs_of (Err (objects.Short n)) = refused 3 n

-- a merge
abbrev pub sums_of : Merged → Sums
sums_of (Ok s) = summed (counters_of_lem s)
sums_of (Err o) = overflowing 4 (counters_of_lem o.left)

-- ---- a refusal's number and values as the code's records of them; of an accepted call all are 0

abbrev pub saying_as : Numbered → Saying Extent
saying_as n = record { number = n.number; need = record { leaves = n.first; path_bytes = n.second; payload_bytes = n.third } }

abbrev pub refused_room : Answer Room → Saying Extent
refused_room (refused n need) = saying_as (refusal n need.leaves need.path_bytes_lem need.payload_bytes_lem)
refused_room (accepted c p need) = saying_as (refusal 0 0 0 0)

abbrev pub refused_pairs : Answer ℕ → Saying ℕ
refused_pairs (refused n need) = record { number = n; need = need }
refused_pairs (accepted c p need) = record { number = 0; need = 0 }

abbrev pub refused_sum : Sums → ℕ
refused_sum (summed c) = 0
refused_sum (overflowing n c) = n

-- of each answer
abbrev pub said : StructArray → Saying Extent
said answer = refused_room (answer_of answer)

abbrev pub pairs_said_lem : ObjectArray → Saying ℕ
pairs_said_lem answer = refused_pairs (pairs_of answer)

abbrev pub merge_number_lem : Merged → ℕ
merge_number_lem answer = refused_sum (sums_of answer)
