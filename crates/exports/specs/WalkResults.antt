-- The answers of the walks, the merge, the schema and the fast array as structs for C: the refusal's number, or 0; the values that 01's table
-- names, which an accepted call has too; then what only an accepted call gives, else 0. The verdict is a number of its own. A refused merge has
-- the left counters.
use Rattle.std.specs.Prelude.{ℕ, Result, Ok, Err, ◌≡◌, List, eqb, pos, if◌then◌else◌}
use Rattle.std.proofs.Math.Option.{Option, none, some}
use Rattle.bits.specs.Refusals.{Numbered}
use Rattle.schema.specs.TwelveLevels.{row_numbers, name_bytes, level_count}
use Rattle.schema.specs.Refusals.{filled_numbered}
use Rattle.schema.specs.declared.Short.{Short}
use Rattle.framing.specs.Counters.{Counters, counted}
use Rattle.framing.specs.Sinks.{Walker, object}
use Rattle.framing.specs.Verdicts.{Verdict, clean, partial, empty, verdict_of}
use Rattle.framing.specs.Refusing.{Room, Answer, refused, accepted}
use Rattle.outputs.specs.Answers.{Call, Lent, answer, final, pair_answer, final_pairs}
use Rattle.array.specs.Calls.{verdict_is}
use Rattle.array.specs.Refusals.{StructArray, ObjectArray, counters_of_lem, answer_of, pairs_of}
use Rattle.array.specs.Merges.{Sums, summed, overflowing}
use Rattle.fastarray.specs.Answers as F
use Rattle.fastarray.specs.Refusals.{numbered}
use Rattle.fastarray.specs.declared.ChecksumMode.{ChecksumMode}
use Rattle.fastarray.specs.declared.ChecksumMode.TheVariants.{Absent, Present}
use Rattle.fastarray.specs.declared.Delta.{Delta}
use Rattle.fastarray.specs.declared.Refusal.{Refusal}
use Rattle.exports.specs.declared.VrfCounters.{VrfCounters}
use Rattle.exports.specs.declared.VrfWalk.{VrfWalk}
use Rattle.exports.specs.declared.VrfObjects.{VrfObjects}
use Rattle.exports.specs.declared.VrfMerge.{VrfMerge}
use Rattle.exports.specs.declared.VrfSchema.{VrfSchema}
use Rattle.exports.specs.declared.VrfFastArray.{VrfFastArray}

-- ---- counters and verdicts

abbrev pub counters_in : VrfCounters → Counters
counters_in c = counted c.elements c.fields c.truncations c.errors c.nested_bits c.root_bits c.implicit_terminations

abbrev pub counters_out : Counters → VrfCounters
counters_out c =
    record {
      elements = c.elements;
      fields = c.fields;
      truncations = c.truncations;
      errors = c.errors;
      nested_bits = c.nested_bits_lem;
      root_bits = c.root_bits_lem;
      implicit_terminations = c.implicits;
    }

abbrev pub no_counters_lem : VrfCounters
no_counters_lem = counters_out (counted 0 0 0 0 0 0 0)

abbrev pub verdict_number_lem : Verdict → ℕ
verdict_number_lem clean = 0
verdict_number_lem partial = 1
verdict_number_lem empty = 2

-- ---- struct and exact walks

abbrev pub refused_walk : (number leaves path_bytes_lem payload_bytes_lem : ℕ) → VrfWalk
refused_walk n l p y =
    record { refusal = n; leaves = l; path_bytes = p; payload_bytes = y; counters = no_counters_lem; verdict = 0; padded = 0 }

abbrev pub accepted_walk : Counters → (padded : ℕ) → Verdict → (leaves path_bytes_lem payload_bytes_lem : ℕ) → VrfWalk
accepted_walk c d v l p y =
    record { refusal = 0; leaves = l; path_bytes = p; payload_bytes = y; counters = counters_out c; verdict = verdict_number_lem v; padded = d }

-- the struct for an answer of such a walk
abbrev pub walk_result : Walker → (bits : ℕ) → Answer Room → VrfWalk
walk_result k bits (refused n need) = refused_walk n need.leaves need.path_bytes_lem need.payload_bytes_lem
walk_result k bits (accepted c d need) = accepted_walk c d (verdict_of k bits c) need.leaves need.path_bytes_lem need.payload_bytes_lem

-- what the struct of an accepted walk says that it filled
abbrev pub filled_in : VrfWalk → Room
filled_in r = record { leaves = r.leaves; path_bytes_lem = r.path_bytes; payload_bytes_lem = r.payload_bytes }

-- the contract: r is the struct of the walk's answer, and `end` what the buffers hold at the exit
pub record Walks (c : Call) (b : Lent) (r : VrfWalk) (end : Lent) : Type 0 where
  pub says : r ≡ walk_result c.how c.bits (answer c b)
  pub buffers : end ≡ final c b

-- the struct of a refusal, whose number and values an answer of `array` stands for; never asked of an accepted one
abbrev pub not_walked_lem : Answer Room → VrfWalk
not_walked_lem (refused n need) = refused_walk n need.leaves need.path_bytes_lem need.payload_bytes_lem
not_walked_lem (accepted c d need) = refused_walk 0 0 0 0

-- the same struct, from the answer of `array`
abbrev pub walk_of : StructArray → VrfWalk
walk_of (Ok w) = accepted_walk (counters_of_lem w.stats) w.padded (verdict_is w.verdict) w.filled.leaves w.filled.path_bytes w.filled.payload_bytes
walk_of (Err why) = not_walked_lem (answer_of (Err why))

-- ---- the object walk

abbrev pub refused_objects : (number pairs : ℕ) → VrfObjects
refused_objects n p = record { refusal = n; pairs = p; counters = no_counters_lem; verdict = 0; padded = 0 }

abbrev pub accepted_objects : Counters → (padded : ℕ) → Verdict → (pairs : ℕ) → VrfObjects
accepted_objects c d v p = record { refusal = 0; pairs = p; counters = counters_out c; verdict = verdict_number_lem v; padded = d }

abbrev pub objects_result : (bits : ℕ) → Answer ℕ → VrfObjects
objects_result bits (refused n need) = refused_objects n need
objects_result bits (accepted c d need) = accepted_objects c d (verdict_of object bits c) need

pub record WalksPairs (bytes : List ℕ) (bits : ℕ) (b : List ℕ) (r : VrfObjects) (end : List ℕ) : Type 0 where
  pub says : r ≡ objects_result bits (pair_answer bytes bits b)
  pub buffer : end ≡ final_pairs bytes bits b

-- never asked of an accepted one
abbrev pub no_pairs_lem : Answer ℕ → VrfObjects
no_pairs_lem (refused n need) = refused_objects n need
no_pairs_lem (accepted c d need) = refused_objects 0 0

abbrev pub objects_of_lem : ObjectArray → VrfObjects
objects_of_lem (Ok w) = accepted_objects (counters_of_lem w.stats) w.padded (verdict_is w.verdict) w.filled
objects_of_lem (Err why) = no_pairs_lem (pairs_of (Err why))

-- ---- merges

abbrev pub merge_result : Sums → VrfMerge
merge_result (summed c) = record { refusal = 0; counters = counters_out c }
merge_result (overflowing n c) = record { refusal = n; counters = counters_out c }

-- ---- the schema: what is filled, or needed, of both buffers, and the number of levels

-- never asked where there is no refusal
abbrev pub not_filled_lem : Option Numbered → VrfSchema
not_filled_lem none = record { refusal = 0; rows = 0; names = 0; levels = 0 }
not_filled_lem (some n) = record { refusal = n.number; rows = n.first; names = n.second; levels = 0 }

abbrev pub schema_result : Result Unit Short → VrfSchema
schema_result (Ok done) = record { refusal = 0; rows = row_numbers; names = name_bytes; levels = level_count }
schema_result (Err need) = not_filled_lem (filled_numbered (Err need))

-- ---- the fast array

-- a number as the checksum mode: 0 is absent, any other present
unfoldable pub mode_of : ℕ → ChecksumMode
mode_of n = if eqb n 0 then Absent else Present

abbrev pub refused_body : (number deletes items fields : ℕ) → VrfFastArray
refused_body n d i f = record { refusal = n; deletes = d; items = i; fields = f; key = pos 0; base = pos 0; used = 0; padded = 0 }

-- never asked where there is no refusal
abbrev pub no_body_lem : Option Numbered → VrfFastArray
no_body_lem none = refused_body 0 0 0 0
no_body_lem (some n) = refused_body n.number n.first n.second n.third

abbrev pub body_result : Result Delta Refusal → VrfFastArray
body_result (Ok d) =
    record {
      refusal = 0;
      deletes = d.deletes;
      items = d.changes;
      fields = d.fields;
      key = d.key;
      base = d.base;
      used = d.used;
      padded = d.padded;
    }
body_result (Err e) = no_body_lem (numbered (Err e))

pub record DecodesBody (c : F.Call) (l : F.Lent) (r : VrfFastArray) (end : F.Lent) : Type 0 where
  pub says : r ≡ body_result (F.answer c l)
  pub deleted : end.deleted ≡ F.final_deleted c l
  pub items : end.items ≡ F.final_items c l
  pub fields : end.fields ≡ F.final_fields c l
