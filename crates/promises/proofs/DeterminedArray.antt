-- Each public call of array is determined by its contract: the contract fixes the answer's counters, needs and number, and the contents of each
-- buffer.
use Prim.Native.Nat.{ℕ}
use mathlib.Core.Path.{◌≡◌}
use mathlib.Core.List.{List}
use Rattle.schema.specs.Tables.{Tables}
use Rattle.outputs.specs.Answers.{Lent}
use Rattle.array.specs.Calls.{struct_call, exact_call, stats_clean, Judges, Adds, Decodes, DecodesPairs}
use Rattle.array.specs.Refusals.{StructArray, ObjectArray, Merged, said, pairs_said_lem, merge_number_lem}
use Rattle.array.proofs.OneAnswer as A
use Rattle.array.proofs.OneAnswer.{one_struct, one_object, one_merged}
use Rattle.array.specs.declared.ArrayDecodeStats.{ArrayDecodeStats}
use Rattle.promises.specs.Determining.{Determines, DeterminesAll}
use Rattle.promises.proofs.Determined.{one_equal}

-- ---- walks

-- `decode_struct_array` has one answer and leaves its three buffers in one state, under any tables.
pub one_decode_struct_array : (bytes : List ℕ) (bits : ℕ) (t : Tables) (levels root : ℕ) (b : Lent)
    → DeterminesAll (Decodes (struct_call bytes bits t levels root) b)
one_decode_struct_array bytes bits t levels root b = one_struct (struct_call bytes bits t levels root) b

-- `decode_struct_array_exact` has one answer and leaves its three buffers in one state.
pub one_decode_struct_array_exact : (bytes : List ℕ) (bits : ℕ) (declared declared_names_lem : List ℕ) (b : Lent)
    → DeterminesAll (Decodes (exact_call bytes bits declared declared_names_lem) b)
one_decode_struct_array_exact bytes bits declared declared_names_lem b = one_struct (exact_call bytes bits declared declared_names_lem) b

-- `decode_object_ref_array` has one answer and leaves its pairs in one state.
pub one_decode_object_ref_array : (bytes : List ℕ) (bits : ℕ) (pairs : List ℕ) → DeterminesAll (DecodesPairs bytes bits pairs)
one_decode_object_ref_array bytes bits pairs = one_object bytes bits pairs

-- ---- counters

-- `is_clean` has one answer.
pub one_is_clean : (stats : ArrayDecodeStats) → Determines (λ r. r ≡ stats_clean stats)
one_is_clean stats = one_equal (stats_clean stats)

-- `verdict` has one answer.
pub one_verdict : (stats : ArrayDecodeStats) → Determines (Judges stats)
one_verdict stats = A.one_verdict stats

-- `merge_from` has one answer.
pub one_merge_from : (left right : ArrayDecodeStats) → Determines (Adds left right)
one_merge_from left right = one_merged left right

-- ---- what a refusal says

-- `said` has one answer.
pub one_said : (answer : StructArray) → Determines (λ r. r ≡ said answer)
one_said answer = one_equal (said answer)

-- `pairs_said` has one answer.
pub one_pairs_said : (answer : ObjectArray) → Determines (λ r. r ≡ pairs_said_lem answer)
one_pairs_said answer = one_equal (pairs_said_lem answer)

-- `merge_number` has one answer.
pub one_merge_number : (answer : Merged) → Determines (λ r. r ≡ merge_number_lem answer)
one_merge_number answer = one_equal (merge_number_lem answer)
