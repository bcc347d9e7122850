-- The order of the refusals of the walks, a merge, the tables and the schema (01, Refusal numbers): the first whose condition holds is given, and
-- none if none holds. And the refusal that an answer is, if it is one.
use Rattle.std.specs.Prelude.{ℕ, not, List, [], ◌∷◌, ltb, length}
use Rattle.std.proofs.Math.Option.{Option, none, some}
use Rattle.bits.specs.Refusals.{Numbered, refusal, Rule, when}
use Rattle.bits.specs.Sizes.{longest_window}
use Rattle.schema.specs.Layout.{laid_out}
use Rattle.schema.specs.Tables.{Tables}
use Rattle.schema.specs.TwelveLevels.{enough, row_numbers, name_bytes}
use Rattle.framing.specs.Counters.{Counters, sums}
use Rattle.framing.specs.Events.{pairs}
use Rattle.framing.specs.Records.{pair_words, whole_records}
use Rattle.framing.specs.Refusing.{Room, needed, within, Answer, refused, accepted}
use Rattle.outputs.specs.Answers.{Call, Lent, laid, trace_of, room_of, pair_trace}
use Rattle.array.specs.Merges.{Sums, summed, overflowing, bounded}

-- ---- walks

-- a number with the needs of all outputs
abbrev pub needing : (number : ℕ) → Room → Numbered
needing k n = refusal k n.leaves n.path_bytes_lem n.payload_bytes_lem

abbrev pub of_walk : Answer Room → Option Numbered
of_walk (accepted c p n) = none
of_walk (refused k n) = some (needing k n)

abbrev pub of_pairs : Answer ℕ → Option Numbered
of_pairs (accepted c p n) = none
of_pairs (refused k n) = some (refusal k n 0 0)

abbrev pub too_long_lem : (bits : ℕ) → Rule Numbered
too_long_lem bits = when (ltb longest_window bits) (refusal 1 0 0 0)

-- struct and exact walks: 1, 2, 3
abbrev pub walk_rules : Call → Lent → List (Rule Numbered)
walk_rules c b =
    too_long_lem c.bits ∷
    when (not (laid c.how c.levels)) (refusal 2 0 0 0) ∷
    when (not (within (needed (trace_of c)) (room_of b))) (needing 3 (needed (trace_of c))) ∷ []

-- the object walk, which has neither tables nor paths: 1, 3
abbrev pub pair_rules : (bytes : List ℕ) (bits : ℕ) (lent : List ℕ) → List (Rule Numbered)
pair_rules bytes bits lent =
    too_long_lem bits ∷
    when (ltb (whole_records pair_words (length lent)) (length (pairs (pair_trace bytes bits)))) (refusal 3 (length (pairs (pair_trace bytes bits))) 0 0) ∷ []

-- ---- a merge: 4, with the left counters

abbrev pub of_sums : Sums → Option Sums
of_sums (summed c) = none
of_sums (overflowing k c) = some (overflowing k c)

abbrev pub merge_rules : (left right : Counters) → List (Rule Sums)
merge_rules a b = when (not (bounded (sums a b))) (overflowing 4 a) ∷ []

-- ---- tables: 2; the twelve levels: 3, with what both buffers need

abbrev pub table_rules : Tables → (levels root : ℕ) → List (Rule Numbered)
table_rules t levels root = when (not (laid_out t levels root)) (refusal 2 0 0 0) ∷ []

abbrev pub fill_rules : (rows names : List ℕ) → List (Rule Numbered)
fill_rules rows names = when (not (enough rows names)) (refusal 3 row_numbers name_bytes 0) ∷ []
