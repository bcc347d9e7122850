-- The contracts of the three public walks: the answer and the buffers of `outputs`, and the verdict of an accepted answer; of what is said of
-- counters alone, and of a merge.
use Rattle.std.specs.Prelude.{ℕ, ◌≡◌, Bool, List, Result, Ok, Err}
use Rattle.schema.specs.Tables.{Tables}
use Rattle.framing.specs.Counters.{Counters, is_clean}
use Rattle.framing.specs.declared.Walk.{Walk}
use Rattle.framing.specs.Sinks.{Walker, walker, struct, exact, object}
use Rattle.framing.specs.Verdicts as F
use Rattle.framing.specs.Verdicts.{counters_verdict, verdict_of}
use Rattle.outputs.specs.Answers.{Call, Lent, Answered, PairsAnswered}
use Rattle.array.specs.Merges.{merge}
use Rattle.array.specs.Refusals.{StructArray, ObjectArray, Merged, counters_of_lem, answer_of, pairs_of, sums_of}
use Rattle.array.specs.declared.ArrayDecodeStats.{ArrayDecodeStats}
use Rattle.array.specs.declared.Verdict.{Verdict}
use Rattle.array.specs.declared.Verdict.TheVariants as verdict
use Rattle.array.specs.declared.Walked.{Walked}

-- ---- calls and buffers, by their parameters

abbrev pub call_of : Walker → (levels : ℕ) (bytes : List ℕ) (bits : ℕ) → Call
call_of k levels bytes bits = record { how = k; levels = levels; bytes = bytes; bits = bits }

abbrev pub struct_call : (bytes : List ℕ) (bits : ℕ) → Tables → (levels root : ℕ) → Call
struct_call bytes bits t levels root = call_of (struct t root) levels bytes bits

abbrev pub exact_call : (bytes : List ℕ) (bits : ℕ) (declared declared_names_lem : List ℕ) → Call
exact_call bytes bits d n = call_of (exact d n) 0 bytes bits

abbrev pub lent : (leaves paths payloads : List ℕ) → Lent
lent l p y = record { leaves = l; paths = p; payloads = y }

-- ---- verdicts

abbrev pub verdict_is : Verdict → F.Verdict
verdict_is verdict.Clean = F.clean
verdict_is verdict.Partial = F.partial
verdict_is verdict.Empty = F.empty

abbrev pub verdict_named : F.Verdict → Verdict
verdict_named F.clean = verdict.Clean
verdict_named F.partial = verdict.Partial
verdict_named F.empty = verdict.Empty

-- whether a set of counters, of one walk or of several, is clean
abbrev pub stats_clean : ArrayDecodeStats → Bool
stats_clean s = is_clean (counters_of_lem s)

-- the verdict on such a set: how many bits were walked isn't asked, so it is never empty
abbrev pub Judges : ArrayDecodeStats → Verdict → Type 0
Judges s v = verdict_is v ≡ counters_verdict (counters_of_lem s)

-- a verdict on a window of so many bits, walked in this way, with these counters; tables make no difference
abbrev pub JudgesWindow : Walk → (bits : ℕ) → Counters → Verdict → Type 0
JudgesWindow s bits c v = (t : Tables) (root : ℕ) → verdict_is v ≡ verdict_of (walker s t root) bits c

-- an accepted answer carries the verdict on its window
abbrev pub Judged : {N E : Type 0} → Walker → (bits : ℕ) → Result (Walked N) E → Type 0
Judged k bits (Ok w) = verdict_is w.verdict ≡ verdict_of k bits (counters_of_lem w.stats)
Judged k bits (Err why) = Unit

abbrev pub PairsJudged : (bits : ℕ) → ObjectArray → Type 0
PairsJudged bits r = Judged object bits r

-- ---- sums

-- an answer that says what the sums of two walks' counters are
abbrev pub Adds : (left right : ArrayDecodeStats) → Merged → Type 0
Adds left right r = sums_of r ≡ merge (counters_of_lem left) (counters_of_lem right)

-- ---- the contracts: what was lent, the answer, and what the buffers hold at the exit

pub record Decodes (c : Call) (b : Lent) (r : StructArray) (end : Lent) : Type 0 where
  pub answered : Answered c b (answer_of r) end
  pub judged : Judged c.how c.bits r

pub record DecodesPairs (bytes : List ℕ) (bits : ℕ) (b : List ℕ) (r : ObjectArray) (end : List ℕ) : Type 0 where
  pub answered : PairsAnswered bytes bits b (pairs_of r) end
  pub judged : PairsJudged bits r
