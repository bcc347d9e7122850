-- What is promised of how an accepted walk accounts for the bits of its window (request 06), by the numbers of the records that it leaves: in which order
-- its leaves lie, what their payloads are copies of, and how all bits add up. What each of these says is in framing/specs: LeafOrder, Copies and Accounts.
-- No answer tells the bits of numbers: those are of the walk.
use Rattle.std.specs.Prelude.{ℕ, zero, suc, ◌+◌, ◌≤◌, ◌<◌, ◌≡◌, List, Ok, Err}
use Rattle.bits.specs.Bits.{Bytes}
use Rattle.framing.specs.Events.{Trace, raw_handle}
use Rattle.framing.specs.Counters.{Counters, number_bits}
use Rattle.framing.specs.Records.{handle_at, payload_bits_at, payload_start_at, window_start_at}
use Rattle.framing.specs.Sinks.{Walker, object}
use Rattle.framing.specs.Verdicts as F
use Rattle.framing.specs.Accounts.{Accounts}
use Rattle.framing.specs.LeafOrder.{Follows}
use Rattle.framing.specs.Copies.{Copied}
use Rattle.outputs.specs.Records.{leaf_number}
use Rattle.outputs.specs.Answers.{Call, Lent, trace_of, pair_trace}
use Rattle.array.specs.Calls.{verdict_named}
use Rattle.array.specs.Refusals.{StructArray, ObjectArray, counters_of_lem, room_in}
use Rattle.exports.specs.WalkResults.{counters_in, verdict_number_lem}
use Rattle.exports.specs.declared.VrfWalk.{VrfWalk}
use Rattle.exports.specs.declared.VrfObjects.{VrfObjects}

-- ---- numbers of record i: the bit of the window at which its leaf starts, the leaf's bits and handle, and where its payload bytes start

abbrev pub start_of : Lent → (i : ℕ) → ℕ
start_of x i = leaf_number x.leaves i window_start_at

abbrev pub bits_of : Lent → (i : ℕ) → ℕ
bits_of x i = leaf_number x.leaves i payload_bits_at

abbrev pub handle_of : Lent → (i : ℕ) → ℕ
handle_of x i = leaf_number x.leaves i handle_at

abbrev pub payload_start_of : Lent → (i : ℕ) → ℕ
payload_start_of x i = leaf_number x.leaves i payload_start_at

-- ---- order

-- Of so many records each follows the one before it, and of any two the later one starts where the other ends or behind that: no bit is in both.
pub record RecordsInOrder (x : Lent) (many : ℕ) : Type 0 where
  pub follows : (i : ℕ) → suc i < many → Follows (start_of x i) (bits_of x i) (start_of x (suc i)) (handle_of x (suc i))
  pub apart : (i j : ℕ) → i < j → j < many → start_of x i + bits_of x i ≤ start_of x j

-- where a start doesn't rise: record i has no bits, and the next one is a kept tail that starts at the same bit
pub record SharedStart (x : Lent) (i : ℕ) : Type 0 where
  pub no_bits : bits_of x i ≡ 0
  pub kept : handle_of x (suc i) ≡ raw_handle
  pub same_start : start_of x i ≡ start_of x (suc i)

-- nothing is said of a refused answer, whose buffers are as they were lent
abbrev pub OrderedLeaves : Call → StructArray → Lent → Type 0
OrderedLeaves call (Ok w) x = RecordsInOrder x (room_in w.filled).leaves
OrderedLeaves call (Err why) x = Unit {0}

-- the same of a struct for C, in which the refusal 0 is none
abbrev pub OrderedLeavesInC : Call → VrfWalk → Lent → Type 0
OrderedLeavesInC call r x = r.refusal ≡ 0 → RecordsInOrder x r.leaves

-- ---- payloads

-- Of so many records each has in the payload buffer, from its payload start on, the bits of the walk's bytes from its window start on, as many as it
-- says, and zeros above them. The bytes are a slice's, so each is below 256.
abbrev pub RecordsCopied : Call → Lent → (many : ℕ) → Type 0
RecordsCopied call x many =
    Bytes call.bytes → (i : ℕ) → i < many → Copied call.bytes (start_of x i) (bits_of x i) x.payloads (payload_start_of x i)

abbrev pub CopiedLeaves : Call → StructArray → Lent → Type 0
CopiedLeaves call (Ok w) x = RecordsCopied call x (room_in w.filled).leaves
CopiedLeaves call (Err why) x = Unit {0}

abbrev pub CopiedLeavesInC : Call → VrfWalk → Lent → Type 0
CopiedLeavesInC call r x = r.refusal ≡ 0 → RecordsCopied call x r.leaves

-- ---- the sum

-- the bits of the leaves of the first n records
abbrev pub record_bits : Lent → (n : ℕ) → ℕ
record_bits x zero = 0
record_bits x (suc n) = record_bits x n + bits_of x n

-- Of an answer with the counters c and the verdict v on a walk of so many bits that gave the trace t, with so many bits of leaves: with the bits of the
-- numbers that the walk took, each with its own, all bits are accounted for; and if the answer is clean, they are those of leaves and numbers alone.
-- `form` says how verdicts are told, by name or, for C, by number.
pub record BitsAccounted {A : Type 0} (form : F.Verdict → A) (how : Walker) (bits : ℕ) (t : Trace) (c : Counters) (v : A) (ofLeaves : ℕ) : Type 0 where
  pub accounts : Accounts how bits t c ofLeaves (number_bits t)
  pub clean : v ≡ form F.clean → ofLeaves + number_bits t ≡ bits

-- a struct or exact walk that left these records, so many
abbrev pub LeafBitsAdd : {A : Type 0} → (form : F.Verdict → A) → Call → Counters → (v : A) → Lent → (many : ℕ) → Type 0
LeafBitsAdd form call c v x many = BitsAccounted form call.how call.bits (trace_of call) c v (record_bits x many)

-- an object walk, which has no leaves
abbrev pub PairBitsAdd : {A : Type 0} → (form : F.Verdict → A) → (bytes : List ℕ) (bits : ℕ) → Counters → (v : A) → Type 0
PairBitsAdd form bytes bits c v = BitsAccounted form object bits (pair_trace bytes bits) c v 0

abbrev pub AccountedLeaves : Call → StructArray → Lent → Type 0
AccountedLeaves call (Ok w) x = LeafBitsAdd verdict_named call (counters_of_lem w.stats) w.verdict x (room_in w.filled).leaves
AccountedLeaves call (Err why) x = Unit {0}

-- the same of a struct for C
abbrev pub AccountedLeavesInC : Call → VrfWalk → Lent → Type 0
AccountedLeavesInC call r x = r.refusal ≡ 0 → LeafBitsAdd verdict_number_lem call (counters_in r.counters) r.verdict x r.leaves

abbrev pub AccountedPairs : (bytes : List ℕ) (bits : ℕ) → ObjectArray → Type 0
AccountedPairs bytes bits (Ok w) = PairBitsAdd verdict_named bytes bits (counters_of_lem w.stats) w.verdict
AccountedPairs bytes bits (Err why) = Unit {0}

abbrev pub AccountedPairsInC : (bytes : List ℕ) (bits : ℕ) → VrfObjects → Type 0
AccountedPairsInC bytes bits r = r.refusal ≡ 0 → PairBitsAdd verdict_number_lem bytes bits (counters_in r.counters) r.verdict
