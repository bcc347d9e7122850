-- What a public walk answers and what it leaves in the lent buffers, as functions of the call's inputs alone
-- (01, Refusal numbers; Tables and outputs).
use Rattle.std.specs.Prelude.{ℕ, ◌≡◌, Bool, true, List, length, leb, if◌then◌else◌}
use Rattle.bits.specs.Runs.{filled}
use Rattle.schema.specs.Layout.{laid_out}
use Rattle.framing.specs.Events.{Leaf, leaves, pairs, Trace}
use Rattle.framing.specs.Sinks.{Walker, walker, object, gives_leaves_lem, walk}
use Rattle.framing.specs.Records.{leaf_words, pair_words, whole_records, path_bytes_lem, payload_bytes_lem, leaf_records, pair_records}
use Rattle.framing.specs.Refusing.{Room, no_room_lem, needed, within, Answer, refused, accepted, decided}
use Rattle.framing.specs.Demand.{drop_tail, Opens}
use Rattle.outputs.specs.World.{World}

-- a buffer at the end: the new contents and behind them what was lent; if the call is refused, what was lent
abbrev pub at_exit : {N : Type 0} → Answer N → (new lent : List ℕ) → List ℕ
at_exit (accepted c p n) new lent = filled new lent
at_exit (refused k n) new lent = lent

-- ---- struct and exact walks

pub record Call : Type 0 where
  pub how : Walker
  pub levels : ℕ  -- how many levels the schema has
  pub bytes : List ℕ
  pub bits : ℕ

pub record Lent : Type 0 where
  pub leaves : List ℕ
  pub paths : List ℕ
  pub payloads : List ℕ

-- refusal 2: the tables that the walk has keep their layout; an exact call has no levels
abbrev pub laid : Walker → (levels : ℕ) → Bool
laid (walker s t root) levels = if gives_leaves_lem s then laid_out t levels root else true

abbrev pub trace_of : Call → Trace
trace_of c = walk c.how c.bytes c.bits

-- room in records of so many numbers
abbrev pub room_with : (words numbers paths payloads : ℕ) → Room
room_with words numbers paths payloads = record { leaves = whole_records words numbers; path_bytes_lem = paths; payload_bytes_lem = payloads }

abbrev pub room_over : (words : ℕ) → Lent → Room
room_over words b = room_with words (length b.leaves) (length b.paths) (length b.payloads)

abbrev pub room_of : Lent → Room
room_of b = room_over leaf_words b

unfoldable pub answer : Call → Lent → Answer Room
answer c b =
    decided c.bits (laid c.how c.levels) (trace_of c) no_room_lem (needed (trace_of c)) (within (needed (trace_of c)) (room_of b))

unfoldable pub final_leaves : Call → Lent → List ℕ
final_leaves c b = at_exit (answer c b) (leaf_records 0 0 (leaves (trace_of c))) b.leaves

unfoldable pub final_paths : Call → Lent → List ℕ
final_paths c b = at_exit (answer c b) (path_bytes_lem (leaves (trace_of c))) b.paths

unfoldable pub final_payloads : Call → Lent → List ℕ
final_payloads c b = at_exit (answer c b) (payload_bytes_lem (leaves (trace_of c))) b.payloads

abbrev pub final : Call → Lent → Lent
final c b = record { leaves = final_leaves c b; paths = final_paths c b; payloads = final_payloads c b }

-- the contract of the struct and exact walks: r is the answer, and `end` what the buffers hold at the exit
pub record Answered (c : Call) (b : Lent) (r : Answer Room) (end : Lent) : Type 0 where
  pub says : r ≡ answer c b
  pub leaves : end.leaves ≡ final_leaves c b
  pub paths : end.paths ≡ final_paths c b
  pub payloads : end.payloads ≡ final_payloads c b

-- what a measuring pass found; its next write is due behind a whole record, so that the division leaves nothing
abbrev pub measured_with : (words : ℕ) → World → Room
measured_with words w = room_with words w.records.at w.paths.at w.payloads.at

abbrev pub measured : World → Room
measured w = measured_with leaf_words w

-- the buffers as a writing pass leaves them
abbrev pub held_by : World → Lent
held_by w = record { leaves = w.records.held; paths = w.paths.held; payloads = w.payloads.held }

-- ---- the object walk: pairs only

abbrev pub pair_trace : (bytes : List ℕ) (bits : ℕ) → Trace
pair_trace bytes bits = walk object bytes bits

-- the answer of a walk with this trace, and what its buffer holds at the end
abbrev pub pair_answer_of : Trace → (bits : ℕ) (lent : List ℕ) → Answer ℕ
pair_answer_of t bits lent = decided bits true t 0 (length (pairs t)) (leb (length (pairs t)) (whole_records pair_words (length lent)))

abbrev pub final_pairs_of : Trace → Answer ℕ → (lent : List ℕ) → List ℕ
final_pairs_of t a lent = at_exit a (pair_records (pairs t)) lent

unfoldable pub pair_answer : (bytes : List ℕ) (bits : ℕ) (lent : List ℕ) → Answer ℕ
pair_answer bytes bits lent = pair_answer_of (pair_trace bytes bits) bits lent

unfoldable pub final_pairs : (bytes : List ℕ) (bits : ℕ) (lent : List ℕ) → List ℕ
final_pairs bytes bits lent = final_pairs_of (pair_trace bytes bits) (pair_answer bytes bits lent) lent

pub record PairsAnswered (bytes : List ℕ) (bits : ℕ) (lent : List ℕ) (r : Answer ℕ) (end : List ℕ) : Type 0 where
  pub says : r ≡ pair_answer bytes bits lent
  pub pairs : end ≡ final_pairs bytes bits lent

-- ---- demand 3, of buffers

abbrev pub was_accepted : {N : Type 0} → Answer N → Type 0
was_accepted (accepted c p n) = Unit
was_accepted (refused k n) = ⊥

-- the leaves that a cut window's walk shares with the whole window's
abbrev pub shared : Call → List Leaf
shared short = drop_tail (leaves (trace_of short))

-- their records, path bytes and payload bytes stand at the front of the buffers
pub record Front (l : List Leaf) (end : Lent) : Type 0 where
  pub leaves : Opens (leaf_records 0 0 l) end.leaves
  pub paths : Opens (path_bytes_lem l) end.paths
  pub payloads : Opens (payload_bytes_lem l) end.payloads
