-- What is promised of where leaves lie (request 02), of an accepted struct or exact walk and the buffers that it leaves: record i is that of leaf i of
-- the walk, and tells the bit of the window at which its payload starts. Where these bits lie is as framing/specs/Places says; that the window holds
-- the payload there is said in specs/Accounts (the theorems copied_). `inside` says a part of it by the buffers' own numbers.
use Rattle.std.specs.Prelude.{ℕ, ◌+◌, ◌≤◌, ◌<◌, ◌≡◌, List, length, take, drop, Ok, Err}
use Rattle.bits.specs.Members.{StandsAt}
use Rattle.framing.specs.Windows.{window_of}
use Rattle.framing.specs.Events.{Leaf, leaves}
use Rattle.framing.specs.Places.{Placed}
use Rattle.framing.specs.Records.{payload_of, path_start_at, path_length_at, handle_at, payload_bits_at, payload_start_at, window_start_at, path_bytes_lem, payload_bytes_lem}
use Rattle.framing.specs.Refusing.{Room}
use Rattle.outputs.specs.Records.{leaf_number}
use Rattle.outputs.specs.Answers.{Call, Lent, trace_of}
use Rattle.array.specs.Refusals.{StructArray, room_in}
use Rattle.exports.specs.WalkResults.{filled_in}
use Rattle.exports.specs.declared.VrfWalk.{VrfWalk}

-- the bytes of a buffer from `start` on, `bytes` of them
abbrev pub stretch : (buffer : List ℕ) (start bytes : ℕ) → List ℕ
stretch buffer start bytes = take bytes (drop start buffer)

-- Record i is that of the leaf l, with the leaves `before` in front of it: its six numbers, two of which say where in their buffers the path and the
-- payload stand, behind those of the leaves before.
pub record RecordOf (x : Lent) (i : ℕ) (before : List Leaf) (l : Leaf) : Type 0 where
  pub handle : leaf_number x.leaves i handle_at ≡ l.handle
  pub bits : leaf_number x.leaves i payload_bits_at ≡ l.width
  pub starts : leaf_number x.leaves i window_start_at ≡ l.start
  pub path_start_lem : leaf_number x.leaves i path_start_at ≡ length (path_bytes_lem before)
  pub path_length_lem : leaf_number x.leaves i path_length_at ≡ length l.path
  pub path : stretch x.paths (leaf_number x.leaves i path_start_at) (length l.path) ≡ l.path
  pub payload_start_lem : leaf_number x.leaves i payload_start_at ≡ length (payload_bytes_lem before)
  pub payload : stretch x.payloads (leaf_number x.leaves i payload_start_at) (length (payload_of l)) ≡ payload_of l

-- record i of what a walk left
pub record LeafFound (call : Call) (x : Lent) (i : ℕ) : Type 0 where
  pub leaf : Leaf
  pub stands : StandsAt leaf i (leaves (trace_of call))
  pub recorded : RecordOf x i stands.before leaf
  pub inside : leaf_number x.leaves i window_start_at + leaf_number x.leaves i payload_bits_at ≤ call.bits

-- all records of a walk that filled so much and left x, one for each leaf; and where its leaves lie, and the arrays that it entered, whose last bits a
-- kept tail may be
pub record LeavesFound (call : Call) (filled : Room) (x : Lent) : Type 0 where
  pub all : filled.leaves ≡ length (leaves (trace_of call))
  pub leaf : (i : ℕ) → i < filled.leaves → LeafFound call x i
  pub placed : Placed (window_of call.bytes call.bits) (trace_of call)

-- nothing is said of a refused answer, whose buffers are as they were lent
abbrev pub PlacedLeaves : Call → StructArray → Lent → Type 0
PlacedLeaves call (Ok w) x = LeavesFound call (room_in w.filled) x
PlacedLeaves call (Err why) x = Unit {0}

-- the same of a struct for C, in which the refusal 0 is none
abbrev pub PlacedLeavesInC : Call → VrfWalk → Lent → Type 0
PlacedLeavesInC call r x = r.refusal ≡ 0 → LeavesFound call (filled_in r) x
