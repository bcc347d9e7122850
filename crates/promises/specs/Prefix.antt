-- Demand 3, said of two accepted calls and of the buffers that they leave: the shorter's answer is the front of the longer's. `form` says how
-- verdicts are told, by name or, for C, by number.
use Rattle.std.specs.Prelude.{ℕ, suc, ◌*◌, ◌≤◌, ◌<◌, ◌≡◌, true, List, length, take}
use Rattle.framing.specs.Windows.{window_of}
use Rattle.framing.specs.Events.{raw_handle}
use Rattle.framing.specs.Sinks.{Walker, object, sink_of}
use Rattle.framing.specs.Verdicts as F
use Rattle.framing.specs.Records.{leaf_words, path_start_at, handle_at, payload_start_at, pair_words}
use Rattle.framing.specs.Refusing.{Room, within}
use Rattle.framing.specs.Demand.{LacksTrailer}
use Rattle.outputs.specs.Records.{leaf_number}
use Rattle.outputs.specs.Answers.{Call, Lent}
use Rattle.exports.specs.WalkResults.{filled_in, verdict_number_lem}
use Rattle.exports.specs.declared.VrfWalk.{VrfWalk}
use Rattle.exports.specs.declared.VrfObjects.{VrfObjects}
use Rattle.promises.specs.Outside.{SameBits}

-- the shorter's m bits are the first of the longer's n, and both windows lie in their bytes
pub record FirstBits (longer shorter : List ℕ) (n m : ℕ) : Type 0 where
  pub fewer : m ≤ n
  pub inside_long : n ≤ 8 * length longer
  pub inside_short : m ≤ 8 * length shorter
  pub same_bits : SameBits shorter longer 0 m

-- What a walk filled before a kept tail, where `all` is what it filled: all of it; or all before the last record, if that has a kept tail's
-- handle, so that the shared path and payload bytes end where that record's own begin. `all_shared` asks nothing: taken although there is a tail,
-- it promises more.
pub data BeforeTail (all : Room) (records : List ℕ) : (shared : Room) → Type 0 where
  all_shared : BeforeTail all records all
  tail_off : {n : Room} → suc n.leaves ≡ all.leaves → leaf_number records n.leaves handle_at ≡ raw_handle
      → leaf_number records n.leaves path_start_at ≡ n.path_bytes_lem → leaf_number records n.leaves payload_start_at ≡ n.payload_bytes_lem
      → BeforeTail all records n

-- m bits of a clean window of n are not clean, but where exactly a zero trailer is left off, in a walk that takes one
abbrev pub NotClean : {A : Type 0} → (form : F.Verdict → A) → Walker → (bytes : List ℕ) (n m : ℕ) → (long short : A) → Type 0
NotClean form k bytes n m long short = long ≡ form F.clean → m < n → short ≡ form F.clean → LacksTrailer (sink_of k) (window_of bytes n) m

-- Two struct or exact walks. The shorter's verdict is v, it filled e and left x; the longer's is w, it filled f and left y.
pub record Begins {A : Type 0} (form : F.Verdict → A) (short long : Call) (v w : A) (e f : Room) (x y : Lent) : Type 0 where
  pub shared : Room
  pub before_tail : BeforeTail e x.leaves shared
  pub filled_too : within shared f ≡ true
  pub records : take (leaf_words * shared.leaves) x.leaves ≡ take (leaf_words * shared.leaves) y.leaves
  pub paths : take shared.path_bytes_lem x.paths ≡ take shared.path_bytes_lem y.paths
  pub payloads : take shared.payload_bytes_lem x.payloads ≡ take shared.payload_bytes_lem y.payloads
  pub not_clean : NotClean form long.how long.bytes long.bits short.bits w v

-- Two object walks, of m and n bits. The shorter's verdict is v, it filled e pairs and left x; the longer's is w, it filled f and left y.
pub record PairsBegin {A : Type 0} (form : F.Verdict → A) (longer : List ℕ) (n m : ℕ) (v w : A) (e f : ℕ) (x y : List ℕ) : Type 0 where
  pub filled_too : e ≤ f
  pub pairs : take (pair_words * e) x ≡ take (pair_words * e) y
  pub not_clean : NotClean form object longer n m w v

-- ---- the same of two structs for C, of which neither is refused

abbrev pub BeginsInC : (short long : Call) (r q : VrfWalk) (x y : Lent) → Type 0
BeginsInC short long r q x y =
    r.refusal ≡ 0 → q.refusal ≡ 0 → Begins verdict_number_lem short long r.verdict q.verdict (filled_in r) (filled_in q) x y

abbrev pub PairsBeginInC : (longer : List ℕ) (n m : ℕ) (r q : VrfObjects) (x y : List ℕ) → Type 0
PairsBeginInC longer n m r q x y =
    r.refusal ≡ 0 → q.refusal ≡ 0 → PairsBegin verdict_number_lem longer n m r.verdict q.verdict r.pairs q.pairs x y
