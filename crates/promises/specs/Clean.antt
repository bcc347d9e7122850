-- What clean means at the public walks, of the format that array.rs states (framing/specs/Grammar): an accepted walk's verdict is clean exactly if
-- its window is the bits of an array of that grammar, and then its seven counters and all that it filled are that array's. `form` says how
-- verdicts are told, by name or, for C, by number.
use Rattle.std.specs.Prelude.{ℕ, ◌*◌, ◌≤◌, ◌≡◌, List, length}
use Rattle.framing.specs.Windows.{window_of}
use Rattle.framing.specs.Events.{Leaf}
use Rattle.framing.specs.Counters.{Counters, counted}
use Rattle.framing.specs.Sinks.{Walker, object}
use Rattle.framing.specs.Verdicts as F
use Rattle.framing.specs.Records.{path_bytes_lem, payload_bytes_lem, pair_records}
use Rattle.framing.specs.Refusing.{Room}
use Rattle.framing.specs.Demand.{Opens}
use Rattle.framing.specs.InGrammar.{InGrammar, tree_leaves, tree_pairs, tree_elements}
use Rattle.outputs.specs.Answers.{Call, Lent, Front}
use Rattle.exports.specs.WalkResults.{filled_in, counters_in, verdict_number_lem}
use Rattle.exports.specs.declared.VrfWalk.{VrfWalk}
use Rattle.exports.specs.declared.VrfObjects.{VrfObjects}
use Rattle.promises.specs.Verdicts.{Exactly}

-- the first `bits` bits of the bytes, which hold them, are those of an array of the grammar
pub record ArrayIn (k : Walker) (bytes : List ℕ) (bits : ℕ) : Type 0 where
  pub inside : bits ≤ 8 * length bytes
  pub array : InGrammar k (window_of bytes bits)

-- these leaves, no more and no fewer, are filled, and their records, path bytes and payload bytes stand at the front of the buffers
pub record Fills (l : List Leaf) (need : Room) (x : Lent) : Type 0 where
  pub leaves : need.leaves ≡ length l
  pub path_bytes : need.path_bytes_lem ≡ length (path_bytes_lem l)
  pub payload_bytes_law : need.payload_bytes_lem ≡ length (payload_bytes_lem l)
  pub front : Front l x

-- A struct or exact walk with the counters c and the verdict v, which filled `need` and left x.
pub record CleanLeaves {A : Type 0} (form : F.Verdict → A) (call : Call) (c : Counters) (v : A) (need : Room) (x : Lent) : Type 0 where
  pub clean : Exactly (v ≡ form F.clean) (ArrayIn call.how call.bytes call.bits)
  pub counts : (a : ArrayIn call.how call.bytes call.bits) →
      let w = window_of call.bytes call.bits in
      c ≡ counted (tree_elements call.how w a.array) (length (tree_leaves call.how w a.array)) 0 0 0 0 0
  pub records : (a : ArrayIn call.how call.bytes call.bits) → Fills (tree_leaves call.how (window_of call.bytes call.bits) a.array) need x

-- An object walk, which filled n pairs and left x.
pub record CleanPairs {A : Type 0} (form : F.Verdict → A) (bytes : List ℕ) (bits : ℕ) (c : Counters) (v : A) (n : ℕ) (x : List ℕ) : Type 0 where
  pub clean : Exactly (v ≡ form F.clean) (ArrayIn object bytes bits)
  pub counts : (a : ArrayIn object bytes bits) →
      let w = window_of bytes bits in
      c ≡ counted (tree_elements object w a.array) (length (tree_pairs object w a.array)) 0 0 0 0 0
  pub as_many : (a : ArrayIn object bytes bits) → n ≡ length (tree_pairs object (window_of bytes bits) a.array)
  pub front : (a : ArrayIn object bytes bits) → Opens (pair_records (tree_pairs object (window_of bytes bits) a.array)) x

-- ---- the same of a struct for C that says no refusal

abbrev pub CleanInC : Call → VrfWalk → Lent → Type 0
CleanInC call r x = r.refusal ≡ 0 → CleanLeaves verdict_number_lem call (counters_in r.counters) r.verdict (filled_in r) x

abbrev pub CleanPairsInC : (bytes : List ℕ) (bits : ℕ) → VrfObjects → List ℕ → Type 0
CleanPairsInC bytes bits r x = r.refusal ≡ 0 → CleanPairs verdict_number_lem bytes bits (counters_in r.counters) r.verdict r.pairs x
