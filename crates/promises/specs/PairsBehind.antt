-- Rule 8 gives an element's pair behind its fields (framing/specs/PairsBehind): an object walk answers and fills as the walk in that order does.
use Rattle.std.specs.Prelude.{ℕ, ◌≡◌, List}
use Rattle.framing.specs.PairsBehind.{walk_behind}
use Rattle.framing.specs.Refusing.{Answer}
use Rattle.outputs.specs.Answers.{pair_answer_of, final_pairs_of}
use Rattle.array.specs.Calls.{PairsJudged}
use Rattle.array.specs.Refusals.{ObjectArray, pairs_of}
use Rattle.exports.specs.WalkResults.{objects_result}
use Rattle.exports.specs.declared.VrfObjects.{VrfObjects}

-- what such a walk answers
abbrev pub answer_behind : (bytes : List ℕ) (bits : ℕ) (lent : List ℕ) → Answer ℕ
answer_behind bytes bits lent = pair_answer_of (walk_behind bytes bits) bits lent

-- r is the answer, its verdict the one on its counters, and `end` what the buffer holds at the exit
pub record GivenBehind (bytes : List ℕ) (bits : ℕ) (lent : List ℕ) (r : ObjectArray) (end : List ℕ) : Type 0 where
  pub says : pairs_of r ≡ answer_behind bytes bits lent
  pub judged : PairsJudged bits r
  pub buffer : end ≡ final_pairs_of (walk_behind bytes bits) (answer_behind bytes bits lent) lent

-- the same of the struct for C
pub record GivenBehindInC (bytes : List ℕ) (bits : ℕ) (lent : List ℕ) (r : VrfObjects) (end : List ℕ) : Type 0 where
  pub says : r ≡ objects_result bits (answer_behind bytes bits lent)
  pub buffer : end ≡ final_pairs_of (walk_behind bytes bits) (answer_behind bytes bits lent) lent
