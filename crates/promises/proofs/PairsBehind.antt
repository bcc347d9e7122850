-- Rule 8 gives an element's pair behind its fields. What an object walk answers and writes is what the walk in that order gives: an answer shows a
-- trace's counters and pairs, and these are the same (framing/proofs/PairOrder). The theorem on a call is `behind_` and the call's name.
use Rattle.std.specs.Prelude.{if◌then◌else◌}
use Prim.Native.Nat.{ℕ}
use mathlib.Core.Path.{◌≡◌, sym, ap, ◌∙◌}
use mathlib.Core.Bool.{true, not}
use mathlib.Core.List.{List}
use lib.ListN.{length}
use lib.Dec.{leb, ltb}
use Rattle.bits.specs.Sizes.{longest_window}
use Rattle.bits.specs.Padded.{padded_among}
use Rattle.framing.specs.Events.{Trace}
use Rattle.framing.specs.Records.{pair_words, whole_records, pair_records}
use Rattle.framing.specs.Refusing.{refused, accepted, decided}
use Rattle.framing.specs.PairsBehind.{walk_behind, NotToldApart}
use Rattle.framing.proofs.PairOrder.{behind_fields}
use Rattle.outputs.specs.Answers.{at_exit, pair_answer_of, final_pairs_of, pair_answer, final_pairs}
use Rattle.array.specs.Calls.{DecodesPairs}
use Rattle.array.specs.Refusals.{ObjectArray}
use Rattle.exports.specs.WalkResults.{objects_result, WalksPairs}
use Rattle.exports.specs.declared.VrfObjects.{VrfObjects}
use Rattle.promises.specs.PairsBehind.{answer_behind, GivenBehind, GivenBehindInC}

-- traces that aren't told apart give one answer and one buffer
module _ (bits : ℕ) (b : List ℕ) {t u : Trace} (a : NotToldApart t u) where
  same_answer : pair_answer_of t bits b ≡ pair_answer_of u bits b
  unfolding decided
  same_answer =
      let c = a.same_counters in
      let p = a.same_pairs in
      let n = a.same_numbers in
      λ i. if ltb longest_window bits then refused 1 0 else
      (if not true then refused 2 0 else
      (if not (leb (length (p i)) (whole_records pair_words (length b))) then refused 3 (length (p i)) else accepted (c i) (padded_among (n i)) (length (p i))))

  same_buffer : final_pairs_of t (pair_answer_of t bits b) b ≡ final_pairs_of u (pair_answer_of u bits b) b
  same_buffer = let p = a.same_pairs in λ i. at_exit (same_answer i) (pair_records (p i)) b

module _ (bytes : List ℕ) (bits : ℕ) (b : List ℕ) where
  behind_answer : pair_answer bytes bits b ≡ answer_behind bytes bits b
  unfolding pair_answer
  behind_answer = sym (same_answer bits b (behind_fields bytes bits))

  behind_buffer : final_pairs bytes bits b ≡ final_pairs_of (walk_behind bytes bits) (answer_behind bytes bits b) b
  unfolding final_pairs pair_answer
  behind_buffer = sym (same_buffer bits b (behind_fields bytes bits))

  -- `decode_object_ref_array` answers by the walk with pairs behind their fields, and leaves its pairs in the buffer.
  pub behind_decode_object_ref_array : (r : ObjectArray) (x : List ℕ) → DecodesPairs bytes bits b r x → GivenBehind bytes bits b r x
  behind_decode_object_ref_array r x d =
      record { says = d.answered.says ∙ behind_answer; judged = d.judged; buffer = d.answered.pairs ∙ behind_buffer }

  -- So does `vrf_object_array`.
  pub behind_vrf_object_array : (r : VrfObjects) (x : List ℕ) → WalksPairs bytes bits b r x → GivenBehindInC bytes bits b r x
  behind_vrf_object_array r x d = record { says = d.says ∙ ap (objects_result bits) behind_answer; buffer = d.buffer ∙ behind_buffer }
