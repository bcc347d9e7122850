-- What a struct says of the form that an answer has, it says of the answer; and what it says of a proved call's answer, it says of the definition
-- that the call's contract cites.
use mathlib.Core.Path.{◌≡◌, refl, sym, ap, ◌∙◌, subst}
use mathlib.Core.List.{List}
use mathlib.Core.Option.{Option, none, some}
use Rattle.std.specs.Prelude.{Result, Ok, Err}
use Prim.Native.Nat.{ℕ, ◌%◌, ◌^◌}
use Rattle.bits.specs.Refusals.{Numbered}
use Rattle.bitio.specs.Refusals.{saying_of}
use Rattle.bitio.specs.declared.Cursor.{Cursor}
use Rattle.bitio.specs.declared.said.Saying as B
use Rattle.schema.specs.Refusals.{saying_of as fillSaying}
use Rattle.schema.specs.declared.said.Saying as S
use Rattle.framing.specs.Counters.{Counters}
use Rattle.framing.specs.Sinks.{Walker}
use Rattle.framing.specs.Verdicts.{counters_verdict}
use Rattle.framing.specs.Refusing.{Room, Answer, refused, accepted}
use Rattle.outputs.specs.Answers.{Call, Lent}
use Rattle.array.specs.Refusals.{StructArray, ObjectArray, Merged, counters_of_lem, answer_of, pairs_of, sums_of, refused_room, refused_pairs, refused_sum}
use Rattle.array.specs.declared.said.Saying as W
use Rattle.array.specs.Calls as A
use Rattle.array.specs.Calls.{verdict_is, Judged, PairsJudged, Decodes, DecodesPairs}
use Rattle.array.specs.Merges.{merge}
use Rattle.array.specs.declared.ArrayDecodeStats.{ArrayDecodeStats}
use Rattle.array.specs.declared.Extent.{Extent}
use Rattle.array.specs.declared.Refusal.TheVariants as structs
use Rattle.array.specs.declared.PairRefusal.TheVariants as objects
use Rattle.array.specs.declared.Verdict.{Verdict}
use Rattle.fastarray.specs.Answers as F
use Rattle.fastarray.specs.declared.ChecksumMode.{ChecksumMode}
use Rattle.fastarray.specs.declared.Delta.{Delta}
use Rattle.fastarray.specs.declared.Refusal.{Refusal as BodyRefusal}
use Rattle.fastarray.specs.Refusals.{saying_of as bodySaying}
use Rattle.fastarray.specs.declared.said.Saying as P
use Rattle.exports.specs.WalkResults.{counters_in, counters_out, no_counters_lem, verdict_number_lem, walk_result, not_walked_lem, walk_of, Walks, objects_result, no_pairs_lem, objects_of_lem, WalksPairs, merge_result, not_filled_lem, refused_body, no_body_lem, body_result, DecodesBody}
use Rattle.exports.specs.Calls.{vrf_merge_lem, vrf_verdict_lem}
use Rattle.exports.specs.ReadResults.{cursor_of_lem, refused_at, refused_read}
use Rattle.exports.specs.declared.VrfCounters.{VrfCounters}
use Rattle.exports.specs.declared.VrfWalk.{VrfWalk}
use Rattle.exports.specs.declared.VrfObjects.{VrfObjects}
use Rattle.exports.specs.declared.VrfMerge.{VrfMerge}
use Rattle.exports.specs.declared.VrfFastArray.{VrfFastArray}
use Rattle.exports.specs.declared.VrfCursor.{VrfCursor}
use Rattle.exports.specs.declared.VrfRead.{VrfRead}

-- ---- forms of answers

pub by_form : {A B : Type 0} (f : A → B) {a k : A} {r : B} → a ≡ k → r ≡ f k → r ≡ f a
by_form f e h = h ∙ sym (ap f e)

-- ---- what a refusal says

-- of a read, with its position taken in 64 bits
pub as_said : (n : Numbered) (q : ℕ) {s : B.Saying} {p : ℕ} {a : VrfRead} → s ≡ saying_of n → p ≡ q % 2 ^ 64
    → a ≡ refused_at s.number s.first s.second s.third p → a ≡ refused_read n q
as_said n q e f h = h ∙ (λ i. refused_at (e i).number (e i).first (e i).second (e i).third (f i))

pub walk_said : (a : Answer Room) {s : W.Saying Extent} {k : VrfCounters} → s ≡ refused_room a → k ≡ no_counters_lem
    → record { refusal = s.number; leaves = s.need.leaves; path_bytes = s.need.path_bytes; payload_bytes = s.need.payload_bytes; counters = k; verdict = 0; padded = 0 }
    ≡ not_walked_lem a
walk_said (refused n need) e f =
    λ i. record {
      refusal = (e i).number;
      leaves = (e i).need.leaves;
      path_bytes = (e i).need.path_bytes;
      payload_bytes = (e i).need.payload_bytes;
      counters = f i;
      verdict = 0;
      padded = 0;
    }
walk_said (accepted c d need) e f =
    λ i. record {
      refusal = (e i).number;
      leaves = (e i).need.leaves;
      path_bytes = (e i).need.path_bytes;
      payload_bytes = (e i).need.payload_bytes;
      counters = f i;
      verdict = 0;
      padded = 0;
    }

pub pairs_said : (a : Answer ℕ) {s : W.Saying ℕ} {k : VrfCounters} → s ≡ refused_pairs a → k ≡ no_counters_lem
    → record { refusal = s.number; pairs = s.need; counters = k; verdict = 0; padded = 0 } ≡ no_pairs_lem a
pairs_said (refused n need) e f = λ i. record { refusal = (e i).number; pairs = (e i).need; counters = f i; verdict = 0; padded = 0 }
pairs_said (accepted c d need) e f = λ i. record { refusal = (e i).number; pairs = (e i).need; counters = f i; verdict = 0; padded = 0 }

module _ {a : Merged} {s : ArrayDecodeStats} {n : ℕ} {k : VrfCounters} (number : n ≡ refused_sum (sums_of a)) (counts : k ≡ counters_out (counters_of_lem s)) where
  pub sum_said : a ≡ Ok s → record { refusal = n; counters = k } ≡ merge_result (sums_of a)
  sum_said e =
      let z = number ∙ ap (λ (m : Merged). refused_sum (sums_of m)) e in
      by_form (λ (m : Merged). merge_result (sums_of m)) e (λ i. record { refusal = z i; counters = counts i })

  pub overflow_said : a ≡ Err (record { left = s }) → record { refusal = n; counters = k } ≡ merge_result (sums_of a)
  overflow_said e =
      let z = number ∙ ap (λ (m : Merged). refused_sum (sums_of m)) e in
      by_form (λ (m : Merged). merge_result (sums_of m)) e (λ i. record { refusal = z i; counters = counts i })

pub fill_said : (a : Option Numbered) {s : S.Saying} → s ≡ fillSaying a
    → record { refusal = s.number; rows = s.rows; names = s.names; levels = 0 } ≡ not_filled_lem a
fill_said none e = λ i. record { refusal = (e i).number; rows = (e i).rows; names = (e i).names; levels = 0 }
fill_said (some n) e = λ i. record { refusal = (e i).number; rows = (e i).rows; names = (e i).names; levels = 0 }

pub body_said : (a : Option Numbered) {s : P.Saying} → s ≡ bodySaying a
    → refused_body s.number s.deletes s.items s.fields ≡ no_body_lem a
body_said none e = λ i. refused_body (e i).number (e i).deletes (e i).items (e i).fields
body_said (some n) e = λ i. refused_body (e i).number (e i).deletes (e i).items (e i).fields

-- a read at the cursor that C handed in
pub read_as : {A B : Type 0} (f : ℕ → A → B) (g : Cursor → A) {c : Cursor} {k : VrfCursor} {a : A} {r : B} → c ≡ cursor_of_lem k
    → a ≡ g c → r ≡ f c.pos a → r ≡ f k.pos (g (cursor_of_lem k))
read_as f g {c} e h s = s ∙ ap (f c.pos) h ∙ ap (λ (x : Cursor). f x.pos (g x)) e

-- ---- walks

walk_says : (k : Walker) (bits : ℕ) (a : StructArray) → Judged k bits a → walk_of a ≡ walk_result k bits (answer_of a)
walk_says k bits (Ok w) j =
    λ i. record {
      refusal = 0;
      leaves = w.filled.leaves;
      path_bytes = w.filled.path_bytes;
      payload_bytes = w.filled.payload_bytes;
      counters = (walk_of (Ok w)).counters;
      verdict = verdict_number_lem (j i);
      padded = w.padded;
    }
walk_says k bits (Err structs.TooLong) j = refl
walk_says k bits (Err structs.BrokenTables) j = refl
walk_says k bits (Err (structs.Short e)) j = refl

pub walks_as : (c : Call) (b : Lent) {a : StructArray} {end : Lent} {r : VrfWalk} → Decodes c b a end → r ≡ walk_of a → Walks c b r end
walks_as c b {a} d h =
    let w = d.answered in
    let l = w.leaves in
    let p = w.paths in
    let y = w.payloads in
    record {
      says = h ∙ walk_says c.how c.bits a d.judged ∙ ap (walk_result c.how c.bits) w.says;
      buffers = λ i. record { leaves = l i; paths = p i; payloads = y i };
    }

pairs_say : (bits : ℕ) (a : ObjectArray) → PairsJudged bits a → objects_of_lem a ≡ objects_result bits (pairs_of a)
pairs_say bits (Ok w) j =
    λ i. record { refusal = 0; pairs = w.filled; counters = (objects_of_lem (Ok w)).counters; verdict = verdict_number_lem (j i); padded = w.padded }
pairs_say bits (Err objects.TooLong) j = refl
pairs_say bits (Err (objects.Short n)) j = refl

pub pairs_as : (bytes : List ℕ) (bits : ℕ) (b : List ℕ) {a : ObjectArray} {end : List ℕ} {r : VrfObjects} → DecodesPairs bytes bits b a end
    → r ≡ objects_of_lem a → WalksPairs bytes bits b r end
pairs_as bytes bits b {a} d h =
    record {
      says = h ∙ pairs_say bits a d.judged ∙ ap (objects_result bits) d.answered.says;
      buffer = d.answered.pairs;
    }

-- ---- counters

pub merge_as : (left right : VrfCounters) (m : Merged) {a b : ArrayDecodeStats} {r : VrfMerge} → counters_of_lem a ≡ counters_in left
    → counters_of_lem b ≡ counters_in right → A.Adds a b m → r ≡ merge_result (sums_of m) → r ≡ vrf_merge_lem left right
merge_as left right m {a} {b} e f g h =
    h ∙ ap merge_result (g ∙ ap (λ (x : Counters). merge x (counters_of_lem b)) e ∙ ap (merge (counters_in left)) f)

pub judges_as : (c : VrfCounters) (v : Verdict) {s : ArrayDecodeStats} {n : ℕ} → counters_of_lem s ≡ counters_in c → A.Judges s v
    → n ≡ verdict_number_lem (verdict_is v) → n ≡ vrf_verdict_lem c
judges_as c v e j h = h ∙ ap verdict_number_lem (j ∙ ap counters_verdict e)

-- ---- the fast array

pub body_as : (s : List ℕ) (bits : ℕ) (l : F.Lent) {m k : ChecksumMode} {a : Result Delta BodyRefusal} {end : F.Lent} {r : VrfFastArray} → m ≡ k
    → F.Answered (F.call s bits m) l a end → r ≡ body_result a → DecodesBody (F.call s bits k) l r end
body_as s bits l {m} {k} {a} {end} e d h =
    let d' = subst (λ (x : ChecksumMode). F.Answered (F.call s bits x) l a end) e d in
    record { says = h ∙ ap body_result d'.says; deleted = d'.deleted; items = d'.items; fields = d'.fields }
