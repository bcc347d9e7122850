-- An accepted walk, whatever form its answer has: it tells its walk's counters and needs, and the verdict on its window, and its buffers are those
-- of the definition, which begin with the walk's leaves or pairs. What holds of it holds of the calls that answer by name and of those for C.
use Rattle.std.specs.Prelude.{Ok}
use mathlib.Core.Path.{◌≡◌, refl, sym, ap, ◌∙◌, subst}
use mathlib.Core.List.{List, [], append-nil}
use Prim.Native.Nat.{ℕ}
use lib.ListN.{length}
use Rattle.framing.specs.Events.{leaves, pairs}
use Rattle.framing.specs.Counters.{Counters, counters, padded_in}
use Rattle.framing.specs.Sinks.{object}
use Rattle.framing.specs.Verdicts as F
use Rattle.framing.specs.Verdicts.{verdict_of}
use Rattle.framing.specs.Refusing.{Room, needed, Answer, refused, accepted}
use Rattle.outputs.specs.Answers.{Call, Lent, trace_of, answer, final, pair_answer, pair_trace, final_pairs, Front, was_accepted}
use Rattle.outputs.proofs.Fronts.{front}
use Rattle.array.proofs.OneAnswer.{verdict_back}
use Rattle.array.specs.Calls.{verdict_is, verdict_named, Decodes, DecodesPairs}
use Rattle.array.specs.Refusals.{counters_of_lem, room_in}
use Rattle.array.specs.declared.Extent.{Extent}
use Rattle.array.specs.declared.Walked.{Walked}
use Rattle.array.specs.declared.Verdict.{Verdict}
use Rattle.exports.specs.WalkResults.{filled_in, counters_in, verdict_number_lem, walk_result, Walks, objects_result, WalksPairs}
use Rattle.exports.specs.declared.VrfWalk.{VrfWalk}
use Rattle.exports.specs.declared.VrfObjects.{VrfObjects}
use Rattle.promises.specs.Clean.{Fills}
use Rattle.promises.proofs.Accepted.{accepted_tells, refused_numbered}

-- The verdict by name is the one that is judged.
pub by_name : (v : Verdict) {w : F.Verdict} → verdict_is v ≡ w → v ≡ verdict_named w
by_name v e = sym (verdict_back v) ∙ ap verdict_named e

-- ---- struct and exact walks

pub record Ran {A : Type 0} (form : F.Verdict → A) (k : Call) (b : Lent) (c : Counters) (v : A) (need : Room) (x : Lent) (p : ℕ) : Type 0 where
  pub says : accepted c p need ≡ answer k b
  pub judged : v ≡ form (verdict_of k.how k.bits c)
  pub left : x ≡ final k b

-- The counters are the walk's own, what was filled is what it needs, and the padded numbers are those that it took.
pub ran_tells : {A : Type 0} {form : F.Verdict → A} {k : Call} {b : Lent} {c : Counters} {v : A} {need : Room} {x : Lent} {p : ℕ} → Ran form k b c v need x p
    → (c ≡ counters (trace_of k)) × (need ≡ needed (trace_of k)) × (p ≡ padded_in (trace_of k))
unfolding answer
ran_tells f = accepted_tells _ _ _ _ _ _ f.says

-- What it filled are the walk's leaves.
pub ran_fills : {A : Type 0} {form : F.Verdict → A} {k : Call} {b : Lent} {c : Counters} {v : A} {need : Room} {x : Lent} {p : ℕ} → Ran form k b c v need x p
    → Fills (leaves (trace_of k)) need x
unfolding needed
ran_fills {k = k} {b = b} run =
    let n = (ran_tells run).1 in
    record {
      leaves = ap (λ (r : Room). r.leaves) n;
      path_bytes = ap (λ (r : Room). r.path_bytes_lem) n;
      payload_bytes_law = ap (λ (r : Room). r.payload_bytes_lem) n;
      front = subst (Front (leaves (trace_of k))) (sym run.left)
          (front k b (subst was_accepted run.says tt) (leaves (trace_of k)) (record { rest = []; whole = append-nil (leaves (trace_of k)) }));
    }

-- An accepted answer by name.
pub ran_decodes : (k : Call) (b : Lent) (w : Walked Extent) (x : Lent) → Decodes k b (Ok w) x
    → Ran verdict_named k b (counters_of_lem w.stats) w.verdict (room_in w.filled) x w.padded
ran_decodes k b w x f =
    let l = f.answered.leaves in
    let p = f.answered.paths in
    let y = f.answered.payloads in
    record { says = f.answered.says; judged = by_name w.verdict f.judged; left = λ i. record { leaves = l i; paths = p i; payloads = y i } }

-- A struct for C that says no refusal.
pub ran_walks : (k : Call) (b : Lent) (r : VrfWalk) (x : Lent) → Walks k b r x → r.refusal ≡ 0
    → Ran verdict_number_lem k b (counters_in r.counters) r.verdict (filled_in r) x r.padded
unfolding answer
ran_walks k b r x f = subst Told (sym f.says) (go (answer k b) refl)
  where
    Told : VrfWalk → Type 0
    Told w = w.refusal ≡ 0 → Ran verdict_number_lem k b (counters_in w.counters) w.verdict (filled_in w) x w.padded

    go : (a : Answer Room) → a ≡ answer k b → Told (walk_result k.how k.bits a)
    go (accepted c p n) h = λ z. record { says = h; judged = refl; left = f.buffers }
    go (refused c n) h = λ z. absurd (refused_numbered _ _ _ _ _ _ h z)

-- ---- the object walk

pub record RanPairs {A : Type 0} (form : F.Verdict → A) (bytes : List ℕ) (bits : ℕ) (b : List ℕ) (c : Counters) (v : A) (n : ℕ) (x : List ℕ) (p : ℕ) : Type 0 where
  pub says : accepted c p n ≡ pair_answer bytes bits b
  pub judged : v ≡ form (verdict_of object bits c)
  pub left : x ≡ final_pairs bytes bits b

-- The counters are the walk's own, there are as many pairs as it gives, and the padded numbers are those that it took.
pub pairs_tell : {A : Type 0} {form : F.Verdict → A} {bytes : List ℕ} {bits : ℕ} {b : List ℕ} {c : Counters} {v : A} {n : ℕ} {x : List ℕ} {p : ℕ}
    → RanPairs form bytes bits b c v n x p → (c ≡ counters (pair_trace bytes bits)) × (n ≡ length (pairs (pair_trace bytes bits))) × (p ≡ padded_in (pair_trace bytes bits))
unfolding pair_answer
pairs_tell f = accepted_tells _ _ _ _ _ _ f.says

-- An accepted answer by name.
pub ran_pairs : (bytes : List ℕ) (bits : ℕ) (b : List ℕ) (w : Walked ℕ) (x : List ℕ)
    → DecodesPairs bytes bits b (Ok w) x → RanPairs verdict_named bytes bits b (counters_of_lem w.stats) w.verdict w.filled x w.padded
ran_pairs bytes bits b w x f = record { says = f.answered.says; judged = by_name w.verdict f.judged; left = f.answered.pairs }

-- A struct for C that says no refusal.
pub ran_objects : (bytes : List ℕ) (bits : ℕ) (b : List ℕ) (r : VrfObjects) (x : List ℕ) → WalksPairs bytes bits b r x → r.refusal ≡ 0
    → RanPairs verdict_number_lem bytes bits b (counters_in r.counters) r.verdict r.pairs x r.padded
unfolding pair_answer
ran_objects bytes bits b r x f = subst Told (sym f.says) (go (pair_answer bytes bits b) refl)
  where
    Told : VrfObjects → Type 0
    Told w = w.refusal ≡ 0 → RanPairs verdict_number_lem bytes bits b (counters_in w.counters) w.verdict w.pairs x w.padded

    go : (a : Answer ℕ) → a ≡ pair_answer bytes bits b → Told (objects_result bits a)
    go (accepted c p n) h = λ z. record { says = h; judged = refl; left = f.buffer }
    go (refused c n) h = λ z. absurd (refused_numbered _ _ _ _ _ _ h z)
