-- What the verdicts say of windows and of sets of counters. The verdict on a window follows its definition, and the counters beside it are the
-- walk's own, so that partial means that something other than elements and fields was counted (framing/proofs/WalkVerdicts). The theorem on a call
-- is `judged_` and the call's name.
use Rattle.std.specs.Prelude.{Ok}
use mathlib.Core.Path.{◌≡◌, refl, sym, ap, ◌∙◌, subst}
use mathlib.Core.List.{List}
use Prim.Native.Nat.{ℕ}
use Rattle.schema.specs.Tables.{Tables}
use Rattle.framing.specs.Counters.{Counters, counters, is_clean}
use Rattle.framing.specs.Sinks.{Walker, struct, exact, object, walk}
use Rattle.framing.specs.Verdicts as F
use Rattle.framing.specs.Verdicts.{counters_verdict, verdict_of}
use Rattle.framing.specs.Refusing.{Room, Answer, refused, accepted}
use Rattle.framing.proofs.VerdictLaws.{set_clean, set_partial, clean_set, partial_set, set_not_empty, silent_empty, silent_none, none_silent, object_loud, says_clean, some_clean, says_empty}
use Rattle.framing.proofs.WalkVerdicts.{silent_walk, error_walk, counted_partial, partial_counted}
use Rattle.outputs.specs.Answers.{Call, Lent, answer, pair_answer}
use Rattle.array.specs.Calls.{struct_call, exact_call, verdict_named, Judges, Decodes, DecodesPairs}
use Rattle.array.specs.Refusals.{counters_of_lem}
use Rattle.array.specs.declared.ArrayDecodeStats.{ArrayDecodeStats}
use Rattle.array.specs.declared.Extent.{Extent}
use Rattle.array.specs.declared.Walked.{Walked}
use Rattle.array.specs.declared.Verdict.{Verdict}
use Rattle.exports.specs.Calls.{vrf_verdict_lem}
use Rattle.exports.specs.WalkResults.{counters_in, verdict_number_lem, Walks, walk_result, WalksPairs, objects_result}
use Rattle.exports.specs.declared.VrfCounters.{VrfCounters}
use Rattle.exports.specs.declared.VrfWalk.{VrfWalk}
use Rattle.exports.specs.declared.VrfObjects.{VrfObjects}
use Rattle.promises.specs.Verdicts.{OnWindow, InC, OnSet}
use Rattle.promises.proofs.VerdictForms.{Apart, named_apart, number_apart}
use Rattle.promises.proofs.Ran.{by_name, Ran, ran_tells, ran_decodes, ran_walks, RanPairs, pairs_tell, ran_pairs, ran_objects}

module _ {A : Type 0} (form : F.Verdict → A) (apart : Apart form) where
  -- of a walk's own counters
  on_window : (k : Walker) (bytes : List ℕ) (bits : ℕ) (c : Counters) (v : A) → c ≡ counters (walk k bytes bits) → v ≡ form (verdict_of k bits c)
      → OnWindow form k bits c v
  on_window k bytes bits c v e h =
      let own : verdict_of k bits c ≡ verdict_of k bits (counters (walk k bytes bits)) = ap (verdict_of k bits) e in
      record {
        empty = (
          λ x. silent_none k bits (says_empty k bits c (apart _ _ (sym h ∙ x))),
          λ x. h ∙ ap form (silent_empty k bits c (none_silent k bits x.0 x.1)),
        );
        clean = (
          λ x. let s = says_clean k bits c (apart _ _ (sym h ∙ x)) in (s.some, s.no_faults),
          λ x. h ∙ ap form (some_clean k bits c (record { some = x.0; no_faults = x.1 })),
        );
        partial = (
          λ x. ap is_clean e ∙ partial_counted k bytes bits (sym own ∙ apart _ _ (sym h ∙ x)),
          λ x. h ∙ ap form (own ∙ counted_partial k bytes bits (sym (ap is_clean e) ∙ x)),
        );
        nothing_counted = λ l z. e ∙ ap counters (silent_walk k bytes bits (none_silent k bits l z));
        error_counted = λ l z. e ∙ ap counters (ap (walk k bytes) z ∙ error_walk k bytes (object_loud k 0 l));
      }

  on_set : (c : Counters) (v : A) → v ≡ form (counters_verdict c) → OnSet form c v
  on_set c v h =
      record {
        clean = (λ x. clean_set c (apart _ _ (sym h ∙ x)), λ x. h ∙ ap form (set_clean c x));
        partial = (λ x. partial_set c (apart _ _ (sym h ∙ x)), λ x. h ∙ ap form (set_partial c x));
        not_empty = λ x. set_not_empty c (apart _ _ (sym h ∙ x));
      }

-- ---- the walks

-- A struct or exact walk that was not refused, and an object walk.
leaves_judged : {A : Type 0} (form : F.Verdict → A) → Apart form → (k : Call) (b : Lent) (c : Counters) (v : A) (need : Room) (x : Lent)
    → {p : ℕ} → Ran form k b c v need x p → OnWindow form k.how k.bits c v
leaves_judged form apart k b c v need x f = on_window form apart k.how k.bytes k.bits c v (ran_tells f).0 f.judged

pairs_judged : {A : Type 0} (form : F.Verdict → A) → Apart form → (bytes : List ℕ) (bits : ℕ) (b : List ℕ) (c : Counters) (v : A) (n : ℕ) (x : List ℕ)
    → {p : ℕ} → RanPairs form bytes bits b c v n x p → OnWindow form object bits c v
pairs_judged form apart bytes bits b c v n x f = on_window form apart object bytes bits c v (pairs_tell f).0 f.judged

-- The verdict of an accepted struct walk: empty of no bits, clean of some with nothing counted against it, else partial.
pub judged_decode_struct_array : (bytes : List ℕ) (bits : ℕ) (t : Tables) (levels root : ℕ) (b : Lent) (w : Walked Extent) (x : Lent)
    → Decodes (struct_call bytes bits t levels root) b (Ok w) x → OnWindow verdict_named (struct t root) bits (counters_of_lem w.stats) w.verdict
judged_decode_struct_array bytes bits t levels root b w x f =
    let k = struct_call bytes bits t levels root in leaves_judged verdict_named named_apart k b _ w.verdict _ x (ran_decodes k b w x f)

-- That of an accepted exact walk: the same.
pub judged_decode_struct_array_exact : (bytes : List ℕ) (bits : ℕ) (declared declared_names_lem : List ℕ) (b : Lent) (w : Walked Extent) (x : Lent)
    → Decodes (exact_call bytes bits declared declared_names_lem) b (Ok w) x
    → OnWindow verdict_named (exact declared declared_names_lem) bits (counters_of_lem w.stats) w.verdict
judged_decode_struct_array_exact bytes bits declared declared_names_lem b w x f =
    let k = exact_call bytes bits declared declared_names_lem in leaves_judged verdict_named named_apart k b _ w.verdict _ x (ran_decodes k b w x f)

-- That of an accepted object walk: never empty; of no bits partial, since an error is counted.
pub judged_decode_object_ref_array : (bytes : List ℕ) (bits : ℕ) (b : List ℕ) (w : Walked ℕ) (x : List ℕ)
    → DecodesPairs bytes bits b (Ok w) x → OnWindow verdict_named object bits (counters_of_lem w.stats) w.verdict
judged_decode_object_ref_array bytes bits b w x f = pairs_judged verdict_named named_apart bytes bits b _ w.verdict w.filled x (ran_pairs bytes bits b w x f)

-- ---- counters alone

-- The verdict on a set of counters is clean or partial, never empty.
pub judged_verdict : (stats : ArrayDecodeStats) (r : Verdict) → Judges stats r → OnSet verdict_named (counters_of_lem stats) r
judged_verdict stats r j = on_set verdict_named named_apart (counters_of_lem stats) r (by_name r j)

-- So is the number of it for C: 0 or 1.
pub judged_vrf_verdict : (counters : VrfCounters) (r : ℕ) → r ≡ vrf_verdict_lem counters → OnSet verdict_number_lem (counters_in counters) r
judged_vrf_verdict counters r j = on_set verdict_number_lem number_apart (counters_in counters) r j

-- ---- the walks for C

walk_in_c : (c : Call) (b : Lent) (r : VrfWalk) (x : Lent) → Walks c b r x
    → InC c.how c.bits r.refusal (counters_in r.counters) r.verdict
walk_in_c c b r x f =
    record {
      refused = λ z. subst (λ (w : VrfWalk). (w.refusal ≡ 0 → ⊥) → w.verdict ≡ 0) (sym f.says) (go (answer c b)) z;
      accepted = λ z. leaves_judged verdict_number_lem number_apart c b _ _ _ x (ran_walks c b r x f z);
    }
  where
    go : (a : Answer Room) → ((walk_result c.how c.bits a).refusal ≡ 0 → ⊥) → (walk_result c.how c.bits a).verdict ≡ 0
    go (accepted k p n) h = absurd (h refl)
    go (refused k n) h = refl

-- The verdict of `vrf_struct_array`: 0 where the walk is refused; else empty of no bits, clean of some with nothing counted against it, or partial.
pub judged_vrf_struct_array : (bytes : List ℕ) (bits : ℕ) (t : Tables) (levels root : ℕ) (b : Lent) (r : VrfWalk) (x : Lent)
    → Walks (struct_call bytes bits t levels root) b r x → InC (struct t root) bits r.refusal (counters_in r.counters) r.verdict
judged_vrf_struct_array bytes bits t levels root = walk_in_c (struct_call bytes bits t levels root)

-- That of `vrf_struct_array_exact`: the same.
pub judged_vrf_struct_array_exact : (bytes : List ℕ) (bits : ℕ) (declared declared_names_lem : List ℕ) (b : Lent) (r : VrfWalk) (x : Lent)
    → Walks (exact_call bytes bits declared declared_names_lem) b r x → InC (exact declared declared_names_lem) bits r.refusal (counters_in r.counters) r.verdict
judged_vrf_struct_array_exact bytes bits declared declared_names_lem = walk_in_c (exact_call bytes bits declared declared_names_lem)

-- That of `vrf_object_array`: the same, but never empty.
pub judged_vrf_object_array : (bytes : List ℕ) (bits : ℕ) (b : List ℕ) (r : VrfObjects) (x : List ℕ)
    → WalksPairs bytes bits b r x → InC object bits r.refusal (counters_in r.counters) r.verdict
judged_vrf_object_array bytes bits b r x f =
    record {
      refused = λ z. subst (λ (w : VrfObjects). (w.refusal ≡ 0 → ⊥) → w.verdict ≡ 0) (sym f.says) (go (pair_answer bytes bits b)) z;
      accepted = λ z. pairs_judged verdict_number_lem number_apart bytes bits b _ _ _ x (ran_objects bytes bits b r x f z);
    }
  where
    go : (a : Answer ℕ) → ((objects_result bits a).refusal ≡ 0 → ⊥) → (objects_result bits a).verdict ≡ 0
    go (accepted k p n) h = absurd (h refl)
    go (refused k n) h = refl
