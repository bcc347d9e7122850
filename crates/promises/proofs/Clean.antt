-- What clean means at the public walks. An accepted answer tells its walk's counters and needs, and its buffers begin with the walk's leaves or pairs
-- (Ran); of the walk it was shown that it is clean exactly on the bits of an array of the grammar, and gives that array's leaves, pairs and elements
-- (framing/proofs/CleanMeans). The theorem on a call is `clean_` and the call's name.
use Rattle.std.specs.Prelude.{Ok}
use Prim.Native.Nat.{ℕ, ◌+◌}
use mathlib.Core.Path.{◌≡◌, refl, sym, ap, ap₂, ◌∙◌, subst}
use mathlib.Core.List.{List}
use native.Mathlib.Nat.{add-zero, zero-add}
use lib.ListN.{length}
use Rattle.bits.specs.Bits.{num}
use Rattle.bits.specs.Runs.{filled}
use Rattle.bits.proofs.FieldLaws.{field_lt}
use Rattle.schema.specs.Tables.{Tables}
use Rattle.framing.specs.Windows.{window_of}
use Rattle.framing.specs.Events.{Leaf, Pair, leaves, pairs, Trace}
use Rattle.framing.specs.Counters.{Counters, counted, counters}
use Rattle.framing.specs.Sinks.{Walker, object, Leafy, walk}
use Rattle.framing.specs.Verdicts as F
use Rattle.framing.specs.Verdicts.{verdict_of}
use Rattle.framing.specs.Records.{pair_records}
use Rattle.framing.specs.Refusing.{Room}
use Rattle.framing.specs.Demand.{Opens}
use Rattle.framing.specs.InGrammar.{tree_leaves, tree_pairs, tree_elements}
use Rattle.framing.proofs.Demand3.{walk_inside}
use Rattle.framing.proofs.TraceLaws.{fields_given}
use Rattle.framing.proofs.VerdictLaws.{clean_counts, says_clean}
use Rattle.framing.proofs.CleanMeans.{clean_inside, clean_call, grammar_call, grammar_leaves, grammar_pairs, grammar_elements}
use Rattle.outputs.specs.Answers.{Call, Lent, trace_of, pair_trace, final_pairs}
use Rattle.outputs.proofs.Gives.{no_pairs, no_leaves}
use Rattle.outputs.proofs.Fronts.{opens_filled}
use Rattle.array.specs.Calls.{struct_call, exact_call, verdict_named, Decodes, DecodesPairs}
use Rattle.array.specs.Refusals.{counters_of_lem, room_in}
use Rattle.array.specs.declared.Extent.{Extent}
use Rattle.array.specs.declared.Walked.{Walked}
use Rattle.exports.specs.WalkResults.{verdict_number_lem, Walks, WalksPairs}
use Rattle.exports.specs.declared.VrfWalk.{VrfWalk}
use Rattle.exports.specs.declared.VrfObjects.{VrfObjects}
use Rattle.promises.specs.Clean.{ArrayIn, Fills, CleanLeaves, CleanPairs, CleanInC, CleanPairsInC}
use Rattle.promises.specs.Verdicts.{Exactly}
use Rattle.promises.proofs.VerdictForms.{Apart, named_apart, number_apart}
use Rattle.promises.proofs.Ran.{Ran, ran_tells, ran_fills, ran_decodes, ran_walks, RanPairs, pairs_tell, ran_pairs, ran_objects}

-- ---- any walk of some bytes

module _ (k : Walker) (bytes : List ℕ) (bits : ℕ) where
  -- a verdict on the walk's own counters is clean exactly if the window is an array's
  judged_array : {A : Type 0} (form : F.Verdict → A) → Apart form → (c : Counters) (v : A) → c ≡ counters (walk k bytes bits)
      → v ≡ form (verdict_of k bits c) → Exactly (v ≡ form F.clean) (ArrayIn k bytes bits)
  judged_array form apart c v e j =
      let own : verdict_of k bits c ≡ verdict_of k bits (counters (walk k bytes bits)) = ap (verdict_of k bits) e in (
        λ h. let z = sym own ∙ apart _ _ (sym j ∙ h) in record { inside = clean_inside k bytes bits z; array = clean_call k bytes bits z },
        λ a. j ∙ ap form (own ∙ grammar_call k bytes bits a.inside a.array),
      )

  module _ (a : ArrayIn k bytes bits) where
    walked_elements : (counters (walk k bytes bits)).elements ≡ tree_elements k (window_of bytes bits) a.array
    walked_elements =
        ap (λ (t : Trace). (counters t).elements) (walk_inside k bytes bits a.inside)
        ∙ grammar_elements (window_of bytes bits) (field_lt (num bytes) 0 bits) k a.array

    -- nothing but elements and fields is counted, and a field for each leaf or pair
    walked_counts : (n : ℕ) → length (leaves (walk k bytes bits)) + length (pairs (walk k bytes bits)) ≡ n
        → counters (walk k bytes bits) ≡ counted (tree_elements k (window_of bytes bits) a.array) n 0 0 0 0 0
    walked_counts n e =
        let fine = (says_clean k bits (counters (walk k bytes bits)) (grammar_call k bytes bits a.inside a.array)).no_faults in
        clean_counts (counters (walk k bytes bits)) fine
        ∙ ap₂ (λ (m f : ℕ). counted m f 0 0 0 0 0) walked_elements (fields_given (walk k bytes bits) ∙ e)

    walked_leaves : Leafy k → leaves (walk k bytes bits) ≡ tree_leaves k (window_of bytes bits) a.array
    walked_leaves leafy =
        ap leaves (walk_inside k bytes bits a.inside) ∙ grammar_leaves (window_of bytes bits) (field_lt (num bytes) 0 bits) k a.array leafy

-- ---- struct and exact walks

module _ {A : Type 0} (form : F.Verdict → A) (apart : Apart form) (k : Call) (leafy : Leafy k.how) (b : Lent) (c : Counters) (v : A) (need : Room) (x : Lent)
    {p : ℕ} (run : Ran form k b c v need x p) where
  -- a struct or exact walk gives leaves alone
  own_many : length (leaves (trace_of k)) + length (pairs (trace_of k)) ≡ length (leaves (trace_of k))
  own_many =
      ap (λ (l : List Pair). length (leaves (trace_of k)) + length l) (no_pairs k.how leafy k.bytes k.bits) ∙ add-zero (length (leaves (trace_of k)))

  leaves_clean : CleanLeaves form k c v need x
  leaves_clean =
      let e = (ran_tells run).0 in
      record {
        clean = judged_array k.how k.bytes k.bits form apart c v e run.judged;
        counts = λ a. e ∙ walked_counts k.how k.bytes k.bits a _ (own_many ∙ ap length (walked_leaves k.how k.bytes k.bits a leafy));
        records = λ a. subst (λ (l : List Leaf). Fills l need x) (walked_leaves k.how k.bytes k.bits a leafy) (ran_fills run);
      }

-- THE STRUCT WALK: an accepted answer is clean exactly if its window is the bits of an array of the grammar; then its counters are that array's, and
-- the records of that array's leaves are what stands at the front of the buffers.
pub clean_decode_struct_array : (bytes : List ℕ) (bits : ℕ) (t : Tables) (levels root : ℕ) (b : Lent) (w : Walked Extent) (x : Lent)
    → Decodes (struct_call bytes bits t levels root) b (Ok w) x
    → CleanLeaves verdict_named (struct_call bytes bits t levels root) (counters_of_lem w.stats) w.verdict (room_in w.filled) x
clean_decode_struct_array bytes bits t levels root b w x f =
    let k = struct_call bytes bits t levels root in leaves_clean verdict_named named_apart k refl b _ w.verdict _ x (ran_decodes k b w x f)

-- THE EXACT WALK: the same, of an array without trailer.
pub clean_decode_struct_array_exact : (bytes : List ℕ) (bits : ℕ) (declared declared_names_lem : List ℕ) (b : Lent) (w : Walked Extent) (x : Lent)
    → Decodes (exact_call bytes bits declared declared_names_lem) b (Ok w) x
    → CleanLeaves verdict_named (exact_call bytes bits declared declared_names_lem) (counters_of_lem w.stats) w.verdict (room_in w.filled) x
clean_decode_struct_array_exact bytes bits declared declared_names_lem b w x f =
    let k = exact_call bytes bits declared declared_names_lem in leaves_clean verdict_named named_apart k refl b _ w.verdict _ x (ran_decodes k b w x f)

-- `vrf_struct_array`: the same of a struct that says no refusal.
pub clean_vrf_struct_array : (bytes : List ℕ) (bits : ℕ) (t : Tables) (levels root : ℕ) (b : Lent) (r : VrfWalk) (x : Lent)
    → Walks (struct_call bytes bits t levels root) b r x → CleanInC (struct_call bytes bits t levels root) r x
clean_vrf_struct_array bytes bits t levels root b r x f h =
    let k = struct_call bytes bits t levels root in leaves_clean verdict_number_lem number_apart k refl b _ _ _ x (ran_walks k b r x f h)

-- `vrf_struct_array_exact`: the same, of an array without trailer.
pub clean_vrf_struct_array_exact : (bytes : List ℕ) (bits : ℕ) (declared declared_names_lem : List ℕ) (b : Lent) (r : VrfWalk) (x : Lent)
    → Walks (exact_call bytes bits declared declared_names_lem) b r x → CleanInC (exact_call bytes bits declared declared_names_lem) r x
clean_vrf_struct_array_exact bytes bits declared declared_names_lem b r x f h =
    let k = exact_call bytes bits declared declared_names_lem in leaves_clean verdict_number_lem number_apart k refl b _ _ _ x (ran_walks k b r x f h)

-- ---- the object walk

module _ {A : Type 0} (form : F.Verdict → A) (apart : Apart form) (bytes : List ℕ) (bits : ℕ) (b : List ℕ) (c : Counters) (v : A) (n : ℕ) (x : List ℕ)
    {p : ℕ} (run : RanPairs form bytes bits b c v n x p) where
  own_pairs : Opens (pair_records (pairs (pair_trace bytes bits))) x
  unfolding final_pairs
  own_pairs =
      let new = pair_records (pairs (pair_trace bytes bits)) in
      let held : final_pairs bytes bits b ≡ filled new b = rw (← run.says) in
      subst (Opens new) (sym (run.left ∙ held)) (opens_filled new b)

  walked_pairs : (a : ArrayIn object bytes bits) → pairs (pair_trace bytes bits) ≡ tree_pairs object (window_of bytes bits) a.array
  walked_pairs a =
      ap pairs (walk_inside object bytes bits a.inside) ∙ grammar_pairs (window_of bytes bits) (field_lt (num bytes) 0 bits) a.array

  -- an object walk gives pairs alone
  pairs_many : length (leaves (pair_trace bytes bits)) + length (pairs (pair_trace bytes bits)) ≡ length (pairs (pair_trace bytes bits))
  pairs_many =
      ap (λ (l : List Leaf). length l + length (pairs (pair_trace bytes bits))) (no_leaves bytes bits) ∙ zero-add (length (pairs (pair_trace bytes bits)))

  pairs_clean : CleanPairs form bytes bits c v n x
  pairs_clean =
      let e = (pairs_tell run).0 in
      record {
        clean = judged_array object bytes bits form apart c v e run.judged;
        counts = λ a. e ∙ walked_counts object bytes bits a _ (pairs_many ∙ ap length (walked_pairs a));
        as_many = λ a. (pairs_tell run).1 ∙ ap length (walked_pairs a);
        front = λ a. subst (λ (l : List Pair). Opens (pair_records l) x) (walked_pairs a) own_pairs;
      }

-- THE OBJECT WALK: an accepted answer is clean exactly if its window is the bits of an array of the grammar; then its counters and its pairs are that
-- array's, and these pairs are what stands at the front of the buffer.
pub clean_decode_object_ref_array : (bytes : List ℕ) (bits : ℕ) (b : List ℕ) (w : Walked ℕ) (x : List ℕ)
    → DecodesPairs bytes bits b (Ok w) x → CleanPairs verdict_named bytes bits (counters_of_lem w.stats) w.verdict w.filled x
clean_decode_object_ref_array bytes bits b w x f = pairs_clean verdict_named named_apart bytes bits b _ w.verdict w.filled x (ran_pairs bytes bits b w x f)

-- `vrf_object_array`: the same of a struct that says no refusal.
pub clean_vrf_object_array : (bytes : List ℕ) (bits : ℕ) (b : List ℕ) (r : VrfObjects) (x : List ℕ)
    → WalksPairs bytes bits b r x → CleanPairsInC bytes bits r x
clean_vrf_object_array bytes bits b r x f h = pairs_clean verdict_number_lem number_apart bytes bits b _ _ _ x (ran_objects bytes bits b r x f h)
