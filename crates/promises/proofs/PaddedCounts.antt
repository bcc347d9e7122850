-- An accepted answer counts the padded ones among the numbers that its walk took, or that its body holds, since the contract says so (Ran). Each of
-- these has five bytes at most and, if it is padded, takes 16 bits (framing/proofs/PaddedTaken, fastarray/proofs/PaddedNumbers); and of five bytes
-- padded means that a shorter form exists (framing/proofs/PaddedForms). The theorem on a call is `padded_` and the call's name.
use Rattle.std.specs.Prelude.{Ok, Err}
use Prim.Native.Nat.{ℕ, ◌≤◌}
use mathlib.Core.Path.{◌≡◌, refl, sym, subst}
use mathlib.Core.Bool.{true}
use mathlib.Core.List.{List, [], ◌∷◌}
use Rattle.std.specs.Prelude.{Option, None, Some, Result, Ok, Err}
use native.Mathlib.Omega.{arith}
use lib.Dec.{ltb}
use Rattle.bits.specs.Members.{All}
use Rattle.bits.specs.Packed.{Number, most_bytes}
use Rattle.bits.specs.Padded.{is_padded, padded_among, ShorterForm}
use Rattle.bits.specs.Sizes.{longest_window}
use Rattle.bits.proofs.ChoiceLaws.{by_cases}
use Rattle.bits.proofs.Never.{never}
use Rattle.bits.proofs.PaddedTakes.{Takes}
use Rattle.schema.specs.Tables.{Tables}
use Rattle.framing.specs.Counters.{Counters}
use Rattle.framing.specs.Events.{taken}
use Rattle.framing.specs.Refusing.{Room, Answer, refused, accepted}
use Rattle.framing.specs.Sinks.{object}
use Rattle.framing.specs.Verdicts as judged
use Rattle.framing.proofs.PaddedForms.{few_exactly}
use Rattle.framing.proofs.PaddedTaken.{walk_takes}
use Rattle.outputs.specs.Answers.{Call, Lent, trace_of, answer, pair_trace, pair_answer}
use Rattle.array.specs.Calls.{struct_call, exact_call, Decodes, DecodesPairs}
use Rattle.array.specs.Refusals.{StructArray, ObjectArray}
use Rattle.fastarray.specs.Answers as F
use Rattle.fastarray.specs.Body.{Body, numbers_of}
use Rattle.fastarray.specs.declared.ChecksumMode.{ChecksumMode}
use Rattle.fastarray.specs.declared.Delta.{Delta}
use Rattle.fastarray.specs.declared.Refusal.{Refusal}
use Rattle.fastarray.specs.declared.Refusal.TheVariants as body
use Rattle.fastarray.proofs.PaddedNumbers.{found_takes}
use Rattle.exports.specs.WalkResults.{walk_result, Walks, objects_result, WalksPairs, mode_of, body_result, DecodesBody}
use Rattle.exports.specs.declared.VrfWalk.{VrfWalk}
use Rattle.exports.specs.declared.VrfObjects.{VrfObjects}
use Rattle.exports.specs.declared.VrfFastArray.{VrfFastArray}
use Rattle.promises.specs.PaddedCounts.{Counts, CountsTaken, CountsInPairs, CountsInBody, CountsTakenInC, CountsPairsInC, CountsBodyInC}
use Rattle.promises.specs.Verdicts.{Exactly}
use Rattle.promises.proofs.Ran.{Ran, ran_tells, ran_decodes, ran_walks, RanPairs, pairs_tell, ran_pairs, ran_objects}

-- ---- numbers

each_shorter : (l : List Number) → All (λ x. x.bytes ≤ most_bytes) l → All (λ x. Exactly (is_padded x ≡ true) (ShorterForm x.value x.bytes)) l
each_shorter [] h = tt
each_shorter (x ∷ l) h = (few_exactly x.value x.bytes h.0, each_shorter l h.1)

counts_of : (l : List Number) (bits n : ℕ) → n ≡ padded_among l → Takes l 0 bits → Counts l bits n
counts_of l bits n e t = record { counts = e; shorter = each_shorter l t.few; bounded = omega (arith, t.bits) }

-- ---- struct and exact walks

ran_counts : {A : Type 0} {form : judged.Verdict → A} {k : Call} {b : Lent} {c : Counters} {v : A} {need : Room} {x : Lent} {p : ℕ}
    → Ran form k b c v need x p → Counts (taken (trace_of k)) k.bits p
ran_counts {k = k} {p = p} run = counts_of (taken (trace_of k)) k.bits p (ran_tells run).2 (walk_takes k.how k.bytes k.bits)

decodes_counts : (k : Call) (b : Lent) (r : StructArray) (x : Lent) → Decodes k b r x → CountsTaken k r
decodes_counts k b (Ok w) x f = ran_counts (ran_decodes k b w x f)
decodes_counts k b (Err why) x f = tt

walks_counts : (k : Call) (b : Lent) (r : VrfWalk) (x : Lent) → Walks k b r x → CountsTakenInC k r
walks_counts k b r x f =
    record {
      accepted = λ z. ran_counts (ran_walks k b r x f z);
      refused = λ z. subst (λ (w : VrfWalk). (w.refusal ≡ 0 → ⊥) → w.padded ≡ 0) (sym f.says) (go (answer k b)) z;
    }
  where
    go : (a : Answer Room) → ((walk_result k.how k.bits a).refusal ≡ 0 → ⊥) → (walk_result k.how k.bits a).padded ≡ 0
    go (refused n need) z = refl
    go (accepted c p need) z = absurd (z refl)

-- THE STRUCT WALK: an accepted answer counts the padded numbers that the walk took.
pub padded_decode_struct_array : (bytes : List ℕ) (bits : ℕ) (t : Tables) (levels root : ℕ) (b : Lent) (r : StructArray) (x : Lent)
    → Decodes (struct_call bytes bits t levels root) b r x → CountsTaken (struct_call bytes bits t levels root) r
padded_decode_struct_array bytes bits t levels root = decodes_counts (struct_call bytes bits t levels root)

-- THE EXACT WALK: the same.
pub padded_decode_struct_array_exact : (bytes : List ℕ) (bits : ℕ) (declared declared_names_lem : List ℕ) (b : Lent) (r : StructArray) (x : Lent)
    → Decodes (exact_call bytes bits declared declared_names_lem) b r x → CountsTaken (exact_call bytes bits declared declared_names_lem) r
padded_decode_struct_array_exact bytes bits declared declared_names_lem = decodes_counts (exact_call bytes bits declared declared_names_lem)

-- `vrf_struct_array`: the same of a struct that says no refusal; a refused one counts 0.
pub padded_vrf_struct_array : (bytes : List ℕ) (bits : ℕ) (t : Tables) (levels root : ℕ) (b : Lent) (r : VrfWalk) (x : Lent)
    → Walks (struct_call bytes bits t levels root) b r x → CountsTakenInC (struct_call bytes bits t levels root) r
padded_vrf_struct_array bytes bits t levels root = walks_counts (struct_call bytes bits t levels root)

-- `vrf_struct_array_exact`: the same.
pub padded_vrf_struct_array_exact : (bytes : List ℕ) (bits : ℕ) (declared declared_names_lem : List ℕ) (b : Lent) (r : VrfWalk) (x : Lent)
    → Walks (exact_call bytes bits declared declared_names_lem) b r x → CountsTakenInC (exact_call bytes bits declared declared_names_lem) r
padded_vrf_struct_array_exact bytes bits declared declared_names_lem = walks_counts (exact_call bytes bits declared declared_names_lem)

-- ---- the object walk

pairs_counts : {A : Type 0} {form : judged.Verdict → A} {bytes : List ℕ} {bits : ℕ} {b : List ℕ} {c : Counters} {v : A} {n : ℕ} {x : List ℕ} {p : ℕ}
    → RanPairs form bytes bits b c v n x p → Counts (taken (pair_trace bytes bits)) bits p
pairs_counts {bytes = bytes} {bits = bits} {p = p} run = counts_of (taken (pair_trace bytes bits)) bits p (pairs_tell run).2 (walk_takes object bytes bits)

-- THE OBJECT WALK: an accepted answer counts the padded numbers that the walk took.
pub padded_decode_object_ref_array : (bytes : List ℕ) (bits : ℕ) (b : List ℕ) (r : ObjectArray) (x : List ℕ)
    → DecodesPairs bytes bits b r x → CountsInPairs bytes bits r
padded_decode_object_ref_array bytes bits b (Ok w) x f = pairs_counts (ran_pairs bytes bits b w x f)
padded_decode_object_ref_array bytes bits b (Err why) x f = tt

-- `vrf_object_array`: the same of a struct that says no refusal; a refused one counts 0.
pub padded_vrf_object_array : (bytes : List ℕ) (bits : ℕ) (b : List ℕ) (r : VrfObjects) (x : List ℕ)
    → WalksPairs bytes bits b r x → CountsPairsInC bytes bits r
padded_vrf_object_array bytes bits b r x f =
    record {
      accepted = λ z. pairs_counts (ran_objects bytes bits b r x f z);
      refused = λ z. subst (λ (w : VrfObjects). (w.refusal ≡ 0 → ⊥) → w.padded ≡ 0) (sym f.says) (go (pair_answer bytes bits b)) z;
    }
  where
    go : (a : Answer ℕ) → ((objects_result bits a).refusal ≡ 0 → ⊥) → (objects_result bits a).padded ≡ 0
    go (refused n need) z = refl
    go (accepted c p need) z = absurd (z refl)

-- ---- the fast array

decided_counts : (c : F.Call) (l : F.Lent) (o : Option Body) → F.found c ≡ o → CountsInBody c (F.decided o l)
unfolding F.decided
decided_counts c l None e = tt
decided_counts c l (Some b) e =
    by_cases (F.fits_in b l)
    (λ h. rw h (record { body = b; holds = e; counts = counts_of (numbers_of b.items) c.bits _ refl (found_takes c b e) }))
    (λ h. rw h tt)

answer_counts : (c : F.Call) (l : F.Lent) → CountsInBody c (F.answer c l)
unfolding F.answer
answer_counts c l = by_cases (ltb longest_window c.bits) (λ h. rw h tt) (λ h. rw h (decided_counts c l (F.found c) refl))

-- `decode_fast_array_delta`: an accepted answer counts the padded numbers of the body.
pub padded_decode_fast_array_delta : (payload : List ℕ) (bits : ℕ) (mode : ChecksumMode) (l : F.Lent) (r : Result Delta Refusal) (x : F.Lent)
    → F.Answered (F.call payload bits mode) l r x → CountsInBody (F.call payload bits mode) r
padded_decode_fast_array_delta payload bits mode l r x f =
    let c = F.call payload bits mode in subst (CountsInBody c) (sym f.says) (answer_counts c l)

body_counts : (c : F.Call) (a : Result Delta Refusal) → CountsInBody c a → CountsBodyInC c (body_result a)
body_counts c (Ok d) h = record { accepted = λ z. h; refused = λ z. absurd (z refl) }
body_counts c (Err body.TooLong) h = record { accepted = λ z. never (sym z); refused = λ z. refl }
body_counts c (Err body.NotFastArray) h = record { accepted = λ z. absurd (omega arith); refused = λ z. refl }
body_counts c (Err (body.Short n)) h = record { accepted = λ z. absurd (omega arith); refused = λ z. refl }

-- `vrf_fast_array`: the same of a struct that says no refusal; a refused one counts 0.
pub padded_vrf_fast_array : (payload : List ℕ) (bits checksum : ℕ) (l : F.Lent) (r : VrfFastArray) (x : F.Lent)
    → DecodesBody (F.call payload bits (mode_of checksum)) l r x → CountsBodyInC (F.call payload bits (mode_of checksum)) r
padded_vrf_fast_array payload bits checksum l r x f =
    let c = F.call payload bits (mode_of checksum) in subst (CountsBodyInC c) (sym f.says) (body_counts c (F.answer c l) (answer_counts c l))
