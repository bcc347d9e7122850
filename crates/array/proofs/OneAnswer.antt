-- The contracts determine the answers and the buffers: an answer is read back off what the contract says of it. A refusal leaves every buffer as it was lent.
use Rattle.std.specs.Prelude.{Ok, Err, if◌then◌else◌}
use mathlib.Core.Path.{◌≡◌, refl, sym, ap, ◌∙◌}
use mathlib.Core.List.{List}
use Prim.Native.Nat.{ℕ}
use lib.Dec.{eqb}
use Rattle.framing.specs.Counters.{Counters}
use Rattle.framing.specs.Sinks.{Walker, object}
use Rattle.framing.specs.Verdicts.{verdict_of}
use Rattle.framing.specs.Refusing.{Room, Answer, refused, accepted}
use Rattle.outputs.specs.Answers.{Call, Lent, final}
use Rattle.outputs.proofs.Passes.{determined, refusal_keeps, pairs_determined, pairs_refusal_keeps}
use Rattle.array.specs.Refusals.{StructArray, ObjectArray, Merged, counters_of_lem, answer_of, pairs_of, sums_of}
use Rattle.array.specs.Merges.{Sums, summed, overflowing}
use Rattle.array.specs.Calls.{verdict_is, verdict_named, Judges, Adds, Judged, PairsJudged, Decodes, DecodesPairs}
use Rattle.array.specs.declared.ArrayDecodeStats.{ArrayDecodeStats}
use Rattle.array.specs.declared.Extent.{Extent}
use Rattle.array.specs.declared.Verdict.{Verdict}
use Rattle.array.specs.declared.Verdict.TheVariants as verdict
use Rattle.array.specs.declared.Walked.{Walked}
use Rattle.array.specs.declared.Refusal.TheVariants as structs
use Rattle.array.specs.declared.PairRefusal.TheVariants as objects

-- ---- an answer is known by what it says

abbrev pub stats_with : Counters → ArrayDecodeStats
stats_with c =
    record {
      elements_decoded = c.elements;
      fields_emitted = c.fields;
      truncations = c.truncations;
      errors = c.errors;
      unconsumed_nested_bits = c.nested_bits_lem;
      unconsumed_root_bits = c.root_bits_lem;
      implicit_terminations = c.implicits;
    }

extent_with : Room → Extent
extent_with r = record { leaves = r.leaves; path_bytes = r.path_bytes_lem; payload_bytes = r.payload_bytes_lem }

pub verdict_back : (v : Verdict) → verdict_named (verdict_is v) ≡ v
verdict_back verdict.Clean = refl
verdict_back verdict.Partial = refl
verdict_back verdict.Empty = refl

-- the verdict that a window gets whose walk gave these counters
judged : Walker → (bits : ℕ) → Counters → Verdict
judged k bits c = verdict_named (verdict_of k bits c)

judged_back : (k : Walker) (bits : ℕ) (c : Counters) (v : Verdict) → verdict_is v ≡ verdict_of k bits c → judged k bits c ≡ v
unfolding judged
judged_back k bits c v e = sym (ap verdict_named e) ∙ verdict_back v

abbrev walked_with : {N : Type 0} → ArrayDecodeStats → Verdict → N → (padded : ℕ) → Walked N
walked_with s v n p = record { stats = s; verdict = v; filled = n; padded = p }

struct_with : Walker → (bits : ℕ) → Answer Room → StructArray
struct_with k bits (accepted c p n) = Ok (walked_with (stats_with c) (judged k bits c) (extent_with n) p)
struct_with k bits (refused number n) =
    if eqb number 1 then Err structs.TooLong else
    (if eqb number 2 then Err structs.BrokenTables else Err (structs.Short (extent_with n)))

struct_back : (k : Walker) (bits : ℕ) (r : StructArray) → Judged k bits r → struct_with k bits (answer_of r) ≡ r
unfolding struct_with extent_with
struct_back k bits (Ok w) j = ap (λ (x : Verdict). Ok (walked_with w.stats x w.filled w.padded)) (judged_back k bits (counters_of_lem w.stats) w.verdict j)
struct_back k bits (Err structs.TooLong) j = refl
struct_back k bits (Err structs.BrokenTables) j = refl
struct_back k bits (Err (structs.Short e)) j = refl

object_with : (bits : ℕ) → Answer ℕ → ObjectArray
object_with bits (accepted c p n) = Ok (walked_with (stats_with c) (judged object bits c) n p)
object_with bits (refused number n) = if eqb number 1 then Err objects.TooLong else Err (objects.Short n)

object_back : (bits : ℕ) (r : ObjectArray) → PairsJudged bits r → object_with bits (pairs_of r) ≡ r
unfolding object_with
object_back bits (Ok w) j = ap (λ (x : Verdict). Ok (walked_with w.stats x w.filled w.padded)) (judged_back object bits (counters_of_lem w.stats) w.verdict j)
object_back bits (Err objects.TooLong) j = refl
object_back bits (Err (objects.Short n)) j = refl

merged_with : Sums → Merged
merged_with (summed c) = Ok (stats_with c)
merged_with (overflowing number c) = Err (record { left = stats_with c })

merged_back : (r : Merged) → merged_with (sums_of r) ≡ r
unfolding merged_with
merged_back (Ok s) = refl
merged_back (Err o) = refl

-- ---- the contracts determine the calls

-- Two answers of a struct or exact walk that meet the contract are the same, with the same buffers.
pub one_struct : (c : Call) (b : Lent) (r s : StructArray) (x y : Lent) → Decodes c b r x → Decodes c b s y → (r ≡ s) × (x ≡ y)
one_struct c b r s x y f g =
    let d = determined c b (answer_of r) (answer_of s) x y f.answered g.answered in
    (sym (struct_back c.how c.bits r f.judged) ∙ ap (struct_with c.how c.bits) d.0 ∙ struct_back c.how c.bits s g.judged, d.1)

-- The same of the object walk.
pub one_object : (bytes : List ℕ) (bits : ℕ) (b : List ℕ) (r s : ObjectArray) (x y : List ℕ)
    → DecodesPairs bytes bits b r x → DecodesPairs bytes bits b s y → (r ≡ s) × (x ≡ y)
one_object bytes bits b r s x y f g =
    let d = pairs_determined bytes bits b (pairs_of r) (pairs_of s) x y f.answered g.answered in
    (sym (object_back bits r f.judged) ∙ ap (object_with bits) d.0 ∙ object_back bits s g.judged, d.1)

-- The same of a merge, and of a verdict.
pub one_merged : (left right : ArrayDecodeStats) (r s : Merged) → Adds left right r → Adds left right s → r ≡ s
one_merged left right r s f g = sym (merged_back r) ∙ ap merged_with (f ∙ sym g) ∙ merged_back s

pub one_verdict : (stats : ArrayDecodeStats) (r s : Verdict) → Judges stats r → Judges stats s → r ≡ s
one_verdict stats r s f g = sym (verdict_back r) ∙ ap verdict_named (f ∙ sym g) ∙ verdict_back s

-- ---- refusals change no buffer

-- A refused walk, with whatever number, leaves every buffer as it was lent.
pub refused_buffers : (c : Call) (b : Lent) (r : StructArray) (x : Lent) → Decodes c b r x → (number : ℕ) (need : Room) → answer_of r ≡ refused number need → x ≡ b
refused_buffers c b r x f number need e =
    let a = f.answered in
    let l = a.leaves in
    let p = a.paths in
    let y = a.payloads in
    let all : x ≡ final c b = λ i. record { leaves = l i; paths = p i; payloads = y i } in
    all ∙ refusal_keeps c b number need (sym a.says ∙ e)

pub refused_pairs_lem : (bytes : List ℕ) (bits : ℕ) (b : List ℕ) (r : ObjectArray) (x : List ℕ) → DecodesPairs bytes bits b r x → (number need : ℕ)
    → pairs_of r ≡ refused number need → x ≡ b
refused_pairs_lem bytes bits b r x f number need e =
    let a = f.answered in
    a.pairs ∙ pairs_refusal_keeps bytes bits b number need (sym a.says ∙ e)
