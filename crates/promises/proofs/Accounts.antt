-- An accepted answer has the counters of its walk, and its records' bits are those of the walk's leaves, one for one (Ran, FrontLaws); and the bits of
-- every walk add up (framing/proofs/Accounted). The theorem on a call is `accounted_` and the call's name.
use Rattle.std.specs.Prelude.{Ok, Err}
use Prim.Native.Nat.{ℕ, zero, suc, ◌+◌}
use mathlib.Core.Path.{◌≡◌, refl, sym, ap, ◌∙◌, subst}
use mathlib.Core.List.{List, [], ◌∷◌}
use native.Mathlib.Omega.{arith}
use lib.ListN.{length}
use Rattle.bits.specs.Members.{StandsAt}
use Rattle.bits.proofs.Never.{never}
use Rattle.schema.specs.Tables.{Tables}
use Rattle.framing.specs.Events.{Leaf, leaves}
use Rattle.framing.specs.Counters.{Counters, counters, number_bits}
use Rattle.framing.specs.Records.{payload_bits_at}
use Rattle.framing.specs.Refusing.{Room}
use Rattle.framing.specs.Sinks.{Walker, object, walk}
use Rattle.framing.specs.Verdicts as F
use Rattle.framing.specs.Verdicts.{verdict_of}
use Rattle.framing.specs.Accounts.{widths_among, leaf_bits, Accounts}
use Rattle.framing.proofs.VerdictLaws.{says_clean}
use Rattle.framing.proofs.Accounted.{walk_accounts, object_leafless}
use Rattle.outputs.specs.Answers.{Call, Lent, trace_of, Front}
use Rattle.array.specs.Calls.{struct_call, exact_call, Decodes, DecodesPairs}
use Rattle.array.specs.Refusals.{StructArray, ObjectArray}
use Rattle.exports.specs.WalkResults.{Walks, WalksPairs}
use Rattle.exports.specs.declared.VrfWalk.{VrfWalk}
use Rattle.exports.specs.declared.VrfObjects.{VrfObjects}
use Rattle.promises.specs.Accounts.{bits_of, record_bits, BitsAccounted, LeafBitsAdd, PairBitsAdd, AccountedLeaves, AccountedLeavesInC, AccountedPairs, AccountedPairsInC}
use Rattle.promises.proofs.FrontLaws.{number_at}
use Rattle.promises.proofs.VerdictForms.{Apart, named_apart, number_apart}
use Rattle.promises.proofs.Ran.{Ran, ran_tells, ran_fills, ran_decodes, ran_walks, RanPairs, pairs_tell, ran_pairs, ran_objects}

-- ---- the records' bits are the leaves'

abbrev sum_to : (ℕ → ℕ) → (n : ℕ) → ℕ
sum_to f zero = 0
sum_to f (suc n) = sum_to f n + f n

first_apart : (f : ℕ → ℕ) (n : ℕ) → sum_to f (suc n) ≡ f 0 + sum_to (λ i. f (suc i)) n
first_apart f zero = omega arith
first_apart f (suc n) = let z = first_apart f n in omega arith

-- numbers that are the widths of leaves, one for one
widths : (l : List Leaf) (f : ℕ → ℕ) → ((i : ℕ) (y : Leaf) → StandsAt y i l → f i ≡ y.width) → sum_to f (length l) ≡ widths_among l
widths [] f h = refl
widths (x ∷ l) f h =
    let one : f 0 ≡ x.width = h 0 x (record { before = []; after = l; whole = refl; many = refl }) in
    let rest : sum_to (λ i. f (suc i)) (length l) ≡ widths_among l
    = widths l (λ i. f (suc i)) (λ i y s.
    h (suc i) y (record { before = x ∷ s.before; after = s.after; whole = ap (λ (r : List Leaf). x ∷ r) s.whole; many = ap suc s.many })) in
    first_apart f (length l) ∙ (let z = one in let y = rest in omega arith)

summed : (x : Lent) (n : ℕ) → record_bits x n ≡ sum_to (bits_of x) n
summed x zero = refl
summed x (suc n) = ap (λ (m : ℕ). m + bits_of x n) (summed x n)

records_bits : (l : List Leaf) (x : Lent) → Front l x → record_bits x (length l) ≡ widths_among l
records_bits l x front = summed x (length l) ∙ widths l (bits_of x) (λ i y s. number_at l x front y i s payload_bits_at (omega arith))

-- ---- an answer on a walk

module _ {A : Type 0} (form : F.Verdict → A) (apart : Apart form) (how : Walker) (bytes : List ℕ) (bits : ℕ) (c : Counters) (v : A) (ofLeaves : ℕ) where
  accounted_by : c ≡ counters (walk how bytes bits) → v ≡ form (verdict_of how bits c) → ofLeaves ≡ leaf_bits (walk how bytes bits)
      → BitsAccounted form how bits (walk how bytes bits) c v ofLeaves
  accounted_by own judged same =
      let t = walk how bytes bits in
      let sum : Accounts how bits t c ofLeaves (number_bits t)
      = subst (λ (d : Counters). Accounts how bits t d ofLeaves (number_bits t)) (sym own)
      (subst (λ (n : ℕ). Accounts how bits t (counters t) n (number_bits t)) (sym same) (walk_accounts how bytes bits)) in
      record { accounts = sum; clean = λ h. sum.all_of_it (says_clean how bits c (apart _ _ (sym judged ∙ h))).no_faults }

ran_accounted : {A : Type 0} {form : F.Verdict → A} {k : Call} {b : Lent} {c : Counters} {v : A} {need : Room} {x : Lent} {p : ℕ}
    → Apart form → Ran form k b c v need x p → LeafBitsAdd form k c v x need.leaves
ran_accounted {form = form} {k = k} {c = c} {v = v} {need = need} {x = x} apart run =
    let fills = ran_fills run in
    accounted_by form apart k.how k.bytes k.bits c v (record_bits x need.leaves) (ran_tells run).0 run.judged
    (ap (record_bits x) fills.leaves ∙ records_bits (leaves (trace_of k)) x fills.front)

ran_pairs_accounted : {A : Type 0} {form : F.Verdict → A} {bytes : List ℕ} {bits : ℕ} {b : List ℕ} {c : Counters} {v : A} {n : ℕ} {x : List ℕ} {p : ℕ}
    → Apart form → RanPairs form bytes bits b c v n x p → PairBitsAdd form bytes bits c v
ran_pairs_accounted {form = form} {bytes = bytes} {bits = bits} {c = c} {v = v} apart run =
    accounted_by form apart object bytes bits c v 0 (pairs_tell run).0 run.judged
    (sym (object_leafless object (λ leafy. never cc) bytes bits))

-- ---- struct and exact walks

decodes_accounted : (k : Call) (b : Lent) (r : StructArray) (x : Lent) → Decodes k b r x → AccountedLeaves k r x
decodes_accounted k b (Ok w) x f = ran_accounted named_apart (ran_decodes k b w x f)
decodes_accounted k b (Err why) x f = tt

walks_accounted : (k : Call) (b : Lent) (r : VrfWalk) (x : Lent) → Walks k b r x → AccountedLeavesInC k r x
walks_accounted k b r x f z = ran_accounted number_apart (ran_walks k b r x f z)

-- THE STRUCT WALK: the bits of all records, of all numbers that the walk took, those stepped past or left, which the counters have, and those that went
-- unread are the window's bits; of a clean answer the first two alone.
pub accounted_decode_struct_array : (bytes : List ℕ) (bits : ℕ) (t : Tables) (levels root : ℕ) (b : Lent) (r : StructArray) (x : Lent)
    → Decodes (struct_call bytes bits t levels root) b r x → AccountedLeaves (struct_call bytes bits t levels root) r x
accounted_decode_struct_array bytes bits t levels root = decodes_accounted (struct_call bytes bits t levels root)

-- THE EXACT WALK: the same.
pub accounted_decode_struct_array_exact : (bytes : List ℕ) (bits : ℕ) (declared declared_names_lem : List ℕ) (b : Lent) (r : StructArray) (x : Lent)
    → Decodes (exact_call bytes bits declared declared_names_lem) b r x → AccountedLeaves (exact_call bytes bits declared declared_names_lem) r x
accounted_decode_struct_array_exact bytes bits declared declared_names_lem = decodes_accounted (exact_call bytes bits declared declared_names_lem)

-- `vrf_struct_array`: the same of a struct that says no refusal.
pub accounted_vrf_struct_array : (bytes : List ℕ) (bits : ℕ) (t : Tables) (levels root : ℕ) (b : Lent) (r : VrfWalk) (x : Lent)
    → Walks (struct_call bytes bits t levels root) b r x → AccountedLeavesInC (struct_call bytes bits t levels root) r x
accounted_vrf_struct_array bytes bits t levels root = walks_accounted (struct_call bytes bits t levels root)

-- `vrf_struct_array_exact`: the same.
pub accounted_vrf_struct_array_exact : (bytes : List ℕ) (bits : ℕ) (declared declared_names_lem : List ℕ) (b : Lent) (r : VrfWalk) (x : Lent)
    → Walks (exact_call bytes bits declared declared_names_lem) b r x → AccountedLeavesInC (exact_call bytes bits declared declared_names_lem) r x
accounted_vrf_struct_array_exact bytes bits declared declared_names_lem = walks_accounted (exact_call bytes bits declared declared_names_lem)

-- ---- the object walk

-- THE OBJECT WALK: the same without leaves; of a clean answer the bits of all numbers taken are the window's.
pub accounted_decode_object_ref_array : (bytes : List ℕ) (bits : ℕ) (b : List ℕ) (r : ObjectArray) (x : List ℕ)
    → DecodesPairs bytes bits b r x → AccountedPairs bytes bits r
accounted_decode_object_ref_array bytes bits b (Ok w) x f = ran_pairs_accounted named_apart (ran_pairs bytes bits b w x f)
accounted_decode_object_ref_array bytes bits b (Err why) x f = tt

-- `vrf_object_array`: the same of a struct that says no refusal.
pub accounted_vrf_object_array : (bytes : List ℕ) (bits : ℕ) (b : List ℕ) (r : VrfObjects) (x : List ℕ)
    → WalksPairs bytes bits b r x → AccountedPairsInC bytes bits r
accounted_vrf_object_array bytes bits b r x f z = ran_pairs_accounted number_apart (ran_objects bytes bits b r x f z)
