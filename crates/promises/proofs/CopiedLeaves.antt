-- The payload bytes of record i stand in the payload buffer from its payload start on (Places), and those of every leaf are a copy of the walk's bits
-- (framing/proofs/PayloadBits). The theorem on a call is `copied_` and the call's name.
use Rattle.std.specs.Prelude.{Ok, Err}
use Prim.Native.Nat.{ℕ, zero, suc, ◌+◌, ◌*◌, ◌/◌, ◌%◌, ◌^◌, ◌≤◌, ◌<◌}
use mathlib.Core.Path.{◌≡◌, refl, sym, ap, ap₂, ◌∙◌, subst}
use mathlib.Core.List.{List, [], ◌∷◌}
use native.Mathlib.Omega.{arith}
use lib.ListN.{length, get_or, take, drop, length-drop}
use lib.Seq.{get_or-take, get_or-drop}
use Rattle.bits.specs.Runs.{bytes_for}
use Rattle.bits.proofs.MemberLaws.{all_at}
use Rattle.bits.proofs.RunLaws.{length_bytes_of}
use Rattle.schema.specs.Tables.{Tables}
use Rattle.framing.specs.Events.{Leaf, leaves}
use Rattle.framing.specs.Copies.{bit_at, Copied, LeafCopied}
use Rattle.framing.specs.Records.{payload_of}
use Rattle.framing.specs.Refusing.{Room}
use Rattle.framing.specs.Sinks.{Leafy}
use Rattle.framing.proofs.PayloadBits.{walk_copied}
use Rattle.outputs.specs.Answers.{Call, Lent, trace_of}
use Rattle.array.specs.Calls.{struct_call, exact_call, Decodes}
use Rattle.array.specs.Refusals.{StructArray}
use Rattle.exports.specs.WalkResults.{Walks}
use Rattle.exports.specs.declared.VrfWalk.{VrfWalk}
use Rattle.promises.specs.Accounts.{start_of, payload_start_of, RecordsCopied, CopiedLeaves, CopiedLeavesInC}
use Rattle.promises.specs.Places.{stretch, LeavesFound}
use Rattle.promises.proofs.Places.{decodes_placed, walks_placed}

-- ---- bytes in a buffer

-- bit j of some bytes that stand in a buffer from byte `at` on
bit_within : (buffer : List ℕ) (at n j : ℕ) (run : List ℕ) → stretch buffer at n ≡ run → j < 8 * n → bit_at buffer (8 * at + j) ≡ bit_at run (8 * 0 + j)
bit_within buffer at n j run e lt =
    let byte : (8 * at + j) / 8 ≡ at + j / 8 = omega arith in
    let place : (8 * at + j) % 8 ≡ (8 * 0 + j) % 8 = omega arith in
    let front : j / 8 ≡ (8 * 0 + j) / 8 = omega arith in
    let low : j / 8 < n = omega arith in
    ap₂ (λ (b p : ℕ). b / 2 ^ p % 2)
    (ap (λ (k : ℕ). get_or buffer k 0) byte
    ∙ sym (get_or-drop at buffer (j / 8) 0)
    ∙ sym (get_or-take n (drop at buffer) (j / 8) 0 low)
    ∙ ap₂ (λ (l : List ℕ) (k : ℕ). get_or l k 0) e front)
    place

-- what takes n of a list's members takes no more than it has
enough : (n : ℕ) (l : List ℕ) → length (take n l) ≡ n → n ≤ length l
enough zero l e = omega arith
enough (suc n) [] e = omega (arith, e)
enough (suc n) (x ∷ l) e = let z = enough n l (omega (arith, e)) in omega arith

copied_within : (bytes buffer : List ℕ) (at : ℕ) (y : Leaf) → stretch buffer at (length (payload_of y)) ≡ payload_of y → LeafCopied bytes y
    → Copied bytes y.start y.width buffer at
copied_within bytes buffer at y e c =
    let n = length (payload_of y) in
    let long : n ≡ bytes_for y.width = length_bytes_of (bytes_for y.width) y.payload in
    let room : n ≤ length (drop at buffer) = enough n (drop at buffer) (ap length e) in
    let behind = length-drop at buffer in
    record {
      same = λ j lt. bit_within buffer at n j (payload_of y) e (omega (arith, long, lt)) ∙ c.same j lt;
      zeros = λ j le lt. bit_within buffer at n j (payload_of y) e (omega (arith, long, lt)) ∙ c.zeros j le lt;
      of_bytes = c.of_bytes;
      in_buffer = λ some. omega (arith, long, room, behind, some);
    }

-- ---- records

found_copied : (k : Call) (need : Room) (x : Lent) → LeavesFound k need x → RecordsCopied k x need.leaves
found_copied k need x found bytes i h =
    let f = found.leaf i h in
    let l = f.leaf in
    let c : LeafCopied k.bytes l = all_at (LeafCopied k.bytes) (leaves (trace_of k)) (walk_copied k.how k.bytes bytes k.bits) l i f.stands in
    subst (λ (n : ℕ). Copied k.bytes (start_of x i) n x.payloads (payload_start_of x i)) (sym f.recorded.bits)
    (subst (λ (s : ℕ). Copied k.bytes s l.width x.payloads (payload_start_of x i)) (sym f.recorded.starts)
    (copied_within k.bytes x.payloads (payload_start_of x i) l f.recorded.payload c))

decodes_copied : (k : Call) → Leafy k.how → (b : Lent) (r : StructArray) (x : Lent) → Decodes k b r x → CopiedLeaves k r x
decodes_copied k leafy b (Ok w) x f = found_copied k _ x (decodes_placed k leafy b (Ok w) x f)
decodes_copied k leafy b (Err why) x f = tt

walks_copied : (k : Call) → Leafy k.how → (b : Lent) (r : VrfWalk) (x : Lent) → Walks k b r x → CopiedLeavesInC k r x
walks_copied k leafy b r x f z = found_copied k _ x (walks_placed k leafy b r x f z)

-- THE STRUCT WALK: the payload of each record is a copy of the window's bits from its window start on, as many as it says, with zeros above them.
pub copied_decode_struct_array : (bytes : List ℕ) (bits : ℕ) (t : Tables) (levels root : ℕ) (b : Lent) (r : StructArray) (x : Lent)
    → Decodes (struct_call bytes bits t levels root) b r x → CopiedLeaves (struct_call bytes bits t levels root) r x
copied_decode_struct_array bytes bits t levels root = decodes_copied (struct_call bytes bits t levels root) refl

-- THE EXACT WALK: the same.
pub copied_decode_struct_array_exact : (bytes : List ℕ) (bits : ℕ) (declared declared_names_lem : List ℕ) (b : Lent) (r : StructArray) (x : Lent)
    → Decodes (exact_call bytes bits declared declared_names_lem) b r x → CopiedLeaves (exact_call bytes bits declared declared_names_lem) r x
copied_decode_struct_array_exact bytes bits declared declared_names_lem = decodes_copied (exact_call bytes bits declared declared_names_lem) refl

-- `vrf_struct_array`: the same of a struct that says no refusal.
pub copied_vrf_struct_array : (bytes : List ℕ) (bits : ℕ) (t : Tables) (levels root : ℕ) (b : Lent) (r : VrfWalk) (x : Lent)
    → Walks (struct_call bytes bits t levels root) b r x → CopiedLeavesInC (struct_call bytes bits t levels root) r x
copied_vrf_struct_array bytes bits t levels root = walks_copied (struct_call bytes bits t levels root) refl

-- `vrf_struct_array_exact`: the same.
pub copied_vrf_struct_array_exact : (bytes : List ℕ) (bits : ℕ) (declared declared_names_lem : List ℕ) (b : Lent) (r : VrfWalk) (x : Lent)
    → Walks (exact_call bytes bits declared declared_names_lem) b r x → CopiedLeavesInC (exact_call bytes bits declared declared_names_lem) r x
copied_vrf_struct_array_exact bytes bits declared declared_names_lem = walks_copied (exact_call bytes bits declared declared_names_lem) refl
