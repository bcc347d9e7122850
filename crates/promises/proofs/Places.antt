-- An accepted answer's buffers begin with the records, path bytes and payload bytes of its walk's leaves (Ran), so record i is that of leaf i
-- (framing/proofs/RecordLaws); and every leaf of a walk lies where it is said to (framing/proofs/Places). The theorem on a call is `placed_` and the
-- call's name.
use Rattle.std.specs.Prelude.{Ok, Err}
use Prim.Native.Nat.{ℕ, ◌<◌}
use mathlib.Core.Path.{◌≡◌, refl, sym, ap, ◌∙◌}
use mathlib.Core.List.{List, ◌∷◌, ◌++◌}
use native.Mathlib.Omega.{arith}
use lib.ListN.{length, get_or}
use Rattle.bits.specs.Members.{StandsAt}
use Rattle.bits.proofs.MemberLaws.{all_at, member, member_stands}
use Rattle.schema.specs.Tables.{Tables}
use Rattle.framing.specs.Counters.{Counters}
use Rattle.framing.specs.Windows.{window_of}
use Rattle.framing.specs.Events.{Leaf, leaves}
use Rattle.framing.specs.Places.{root_array, range, Within, Placed}
use Rattle.framing.specs.Records.{payload_of, leaf_words, leaf_record, path_start_at, path_length_at, handle_at, payload_bits_at, payload_start_at, window_start_at, path_bytes_lem, payload_bytes_lem}
use Rattle.framing.specs.Refusing.{Room}
use Rattle.framing.specs.Sinks.{Leafy}
use Rattle.framing.specs.Verdicts as judged
use Rattle.framing.proofs.RecordLaws.{path_at, payload_at}
use Rattle.framing.proofs.Places.{walk_placed, leaves_among}
use Rattle.outputs.specs.Records.{leaf_number}
use Rattle.outputs.specs.Answers.{Call, Lent, trace_of, Front}
use Rattle.array.specs.Calls.{struct_call, exact_call, Decodes}
use Rattle.array.specs.Refusals.{StructArray}
use Rattle.exports.specs.WalkResults.{Walks}
use Rattle.exports.specs.declared.VrfWalk.{VrfWalk}
use Rattle.promises.specs.Places.{stretch, RecordOf, LeafFound, LeavesFound, PlacedLeaves, PlacedLeavesInC}
use Rattle.promises.proofs.FrontLaws.{number_at}
use Rattle.promises.proofs.Ran.{Ran, ran_fills, ran_decodes, ran_walks}

-- ---- a record

-- Where the leaves l stand at the front of the buffers, record i is that of leaf i.
module _ (l : List Leaf) (x : Lent) (front : Front l x) (y : Leaf) (i : ℕ) (s : StandsAt y i l) where
  number : (j : ℕ) → j < leaf_words → leaf_number x.leaves i j ≡ get_or (leaf_record (length (path_bytes_lem s.before)) (length (payload_bytes_lem s.before)) y) j 0
  number = number_at l x front y i s

  path_found : stretch x.paths (leaf_number x.leaves i path_start_at) (length y.path) ≡ y.path
  path_found =
      let held : x.paths ≡ path_bytes_lem (s.before ++ (y ∷ s.after)) ++ front.paths.rest
      = sym front.paths.whole ∙ ap (λ (m : List Leaf). path_bytes_lem m ++ front.paths.rest) s.whole in
      ap (λ (n : ℕ). stretch x.paths n (length y.path)) (number path_start_at (omega arith))
      ∙ ap (λ (r : List ℕ). stretch r (length (path_bytes_lem s.before)) (length y.path)) held
      ∙ path_at s.before s.after y front.paths.rest

  payload_found : stretch x.payloads (leaf_number x.leaves i payload_start_at) (length (payload_of y)) ≡ payload_of y
  payload_found =
      let held : x.payloads ≡ payload_bytes_lem (s.before ++ (y ∷ s.after)) ++ front.payloads.rest
      = sym front.payloads.whole ∙ ap (λ (m : List Leaf). payload_bytes_lem m ++ front.payloads.rest) s.whole in
      ap (λ (n : ℕ). stretch x.payloads n (length (payload_of y))) (number payload_start_at (omega arith))
      ∙ ap (λ (r : List ℕ). stretch r (length (payload_bytes_lem s.before)) (length (payload_of y))) held
      ∙ payload_at s.before s.after y front.payloads.rest

  pub records_leaf : RecordOf x i s.before y
  records_leaf =
      record {
        handle = number handle_at (omega arith);
        bits = number payload_bits_at (omega arith);
        starts = number window_start_at (omega arith);
        path_start_lem = number path_start_at (omega arith);
        path_length_lem = number path_length_at (omega arith);
        path = path_found;
        payload_start_lem = number payload_start_at (omega arith);
        payload = payload_found;
      }

-- ---- an accepted walk

module _ (k : Call) (placed : Placed (window_of k.bytes k.bits) (trace_of k)) (x : Lent)
    (front : Front (leaves (trace_of k)) x) (i : ℕ) (h : i < length (leaves (trace_of k))) where
  found : LeafFound k x i
  found =
      let l = leaves (trace_of k) in
      let y = member l i h in
      let s = member_stands l i h in
      let r = records_leaf l x front y i s in
      let p : Within (root_array k.bits) (range y.start y.width)
      = all_at (λ (z : Leaf). Within (root_array k.bits) (range z.start z.width)) l
      (leaves_among (Within (root_array k.bits)) (trace_of k) placed.inside) y i s in
      record { leaf = y; stands = s; recorded = r; inside = omega (arith, r.starts, r.bits, p.ends) }

ran_found : {A : Type 0} {form : judged.Verdict → A} {k : Call} {b : Lent} {c : Counters} {v : A} {need : Room} {x : Lent} {p : ℕ}
    → Leafy k.how → Ran form k b c v need x p → LeavesFound k need x
ran_found {k = k} {x = x} leafy run =
    let fills = ran_fills run in
    let placed = walk_placed k.how leafy k.bytes k.bits in
    record {
      all = fills.leaves;
      leaf = λ i h. found k placed x fills.front i (omega (arith, h, fills.leaves));
      placed = placed;
    }

pub decodes_placed : (k : Call) → Leafy k.how → (b : Lent) (r : StructArray) (x : Lent) → Decodes k b r x → PlacedLeaves k r x
decodes_placed k leafy b (Ok w) x f = ran_found leafy (ran_decodes k b w x f)
decodes_placed k leafy b (Err why) x f = tt

pub walks_placed : (k : Call) → Leafy k.how → (b : Lent) (r : VrfWalk) (x : Lent) → Walks k b r x → PlacedLeavesInC k r x
walks_placed k leafy b r x f z = ran_found leafy (ran_walks k b r x f z)

-- THE STRUCT WALK: record i of an accepted answer is that of the walk's leaf i, and its last number is the bit of the window behind the leaf's width
-- number or, of a kept tail, the bit at which reading stopped.
pub placed_decode_struct_array : (bytes : List ℕ) (bits : ℕ) (t : Tables) (levels root : ℕ) (b : Lent) (r : StructArray) (x : Lent)
    → Decodes (struct_call bytes bits t levels root) b r x → PlacedLeaves (struct_call bytes bits t levels root) r x
placed_decode_struct_array bytes bits t levels root = decodes_placed (struct_call bytes bits t levels root) refl

-- THE EXACT WALK: the same.
pub placed_decode_struct_array_exact : (bytes : List ℕ) (bits : ℕ) (declared declared_names_lem : List ℕ) (b : Lent) (r : StructArray) (x : Lent)
    → Decodes (exact_call bytes bits declared declared_names_lem) b r x → PlacedLeaves (exact_call bytes bits declared declared_names_lem) r x
placed_decode_struct_array_exact bytes bits declared declared_names_lem = decodes_placed (exact_call bytes bits declared declared_names_lem) refl

-- `vrf_struct_array`: the same of a struct that says no refusal.
pub placed_vrf_struct_array : (bytes : List ℕ) (bits : ℕ) (t : Tables) (levels root : ℕ) (b : Lent) (r : VrfWalk) (x : Lent)
    → Walks (struct_call bytes bits t levels root) b r x → PlacedLeavesInC (struct_call bytes bits t levels root) r x
placed_vrf_struct_array bytes bits t levels root = walks_placed (struct_call bytes bits t levels root) refl

-- `vrf_struct_array_exact`: the same.
pub placed_vrf_struct_array_exact : (bytes : List ℕ) (bits : ℕ) (declared declared_names_lem : List ℕ) (b : Lent) (r : VrfWalk) (x : Lent)
    → Walks (exact_call bytes bits declared declared_names_lem) b r x → PlacedLeavesInC (exact_call bytes bits declared declared_names_lem) r x
placed_vrf_struct_array_exact bytes bits declared declared_names_lem = walks_placed (exact_call bytes bits declared declared_names_lem) refl
