-- Record i of an accepted answer is that of leaf i of its walk (Places), and a walk's leaves lie one behind the other (framing/proofs/LeafOrder). The
-- theorem on a call is `ordered_` and the call's name.
use Rattle.std.specs.Prelude.{Ok, Err}
use Prim.Native.Nat.{ℕ, suc}
use mathlib.Core.Path.{◌≡◌, refl, sym, ap, ◌∙◌, subst}
use mathlib.Core.List.{List}
use native.Mathlib.Omega.{arith}
use Rattle.bits.proofs.MemberLaws.{stands_below, one_stands}
use Rattle.schema.specs.Tables.{Tables, no_tables, absent}
use Rattle.framing.specs.Events.{Leaf, leaves}
use Rattle.framing.specs.LeafOrder.{Follows}
use Rattle.framing.specs.PlacedCases.{tail_behind_fields}
use Rattle.framing.specs.Refusing.{Room}
use Rattle.framing.specs.Sinks.{Leafy}
use Rattle.framing.proofs.LeafOrder.{leaves_in_order}
use Rattle.framing.proofs.TailAtAnEmptyLeaf.{tail_at_an_empty_leaf}
use Rattle.outputs.specs.Answers.{Call, Lent, trace_of}
use Rattle.array.specs.Calls.{struct_call, exact_call, Decodes}
use Rattle.array.specs.Refusals.{StructArray}
use Rattle.array.specs.declared.Extent.{Extent}
use Rattle.array.specs.declared.Walked.{Walked}
use Rattle.exports.specs.WalkResults.{Walks}
use Rattle.exports.specs.declared.VrfWalk.{VrfWalk}
use Rattle.promises.specs.Accounts.{RecordsInOrder, SharedStart, OrderedLeaves, OrderedLeavesInC}
use Rattle.promises.specs.Places.{LeavesFound}
use Rattle.promises.proofs.Places.{decodes_placed, walks_placed}

-- what follows by some numbers follows by equal ones
same_follows : {a b c d : ℕ} (s w n h : ℕ) → s ≡ a → w ≡ b → n ≡ c → h ≡ d → Follows a b c d → Follows s w n h
same_follows {b = b} {c = c} {d = d} s w n h e f g k l =
    subst (λ (y : ℕ). Follows s w n y) (sym k)
    (subst (λ (y : ℕ). Follows s w y d) (sym g) (subst (λ (y : ℕ). Follows s y c d) (sym f) (subst (λ (y : ℕ). Follows y b c d) (sym e) l)))

found_ordered : (k : Call) (need : Room) (x : Lent) → LeavesFound k need x → RecordsInOrder x need.leaves
found_ordered k need x found =
    let order = leaves_in_order k.how k.bytes k.bits in
    record {
      follows = λ i h.
          let a = found.leaf i (omega arith) in
          let b = found.leaf (suc i) h in
          same_follows _ _ _ _ a.recorded.starts a.recorded.bits b.recorded.starts b.recorded.handle
          (order.follows i a.leaf b.leaf a.stands b.stands);
      apart = λ i j lt h.
          let a = found.leaf i (omega arith) in
          let b = found.leaf j h in
          omega (arith, a.recorded.starts, a.recorded.bits, b.recorded.starts, order.apart i j a.leaf b.leaf lt a.stands b.stands);
    }

decodes_ordered : (k : Call) → Leafy k.how → (b : Lent) (r : StructArray) (x : Lent) → Decodes k b r x → OrderedLeaves k r x
decodes_ordered k leafy b (Ok w) x f = found_ordered k _ x (decodes_placed k leafy b (Ok w) x f)
decodes_ordered k leafy b (Err why) x f = tt

walks_ordered : (k : Call) → Leafy k.how → (b : Lent) (r : VrfWalk) (x : Lent) → Walks k b r x → OrderedLeavesInC k r x
walks_ordered k leafy b r x f z = found_ordered k _ x (walks_placed k leafy b r x f z)

-- THE STRUCT WALK: each record's leaf starts where the one before it ends or later, and behind its start; only a kept tail whose neighbour before has no
-- bits may have its start. So no bit of the window is in two leaves.
pub ordered_decode_struct_array : (bytes : List ℕ) (bits : ℕ) (t : Tables) (levels root : ℕ) (b : Lent) (r : StructArray) (x : Lent)
    → Decodes (struct_call bytes bits t levels root) b r x → OrderedLeaves (struct_call bytes bits t levels root) r x
ordered_decode_struct_array bytes bits t levels root = decodes_ordered (struct_call bytes bits t levels root) refl

-- THE EXACT WALK: the same.
pub ordered_decode_struct_array_exact : (bytes : List ℕ) (bits : ℕ) (declared declared_names_lem : List ℕ) (b : Lent) (r : StructArray) (x : Lent)
    → Decodes (exact_call bytes bits declared declared_names_lem) b r x → OrderedLeaves (exact_call bytes bits declared declared_names_lem) r x
ordered_decode_struct_array_exact bytes bits declared declared_names_lem = decodes_ordered (exact_call bytes bits declared declared_names_lem) refl

-- `vrf_struct_array`: the same of a struct that says no refusal.
pub ordered_vrf_struct_array : (bytes : List ℕ) (bits : ℕ) (t : Tables) (levels root : ℕ) (b : Lent) (r : VrfWalk) (x : Lent)
    → Walks (struct_call bytes bits t levels root) b r x → OrderedLeavesInC (struct_call bytes bits t levels root) r x
ordered_vrf_struct_array bytes bits t levels root = walks_ordered (struct_call bytes bits t levels root) refl

-- `vrf_struct_array_exact`: the same.
pub ordered_vrf_struct_array_exact : (bytes : List ℕ) (bits : ℕ) (declared declared_names_lem : List ℕ) (b : Lent) (r : VrfWalk) (x : Lent)
    → Walks (exact_call bytes bits declared declared_names_lem) b r x → OrderedLeavesInC (exact_call bytes bits declared declared_names_lem) r x
ordered_vrf_struct_array_exact bytes bits declared declared_names_lem = walks_ordered (exact_call bytes bits declared declared_names_lem) refl

-- THE EXCEPTION HAPPENS: every accepted answer on the window of framing/specs/PlacedCases.tail_behind_fields leaves such a pair of records.
pub start_shared : (b : Lent) (w : Walked Extent) (x : Lent)
    → Decodes (struct_call tail_behind_fields.bytes tail_behind_fields.bits no_tables 0 absent) b (Ok w) x
    → SharedStart x tail_at_an_empty_leaf.i
start_shared b w x f =
    let k = struct_call tail_behind_fields.bytes tail_behind_fields.bits no_tables 0 absent in
    let l : List Leaf = leaves (trace_of k) in
    let t = tail_at_an_empty_leaf in
    let found = decodes_placed k refl b (Ok w) x f in
    let first = found.leaf t.i (omega (arith, found.all, stands_below l t.empty t.i t.stands)) in
    let second = found.leaf (suc t.i) (omega (arith, found.all, stands_below l t.tail (suc t.i) t.next)) in
    let a : first.leaf ≡ t.empty = one_stands l first.leaf t.empty t.i first.stands t.stands in
    let c : second.leaf ≡ t.tail = one_stands l second.leaf t.tail (suc t.i) second.stands t.next in
    record {
      no_bits = first.recorded.bits ∙ ap (λ (y : Leaf). y.width) a ∙ t.no_bits;
      kept = second.recorded.handle ∙ ap (λ (y : Leaf). y.handle) c ∙ t.kept;
      same_start =
          first.recorded.starts
          ∙ ap (λ (y : Leaf). y.start) a
          ∙ t.same_start
          ∙ sym (second.recorded.starts ∙ ap (λ (y : Leaf). y.start) c);
    }
