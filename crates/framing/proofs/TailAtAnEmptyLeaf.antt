-- The exception among the starts of leaves happens: of the walk specs/PlacedCases.tail_behind_fields the last two leaves are an empty one and a kept tail,
-- and both start at bit 2064. The table's leaves are those of the walk, so what it says of leaf i holds of the walk's leaf i.
use Prim.Native.Nat.{ℕ, suc, ◌<◌}
use mathlib.Core.Path.{◌≡◌, refl, sym, ap, ◌∙◌}
use mathlib.Core.List.{List, [], ◌∷◌, ◌++◌, map}
use native.Mathlib.Omega.{arith}
use lib.ListN.{length, get_or}
use Rattle.bits.specs.Members.{StandsAt}
use Rattle.bits.proofs.MemberLaws.{member, member_stands}
use Rattle.framing.specs.Events.{Leaf, raw_handle, leaves}
use Rattle.framing.specs.PlacedCases.{LeafSpot, Spots, leaf_spot, tail_behind_fields}
use Rattle.framing.specs.Sinks.{walk}
use Rattle.framing.specs.LeafOrder.{TailAtEmptyLeaf}
use Rattle.framing.proofs.PlacedCasesProved.{placed_cases_hold}

abbrev spot_of : Leaf → LeafSpot
spot_of x = leaf_spot x.handle x.start x.width

abbrev spots : List Leaf → List LeafSpot
spots l = map spot_of l

as_many : (l : List Leaf) → length (spots l) ≡ length l
as_many [] = refl
as_many (x ∷ l) = ap suc (as_many l)

spot_at : (l : List Leaf) (x : Leaf) (i : ℕ) → StandsAt x i l → (none : LeafSpot) → spot_of x ≡ get_or (spots l) i none
spot_at l x i s none =
    sym (go s.before) ∙ ap (λ (n : ℕ). get_or (spots (s.before ++ (x ∷ s.after))) n none) s.many ∙ ap (λ (m : List Leaf). get_or (spots m) i none) (sym s.whole)
  where
    go : (before : List Leaf) → get_or (spots (before ++ (x ∷ s.after))) (length before) none ≡ spot_of x
    go [] = refl
    go (y ∷ before) = go before

abbrev nowhere : LeafSpot
nowhere = leaf_spot 0 0 0

abbrev all : List Leaf
all = leaves (walk tail_behind_fields.how tail_behind_fields.bytes tail_behind_fields.bits)

-- 4: its row among placed_cases
told : spots all ≡ tail_behind_fields.spots.leaves
told = ap (λ (l : List Spots). (get_or l 4 (record { leaves = []; arrays = [] })).leaves) placed_cases_hold

long : length all ≡ 129
long = sym (as_many all) ∙ ap length told

leaf_told : (i : ℕ) (h : i < length all) → spot_of (member all i h) ≡ get_or tail_behind_fields.spots.leaves i nowhere
leaf_told i h = spot_at all (member all i h) i (member_stands all i h) nowhere ∙ ap (λ (l : List LeafSpot). get_or l i nowhere) told

pub tail_at_an_empty_leaf : TailAtEmptyLeaf (leaves (walk tail_behind_fields.how tail_behind_fields.bytes tail_behind_fields.bits))
tail_at_an_empty_leaf =
    let e = long in
    let h : 127 < length all = omega arith in
    let g : 128 < length all = omega arith in
    let a : spot_of (member all 127 h) ≡ leaf_spot 1 2064 0 = leaf_told 127 h in
    let b : spot_of (member all 128 g) ≡ leaf_spot raw_handle 2064 8 = leaf_told 128 g in
    record {
      i = 127;
      empty = member all 127 h;
      tail = member all 128 g;
      stands = member_stands all 127 h;
      next = member_stands all 128 g;
      no_bits = ap (λ (s : LeafSpot). s.width) a;
      kept = ap (λ (s : LeafSpot). s.handle) b;
      same_start = ap (λ (s : LeafSpot). s.start) a ∙ sym (ap (λ (s : LeafSpot). s.start) b);
    }
