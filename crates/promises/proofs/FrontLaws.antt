-- Fronts of lists, by induction over the list in front; and of buffers that begin with some leaves: number j of record i is that of leaf i.
use mathlib.Core.Path.{◌≡◌, refl, sym, ap, ◌∙◌}
use mathlib.Core.Bool.{Bool, true, false}
use mathlib.Core.List.{List, [], ◌∷◌, ◌++◌}
use Prim.Native.Nat.{ℕ, ◌+◌, ◌*◌, ◌≤◌, ◌<◌}
use native.Mathlib.Omega.{arith}
use lib.Dec.{eqb}
use lib.ListN.{length, get_or, take, length-append}
use borrow.Author.Tests.{eqb-true}
use Rattle.bits.specs.Members.{StandsAt}
use Rattle.framing.specs.Events.{Leaf, raw_handle}
use Rattle.framing.specs.Records.{leaf_words, leaf_record, path_bytes_lem, payload_bytes_lem, leaf_records}
use Rattle.framing.specs.Demand.{drop_tail, Opens}
use Rattle.framing.proofs.RecordLaws.{record_at}
use Rattle.outputs.specs.Records.{leaf_number}
use Rattle.outputs.specs.Answers.{Lent, Front}

-- A list is the front of what it opens.
pub front_of : {xs ys : List ℕ} → Opens xs ys → take (length xs) ys ≡ xs
front_of {xs} o = ap (take (length xs)) (sym o.whole) ∙ go xs
  where
    go : (l : List ℕ) → take (length l) (l ++ o.rest) ≡ l
    go [] = refl
    go (x ∷ l) = ap (λ (r : List ℕ). x ∷ r) (go l)

-- Two lists with the same opening have the same front.
pub same_front : (n : ℕ) {xs ys zs : List ℕ} → length xs ≡ n → Opens xs ys → Opens xs zs → take n ys ≡ take n zs
same_front n {xs} {ys} {zs} e f g =
    ap (λ (k : ℕ). take k ys) (sym e) ∙ front_of f ∙ sym (front_of g) ∙ ap (λ (k : ℕ). take k zs) e

-- An opening is no longer than the whole.
pub opens_length : {A : Type 0} {xs ys : List A} → Opens xs ys → length xs ≤ length ys
opens_length {xs = xs} o = let n = length-append xs o.rest in let e = ap length o.whole in omega arith

-- Number j of record i, where y is leaf i.
pub number_at : (l : List Leaf) (x : Lent) → Front l x → (y : Leaf) (i : ℕ) (s : StandsAt y i l) (j : ℕ) → j < leaf_words
    → leaf_number x.leaves i j ≡ get_or (leaf_record (length (path_bytes_lem s.before)) (length (payload_bytes_lem s.before)) y) j 0
number_at l x front y i s j h =
    let rest = front.leaves.rest in
    let held : x.leaves ≡ leaf_records 0 0 (s.before ++ (y ∷ s.after)) ++ rest
    = sym front.leaves.whole ∙ ap (λ (m : List Leaf). leaf_records 0 0 m ++ rest) s.whole in
    ap (λ (r : List ℕ). get_or r (leaf_words * i + j) 0) held
    ∙ ap (λ (n : ℕ). get_or (leaf_records 0 0 (s.before ++ (y ∷ s.after)) ++ rest) (leaf_words * n + j) 0) (sym s.many)
    ∙ record_at s.before s.after y rest j h

-- The leaves without a kept tail are all of them, or all but a last one with its handle.
pub data Tailed (l : List Leaf) : Type 0 where
  no_tail : drop_tail l ≡ l → Tailed l
  one_tail : (t : Leaf) → drop_tail l ++ (t ∷ []) ≡ l → t.handle ≡ raw_handle → Tailed l

-- Every list of leaves is one or the other.
pub tailed : (l : List Leaf) → Tailed l
unfolding drop_tail
tailed [] = no_tail refl
tailed (x ∷ []) = go (eqb x.handle raw_handle) refl
  where
    go : (b : Bool) → eqb x.handle raw_handle ≡ b → Tailed (x ∷ [])
    go true e = one_tail x (rw e) (eqb-true _ _ e)
    go false e = no_tail (rw e)
tailed (x ∷ y ∷ l) = go (tailed (y ∷ l))
  where
    go : Tailed (y ∷ l) → Tailed (x ∷ y ∷ l)
    go (no_tail e) = no_tail (ap (λ (r : List Leaf). x ∷ r) e)
    go (one_tail t e h) = one_tail t (ap (λ (r : List Leaf). x ∷ r) e) h
