-- The laws of records, path bytes and payload bytes: one list of leaves behind another, by induction over the first list; how many numbers they are;
-- and so where the numbers, the path and the payload of one leaf stand, since those of the leaves before it stand before them.
use mathlib.Core.Path.{◌≡◌, refl, sym, ap, ap₂, ◌∙◌}
use mathlib.Core.List.{List, [], ◌∷◌, ◌++◌, append_assoc}
use Prim.Native.Nat.{ℕ, ◌+◌, ◌*◌, ◌<◌}
use native.Mathlib.Nat.{add-zero, zero-add}
use native.Mathlib.Omega.{arith}
use lib.ListN.{length, get_or, take, drop, length-append, get_or-append}
use lib.Seq.{take-append_seam, drop-append_seam, get_or-append-add}
use Rattle.bits.specs.Runs.{bytes_of, bytes_for}
use Rattle.framing.specs.Events.{Leaf, Pair}
use Rattle.framing.specs.Records.{payload_of, leaf_words, leaf_record, pair_words, path_bytes_lem, payload_bytes_lem, leaf_records, pair_records}

pub path_append : (l m : List Leaf) → path_bytes_lem (l ++ m) ≡ path_bytes_lem l ++ path_bytes_lem m
unfolding path_bytes_lem
path_append [] m = refl
path_append (x ∷ l) m = ap (λ r. x.path ++ r) (path_append l m) ∙ sym (append_assoc x.path (path_bytes_lem l) (path_bytes_lem m))

pub payload_append : (l m : List Leaf) → payload_bytes_lem (l ++ m) ≡ payload_bytes_lem l ++ payload_bytes_lem m
unfolding payload_bytes_lem
payload_append [] m = refl
payload_append (x ∷ l) m =
    ap (λ r. bytes_of (bytes_for x.width) x.payload ++ r) (payload_append l m)
    ∙ sym (append_assoc (bytes_of (bytes_for x.width) x.payload) (payload_bytes_lem l) (payload_bytes_lem m))

pub records_append : (a b : ℕ) (l m : List Leaf)
    → leaf_records a b (l ++ m) ≡ leaf_records a b l ++ leaf_records (a + length (path_bytes_lem l)) (b + length (payload_bytes_lem l)) m
unfolding leaf_records path_bytes_lem payload_bytes_lem
records_append a b [] m = rw (add-zero a, add-zero b)
records_append a b (x ∷ l) m =
    let p : a + length x.path + length (path_bytes_lem l) ≡ a + length (x.path ++ path_bytes_lem l) = rw (length-append x.path (path_bytes_lem l)) (omega arith) in
    let q : b + length (payload_of x) + length (payload_bytes_lem l) ≡ b + length (payload_of x ++ payload_bytes_lem l) = rw (length-append (payload_of x) (payload_bytes_lem l)) (omega arith) in
    ap (λ r. leaf_record a b x ++ r)
    (records_append (a + length x.path) (b + length (payload_of x)) l m
    ∙ ap₂ (λ y z. leaf_records (a + length x.path) (b + length (payload_of x)) l ++ leaf_records y z m) p q)
    ∙ sym (append_assoc (leaf_record a b x) (leaf_records (a + length x.path) (b + length (payload_of x)) l) (leaf_records (a + length (x.path ++ path_bytes_lem l)) (b + length (payload_of x ++ payload_bytes_lem l)) m))

-- ---- how many numbers

-- The records of some leaves are as long as they are many.
pub records_size : (a b : ℕ) (l : List Leaf) → length (leaf_records a b l) ≡ leaf_words * length l
unfolding leaf_records
records_size a b [] = refl
records_size a b (x ∷ l) = let z = records_size (a + length x.path) (b + length (payload_of x)) l in omega arith

-- So are pairs.
pub pairs_size : (l : List Pair) → length (pair_records l) ≡ pair_words * length l
unfolding pair_records
pairs_size [] = refl
pairs_size (x ∷ l) = let z = pairs_size l in omega arith

-- ---- one leaf x, with the leaves l before it and m behind it

between : (a b c d : List ℕ) → (a ++ (b ++ c)) ++ d ≡ a ++ (b ++ (c ++ d))
between a b c d = append_assoc a (b ++ c) d ∙ ap (λ r. a ++ r) (append_assoc b c d)

middle : (a b c : List ℕ) → take (length b) (drop (length a) (a ++ (b ++ c))) ≡ b
middle a b c = ap (take (length b)) (drop-append_seam a (b ++ c)) ∙ take-append_seam b c

module _ (l m : List Leaf) (x : Leaf) (rest : List ℕ) where
  -- Number j of its record.
  pub record_at : (j : ℕ) → j < leaf_words
      → get_or (leaf_records 0 0 (l ++ (x ∷ m)) ++ rest) (leaf_words * length l + j) 0 ≡ get_or (leaf_record (length (path_bytes_lem l)) (length (payload_bytes_lem l)) x) j 0
  unfolding leaf_records
  record_at j h =
      let a = length (path_bytes_lem l) in
      let b = length (payload_bytes_lem l) in
      let behind = leaf_records (a + length x.path) (b + length (payload_of x)) m in
      let records : leaf_records 0 0 (l ++ (x ∷ m)) ≡ leaf_records 0 0 l ++ (leaf_record a b x ++ behind)
      = records_append 0 0 l (x ∷ m) ∙ ap₂ (λ c d. leaf_records 0 0 l ++ leaf_records c d (x ∷ m)) (zero-add a) (zero-add b) in
      let whole : leaf_records 0 0 (l ++ (x ∷ m)) ++ rest ≡ leaf_records 0 0 l ++ (leaf_record a b x ++ (behind ++ rest))
      = ap (λ r. r ++ rest) records ∙ between (leaf_records 0 0 l) (leaf_record a b x) behind rest in
      ap₂ (λ (r : List ℕ) (n : ℕ). get_or r (n + j) 0) whole (sym (records_size 0 0 l))
      ∙ get_or-append-add (leaf_records 0 0 l) (leaf_record a b x ++ (behind ++ rest)) j 0
      ∙ get_or-append (leaf_record a b x) (behind ++ rest) 0 j h

  -- Its path.
  pub path_at : take (length x.path) (drop (length (path_bytes_lem l)) (path_bytes_lem (l ++ (x ∷ m)) ++ rest)) ≡ x.path
  unfolding path_bytes_lem
  path_at =
      ap (λ r. take (length x.path) (drop (length (path_bytes_lem l)) r))
      (ap (λ r. r ++ rest) (path_append l (x ∷ m)) ∙ between (path_bytes_lem l) x.path (path_bytes_lem m) rest)
      ∙ middle (path_bytes_lem l) x.path (path_bytes_lem m ++ rest)

  -- Its payload.
  pub payload_at : take (length (payload_of x)) (drop (length (payload_bytes_lem l)) (payload_bytes_lem (l ++ (x ∷ m)) ++ rest)) ≡ payload_of x
  unfolding payload_bytes_lem
  payload_at =
      ap (λ r. take (length (payload_of x)) (drop (length (payload_bytes_lem l)) r))
      (ap (λ r. r ++ rest) (payload_append l (x ∷ m)) ∙ between (payload_bytes_lem l) (payload_of x) (payload_bytes_lem m) rest)
      ∙ middle (payload_bytes_lem l) (payload_of x) (payload_bytes_lem m ++ rest)
