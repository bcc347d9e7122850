-- The laws of the look-ups: one step, what is not there, and where a row that was found lies.
use Rattle.std.specs.Prelude.{if◌then◌else◌, Option, Some, None}
use mathlib.Core.Path.{◌≡◌, refl, sym, ap, ◌∙◌}
use mathlib.Core.Bool.{Bool, true, false}
use mathlib.Core.List.{List}
use Prim.Native.Nat.{ℕ, zero, suc, ◌+◌, ◌-◌, ◌*◌, ◌≤◌, ◌<◌, min}
use native.Mathlib.Nat.{add-zero, zero-add, suc-add}
use native.Mathlib.Omega.{arith}
use lib.ListN.{length}
use borrow.Author.Tests.{ne_eqb}
use Rattle.std.specs.List.{find, range_with_len}
use Rattle.schema.specs.Tables.{cell, row_matches_lem, first_row_lem, row_in, row_of, row_count}

module _ (rows : List ℕ) (level kind handle : ℕ) where
  pub hit : (n i : ℕ) → i < n → row_matches_lem rows level kind handle i ≡ true → first_row_lem (n - i) rows level kind handle i ≡ Some i
  unfolding first_row_lem
  hit n i lt e =
      let s : n - i ≡ suc (n - (i + 1)) = omega arith in
      rw (s, e)

  pub miss : (n i : ℕ) → i < n → row_matches_lem rows level kind handle i ≡ false
      → first_row_lem (n - i) rows level kind handle i ≡ first_row_lem (n - (i + 1)) rows level kind handle (i + 1)
  unfolding first_row_lem
  miss n i lt e =
      let s : n - i ≡ suc (n - (i + 1)) = omega arith in
      rw (s, e)

  pub none_left : (n i : ℕ) → n ≤ i → first_row_lem (n - i) rows level kind handle i ≡ None
  unfolding first_row_lem
  none_left n i h =
      let s : n - i ≡ 0 = omega arith in
      rw s

  -- a row that was found is one of those that were looked at
  pub found : (left i j : ℕ) → first_row_lem left rows level kind handle i ≡ Some j → (i ≤ j) × (j < i + left)
  unfolding first_row_lem
  found zero i j e = let z : ◌≡◌ {A = ℕ} 0 1 = cc in omega arith
  found (suc left) i j e = go (row_matches_lem rows level kind handle i) (found left (i + 1) j) e
    where
      go : (b : Bool) → (first_row_lem left rows level kind handle (i + 1) ≡ Some j → (i + 1 ≤ j) × (j < i + 1 + left))
          → (if b then Some i else first_row_lem left rows level kind handle (i + 1)) ≡ Some j → (i ≤ j) × (j < i + suc left)
      go true rest h = let s : i ≡ j = cc in omega arith
      go false rest h = let s = rest h in omega arith

  -- and it matches
  pub found_matches : (left i j : ℕ) → first_row_lem left rows level kind handle i ≡ Some j → row_matches_lem rows level kind handle j ≡ true
  unfolding first_row_lem
  found_matches zero i j e = let z : ◌≡◌ {A = ℕ} 0 1 = cc in absurd (omega arith)
  found_matches (suc left) i j e = go (row_matches_lem rows level kind handle i) refl (found_matches left (i + 1) j) e
    where
      go : (b : Bool) → row_matches_lem rows level kind handle i ≡ b → (first_row_lem left rows level kind handle (i + 1) ≡ Some j → row_matches_lem rows level kind handle j ≡ true)
          → (if b then Some i else first_row_lem left rows level kind handle (i + 1)) ≡ Some j → row_matches_lem rows level kind handle j ≡ true
      go true q rest h = let s : i ≡ j = cc in ap (row_matches_lem rows level kind handle) (sym s) ∙ q
      go false q rest h = rest h

  -- a row of the table: all five of its numbers are there
  pub row_there : (row : Option ℕ) (j : ℕ) → row ≡ row_of rows level kind handle → row ≡ Some j → 5 * j + 5 ≤ length rows
  unfolding row_of
  row_there row j e q = let s = found (row_count rows) 0 j (sym e ∙ q) in omega arith

  -- the rows from i on, as a range gives them
  pub first_in_range : (n i : ℕ) → find (row_matches_lem rows level kind handle) (range_with_len i n) ≡ first_row_lem n rows level kind handle i
  unfolding first_row_lem
  first_in_range zero i = refl
  first_in_range (suc n) i =
      ap (λ (r : Option ℕ). if row_matches_lem rows level kind handle i then Some i else r) (first_in_range n (i + 1))

  pub row_in_all : row_in rows (record { first = 0; last = row_count rows }) level kind handle ≡ row_of rows level kind handle
  unfolding row_in row_of
  row_in_all =
      let e : min (row_count rows) (row_count rows) - 0 ≡ row_count rows = omega arith in
      ap (λ (n : ℕ). first_row_lem n rows level kind handle 0) e

  -- rows that do not match, before and after those that count
  pub skip_front : (k m a : ℕ) → ((j : ℕ) → a ≤ j → j < a + k → row_matches_lem rows level kind handle j ≡ false)
      → first_row_lem (k + m) rows level kind handle a ≡ first_row_lem m rows level kind handle (a + k)
  unfolding first_row_lem
  skip_front zero m a h =
      let e : zero + m ≡ m = zero-add m in
      let f : a ≡ a + zero = sym (add-zero a) in
      ap (λ (n : ℕ). first_row_lem n rows level kind handle a) e ∙ ap (λ (i : ℕ). first_row_lem m rows level kind handle i) f
  skip_front (suc k) m a h =
      let e : suc k + m ≡ suc (k + m) = suc-add k m in
      let f : a + 1 + k ≡ a + suc k = omega arith in
      let g = h a (omega arith) (omega arith) in
      ap (λ (n : ℕ). first_row_lem n rows level kind handle a) e
      ∙ rw g (skip_front k m (a + 1) (λ j p q. h j (omega arith) (omega arith)))
      ∙ ap (λ (i : ℕ). first_row_lem m rows level kind handle i) f

  pub skip_back : (m k a : ℕ) → ((j : ℕ) → a + m ≤ j → j < a + m + k → row_matches_lem rows level kind handle j ≡ false)
      → first_row_lem (m + k) rows level kind handle a ≡ first_row_lem m rows level kind handle a
  unfolding first_row_lem
  skip_back zero k a h =
      let e : zero + k ≡ k + zero = omega arith in
      ap (λ (n : ℕ). first_row_lem n rows level kind handle a) e ∙ skip_front k zero a (λ j p q. h j (omega arith) (omega arith))
  skip_back (suc m) k a h =
      ap (λ (n : ℕ). first_row_lem n rows level kind handle a) (suc-add m k)
      ∙ ap (λ (r : Option ℕ). if row_matches_lem rows level kind handle a then Some a else r) (skip_back m k (a + 1) (λ j p q. h j (omega arith) (omega arith)))

-- a row of another level matches nothing
pub other_level : (rows : List ℕ) (level handle i kind x : ℕ) → x ≡ cell rows i 0 → (x ≡ level → ⊥) → false ≡ row_matches_lem rows level kind handle i
unfolding row_matches_lem
other_level rows level handle i kind x e h = rw (ne_eqb _ _ (λ q. h (e ∙ q)))
