-- A look-up in a level's span finds what one in the whole table finds, whatever the table: each row of the level lies in the span, and a row of
-- another level does not match. One from the last row to the first finds the first that matches, since that is the last that is seen.
use Rattle.std.specs.Prelude.{if◌then◌else◌, Option, Some, None}
use mathlib.Core.Path.{◌≡◌, refl, sym, ap, subst, ◌∙◌}
use mathlib.Core.Bool.{Bool, true, false}
use mathlib.Core.List.{List}
use Prim.Native.Nat.{ℕ, zero, suc, ◌+◌, ◌-◌, ◌≤◌, ◌<◌, min}
use native.Mathlib.Nat.{add-zero, sub-zero}
use native.Mathlib.Omega.{arith}
use lib.Dec.{leb, eqb}
use lib.ListN.{length, get_or, set, length-set, length-replicate, get_or-replicate}
use lib.Seq.{get_or-set_same, get_or-set_other}
use borrow.Author.Tests.{ne_eqb, eqb-true, eqb-false, leb-true, leb-false}
use Rattle.schema.specs.Tables.{cell, row_matches_lem, array_kind, name_kind, child_at, named_at, name_at, first_row_lem, row_count, row_in, row_of, child, schema_name}
use Rattle.schema.specs.Spans.{entry, entry_in_lem, kind_in, no_rows, span_count, no_spans, span_place, span_at, with_row_lem, widened, spans_from, spans_of, entry_at}
use Rattle.schema.specs.declared.Entry.{Entry}
use Rattle.schema.specs.declared.Span.{Span}
use Rattle.schema.specs.declared.spans.Kind.{Kind}
use Rattle.schema.specs.declared.spans.Kind.TheVariants.{Array, Name}
use Rattle.schema.proofs.LayoutLaws.{and_three}
use Rattle.schema.proofs.RowLaws.{hit, miss, skip_front, skip_back, none_left, other_level}

place_low : (level : ℕ) → span_place level < span_count
unfolding span_place
place_low level = omega arith

-- a span with one row more
module _ (s : Span) (i : ℕ) where
  first_low : s.first ≤ i → (with_row_lem s i).first ≤ i
  unfolding with_row_lem
  first_low h = go (eqb s.last 0)
    where
      go : (b : Bool) → (if b then i else s.first) ≤ i
      go true = omega arith
      go false = h

  first_kept : (j : ℕ) → j < s.last → (with_row_lem s i).first ≡ s.first
  unfolding with_row_lem
  first_kept j h = rw (ne_eqb s.last 0 (λ e. omega arith)) refl

  last_new : (with_row_lem s i).last ≡ i + 1
  unfolding with_row_lem
  last_new = refl

-- one row: the span of its level is widened, and no other
module _ (s : List Span) (l i level : ℕ) where
  widened_sized : length (widened s l i) ≡ length s
  unfolding widened
  widened_sized = length-set s (span_place l) (with_row_lem (span_at s l) i)

  widened_same : length s ≡ span_count → span_place l ≡ span_place level → span_at (widened s l i) level ≡ with_row_lem (span_at s level) i
  unfolding widened span_at
  widened_same sized p =
      rw p (get_or-set_same s (span_place level) (with_row_lem (get_or s (span_place level) no_rows) i) no_rows (omega (arith, sized, place_low level)))

  widened_other : (span_place l ≡ span_place level → ⊥) → span_at (widened s l i) level ≡ span_at s level
  unfolding widened span_at
  widened_other h = get_or-set_other s (span_place l) (span_place level) (with_row_lem (get_or s (span_place l) no_rows) i) no_rows (λ q. h (sym q))

-- one row after the other, as a loop leaves them
pub spans_begin : (rows : List ℕ) → spans_from (row_count rows - 0) rows no_spans 0 ≡ spans_of rows
unfolding spans_of
spans_begin rows = simp sub-zero

pub spans_step : (rows : List ℕ) (s : List Span) (n i at : ℕ) (k : Span) → i < n → at ≡ span_place (cell rows i 0) → k ≡ with_row_lem (get_or s at no_rows) i
    → spans_from (n - (i + 1)) rows (set s at k) (i + 1) ≡ spans_from (n - i) rows s i
unfolding spans_from widened span_at
spans_step rows s n i at k h e q =
    let m : n - i ≡ suc (n - (i + 1)) = omega arith in
    rw (m, q, e)

pub spans_end : (rows : List ℕ) (s : List Span) (n i : ℕ) → n ≤ i → spans_from (n - i) rows s i ≡ spans_of rows → s ≡ spans_of rows
unfolding spans_from
spans_end rows s n i h e =
    let k : n - i ≡ 0 = omega arith in
    rw k at e

-- the spans cover the rows of a level, of the first i rows
record Covers (rows : List ℕ) (s : List Span) (level i : ℕ) : Type 0 where
  pub sized : length s ≡ span_count
  pub first_le : (span_at s level).first ≤ i
  pub last_le : (span_at s level).last ≤ i
  pub covered : (j : ℕ) → j < i → cell rows j 0 ≡ level → ((span_at s level).first ≤ j) × (j < (span_at s level).last)

module _ (rows : List ℕ) (s : List Span) (level i : ℕ) (v : Covers rows s level i) where
  -- a row with another place
  covers_other : (l : ℕ) → l ≡ cell rows i 0 → (span_place l ≡ span_place level → ⊥) → Covers rows (widened s l i) level (i + 1)
  covers_other l el h =
      let f = widened_other s l i level h in
      record {
        sized = widened_sized s l i level ∙ v.sized;
        first_le = rw f (omega (arith, v.first_le));
        last_le = rw f (omega (arith, v.last_le));
        covered = λ j lt e. rw f (go j lt e (leb i j) refl);
      }
    where
      go : (j : ℕ) → j < i + 1 → cell rows j 0 ≡ level → (b : Bool) → leb i j ≡ b → ((span_at s level).first ≤ j) × (j < (span_at s level).last)
      go j lt e true q =
          let z = leb-true i j q in
          let same : i ≡ j = omega arith in
          absurd (h (ap span_place (el ∙ ap (λ (k : ℕ). cell rows k 0) same ∙ e)))
      go j lt e false q = v.covered j (leb-false i j q) e

  -- a row with the same place
  covers_same : (l : ℕ) → span_place l ≡ span_place level → Covers rows (widened s l i) level (i + 1)
  covers_same l p =
      let f = widened_same s l i level v.sized p in
      let k = last_new (span_at s level) i in
      record {
        sized = widened_sized s l i level ∙ v.sized;
        first_le = rw f (omega (arith, first_low (span_at s level) i v.first_le));
        last_le = rw f (omega (arith, k));
        covered = λ j lt e. rw f (go j lt e (leb i j) refl);
      }
    where
      go : (j : ℕ) → j < i + 1 → cell rows j 0 ≡ level → (b : Bool) → leb i j ≡ b
          → ((with_row_lem (span_at s level) i).first ≤ j) × (j < (with_row_lem (span_at s level) i).last)
      go j lt e true q =
          let z = leb-true i j q in
          (omega (arith, first_low (span_at s level) i v.first_le), omega (arith, last_new (span_at s level) i))
      go j lt e false q =
          let w = v.covered j (leb-false i j q) e in
          (omega (arith, first_kept (span_at s level) i j w.1, w.0), omega (arith, last_new (span_at s level) i))

  covers_row : Covers rows (widened s (cell rows i 0) i) level (i + 1)
  covers_row = go (eqb (span_place (cell rows i 0)) (span_place level)) refl
    where
      go : (b : Bool) → eqb (span_place (cell rows i 0)) (span_place level) ≡ b → Covers rows (widened s (cell rows i 0) i) level (i + 1)
      go true e = covers_same (cell rows i 0) (eqb-true _ _ e)
      go false e = covers_other (cell rows i 0) refl (eqb-false _ _ e)

covers_rows : (left : ℕ) (rows : List ℕ) (s : List Span) (level i : ℕ) → Covers rows s level i → Covers rows (spans_from left rows s i) level (i + left)
unfolding spans_from
covers_rows zero rows s level i v = rw (add-zero i) v
covers_rows (suc left) rows s level i v =
    let e : i + suc left ≡ i + 1 + left = omega arith in
    rw e (covers_rows left rows (widened s (cell rows i 0) i) level (i + 1) (covers_row rows s level i v))

covers_none : (rows : List ℕ) (level : ℕ) → Covers rows no_spans level 0
unfolding span_at
covers_none rows level =
    let f = get_or-replicate {A = Span} span_count (span_place level) no_rows no_rows (place_low level) in
    record {
      sized = length-replicate {A = Span} span_count no_rows;
      first_le = rw f (omega arith);
      last_le = rw f (omega arith);
      covered = λ j lt e. omega arith;
    }

covers_all : (rows : List ℕ) (level : ℕ) → Covers rows (spans_of rows) level (row_count rows)
unfolding spans_of
covers_all rows level =
    let e : 0 + row_count rows ≡ row_count rows = omega arith in
    rw e at (covers_rows (row_count rows) rows no_spans level 0 (covers_none rows level))

-- where each row of the level lies from f to before l, a look-up there is one in all n rows
module _ (rows : List ℕ) (level kind handle f l n : ℕ) (last_le : l ≤ n)
    (covered : (j : ℕ) → j < n → cell rows j 0 ≡ level → (f ≤ j) × (j < l)) where
  out : (j : ℕ) → j < n → (f ≤ j → j < l → ⊥) → row_matches_lem rows level kind handle j ≡ false
  out j lt h = sym (other_level rows level handle j kind (cell rows j 0) refl (λ q. let w = covered j lt q in h w.0 w.1))

  in_cover : first_row_lem (min l n - f) rows level kind handle f ≡ first_row_lem n rows level kind handle 0
  in_cover = go (leb f l) refl
    where
      go : (b : Bool) → leb f l ≡ b → first_row_lem (min l n - f) rows level kind handle f ≡ first_row_lem n rows level kind handle 0
      go true q =
          let t = leb-true f l q in
          let e₁ : min l n - f ≡ l - f = omega arith in
          let e₂ : n ≡ f + (l - f + (n - l)) = omega arith in
          let e₃ : 0 + f ≡ f = omega arith in
          sym
          (ap (λ (m : ℕ). first_row_lem m rows level kind handle 0) e₂
          ∙ skip_front rows level kind handle f (l - f + (n - l)) 0 (λ j p r. out j (omega arith) (λ x y. omega arith))
          ∙ ap (λ (m : ℕ). first_row_lem (l - f + (n - l)) rows level kind handle m) e₃
          ∙ skip_back rows level kind handle (l - f) (n - l) f (λ j p r. out j (omega arith) (λ x y. omega arith))
          ∙ ap (λ (m : ℕ). first_row_lem m rows level kind handle f) (sym e₁))
      go false q =
          let t = leb-false f l q in
          let e₁ : n ≡ n + (n - n) = omega arith in
          let e₃ : 0 + n ≡ n = omega arith in
          none_left rows level kind handle (min l n) f (omega arith)
          ∙ sym
          (ap (λ (m : ℕ). first_row_lem m rows level kind handle 0) e₁
          ∙ skip_front rows level kind handle n (n - n) 0 (λ j p r. out j (omega arith) (λ x y. omega arith))
          ∙ ap (λ (m : ℕ). first_row_lem (n - n) rows level kind handle m) e₃
          ∙ none_left rows level kind handle n n (omega arith))

-- a look-up in the span of the level
module _ (rows : List ℕ) (level kind handle : ℕ) where
  pub row_in_span : row_in rows (span_at (spans_of rows) level) level kind handle
      ≡ row_of rows level kind handle
  unfolding row_in row_of
  row_in_span =
      let v = covers_all rows level in
      in_cover rows level kind handle _ _ (row_count rows) v.last_le v.covered

-- what the walkers cite: the entry that the span gives is the table's
pub span_entry : (rows : List ℕ) (level handle : ℕ) → entry_at rows (spans_of rows) level handle ≡ entry rows level handle
unfolding entry_at entry_in_lem child schema_name
span_entry rows level handle =
    let e = ap (child_at rows) (row_in_span rows level array_kind handle) in
    let f = ap (name_at rows) (row_in_span rows level name_kind handle) in
    λ i. record { elements = e i; name = f i }

-- the same of any spans that are the table's
pub entry_is : (rows : List ℕ) (spans : List Span) (level handle : ℕ) → spans ≡ spans_of rows → entry_at rows spans level handle ≡ entry rows level handle
entry_is rows spans level handle e = ap (λ (s : List Span). entry_at rows s level handle) e ∙ span_entry rows level handle

-- a row is not of both kinds
one_kind : (rows : List ℕ) (level handle i : ℕ) → row_matches_lem rows level array_kind handle i ≡ true → row_matches_lem rows level name_kind handle i ≡ true → ⊥
unfolding row_matches_lem
one_kind rows level handle i e f =
    let a = (and_three (eqb (cell rows i 0) level) (eqb (cell rows i 1) array_kind) (eqb (cell rows i 2) handle) e).1 in
    let b = (and_three (eqb (cell rows i 0) level) (eqb (cell rows i 1) name_kind) (eqb (cell rows i 2) handle) f).1 in
    omega (arith, eqb-true (cell rows i 1) array_kind a, eqb-true (cell rows i 1) name_kind b)

abbrev rows_from : (first last : ℕ) → Span
rows_from first last = record { first = first; last = last }

-- what the rows from i to before `end` say, from what those from j = i + 1 say: the row before them comes first
module _ (rows : List ℕ) (level handle i : ℕ) where
  abbrev Says : Option Kind → Type 0
  Says (Some Array) = (row_matches_lem rows level array_kind handle i ≡ true) × (row_matches_lem rows level name_kind handle i ≡ false)
  Says (Some Name) = (row_matches_lem rows level array_kind handle i ≡ false) × (row_matches_lem rows level name_kind handle i ≡ true)
  Says None = (row_matches_lem rows level array_kind handle i ≡ false) × (row_matches_lem rows level name_kind handle i ≡ false)

  says : Says (kind_in rows level handle i)
  says = go (row_matches_lem rows level array_kind handle i) refl (row_matches_lem rows level name_kind handle i) refl
    where
      go : (a : Bool) → row_matches_lem rows level array_kind handle i ≡ a → (n : Bool) → row_matches_lem rows level name_kind handle i ≡ n
          → Says (if a then Some Array else (if n then Some Name else None))
      go true p true q = absurd (one_kind rows level handle i p q)
      go true p false q = (p, q)
      go false p true q = (p, q)
      go false p false q = (p, q)

  abbrev pub after_row : Option Kind → Entry → Entry
  after_row (Some Array) e = record { elements = Some (cell rows i 3); name = e.name }
  after_row (Some Name) e = record { elements = e.elements; name = Some (named_at (cell rows i 3) (cell rows i 4)) }
  after_row None e = e

  module _ (j end : ℕ) (next : j ≡ i + 1) (within : j ≤ end) (below : end ≤ row_count rows) where
    hit_row : (kind : ℕ) → row_matches_lem rows level kind handle i ≡ true → row_in rows (rows_from i end) level kind handle ≡ Some i
    unfolding row_in
    hit_row kind h = hit rows level kind handle (min end (row_count rows)) i (omega arith) h

    miss_row : (kind : ℕ) → row_matches_lem rows level kind handle i ≡ false → row_in rows (rows_from i end) level kind handle ≡ row_in rows (rows_from j end) level kind handle
    unfolding row_in
    miss_row kind h = rw next (miss rows level kind handle (min end (row_count rows)) i (omega arith) h)

    pub entry_step : (k : Option Kind) (e : Entry) → k ≡ kind_in rows level handle i → e ≡ entry_in_lem rows (rows_from j end) level handle
        → after_row k e ≡ entry_in_lem rows (rows_from i end) level handle
    unfolding entry_in_lem
    entry_step k e s q = ap (after_row k) q ∙ go k (subst Says (sym s) says)
      where
        go : (k : Option Kind) → Says k → after_row k (entry_in_lem rows (rows_from j end) level handle) ≡ entry_in_lem rows (rows_from i end) level handle
        go (Some Array) m =
            let a = ap (child_at rows) (sym (hit_row array_kind m.0)) in
            let b = ap (name_at rows) (sym (miss_row name_kind m.1)) in
            λ x. record { elements = a x; name = b x }
        go (Some Name) m =
            let a = ap (child_at rows) (sym (miss_row array_kind m.0)) in
            let b = ap (name_at rows) (sym (hit_row name_kind m.1)) in
            λ x. record { elements = a x; name = b x }
        go None m =
            let a = ap (child_at rows) (sym (miss_row array_kind m.0)) in
            let b = ap (name_at rows) (sym (miss_row name_kind m.1)) in
            λ x. record { elements = a x; name = b x }

-- of no rows, and of those that were asked for
pub entry_none : (rows : List ℕ) (level handle i end : ℕ) → end ≤ i → record { elements = None; name = None } ≡ entry_in_lem rows (rows_from i end) level handle
unfolding entry_in_lem row_in
entry_none rows level handle i end h =
    let a = ap (child_at rows) (sym (none_left rows level array_kind handle (min end (row_count rows)) i (omega arith))) in
    let b = ap (name_at rows) (sym (none_left rows level name_kind handle (min end (row_count rows)) i (omega arith))) in
    λ x. record { elements = a x; name = b x }

clip_twice : (rows : List ℕ) (level handle first last end : ℕ) → end ≡ min last (row_count rows)
    → entry_in_lem rows (rows_from first end) level handle ≡ entry_in_lem rows (rows_from first last) level handle
unfolding entry_in_lem row_in
clip_twice rows level handle first last end e =
    let m : min end (row_count rows) ≡ min last (row_count rows) = omega arith in
    rw m

pub entry_all : (rows : List ℕ) (level handle first last end i : ℕ) → end ≡ min last (row_count rows) → i ≤ first → min first end ≤ i → i ≤ end
    → entry_in_lem rows (rows_from i end) level handle ≡ entry_in_lem rows (rows_from first last) level handle
entry_all rows level handle first last end i e h k l = go (leb first end) refl
  where
    go : (b : Bool) → leb first end ≡ b → entry_in_lem rows (rows_from i end) level handle ≡ entry_in_lem rows (rows_from first last) level handle
    go true q =
        let t = leb-true first end q in
        let s : i ≡ first = omega arith in
        rw s (clip_twice rows level handle first last end e)
    go false q =
        let t = leb-false first end q in
        sym (entry_none rows level handle i end (omega arith)) ∙ entry_none rows level handle first end (omega arith) ∙ clip_twice rows level handle first last end e
