-- The twelve levels: what filling gives, that the table is laid out, and that it says what schema.rs says.
use Rattle.std.specs.Prelude.{if◌then◌else◌, Option, None, Ok}
use mathlib.Core.Path.{◌≡◌, refl, sym, ap, ap₂, ◌∙◌}
use mathlib.Core.Bool.{Bool, true, false}
use mathlib.Core.List.{List, [], ◌∷◌, ◌++◌, map}
use Prim.Native.Nat.{ℕ, ◌+◌, ◌-◌, ◌≤◌, ◌<◌}
use native.Mathlib.Omega.{arith}
use lib.Dec.{ltb, eqb}
use lib.ListN.{length, drop}
use borrow.Author.Tests.{le-leb, lt-ltb, eqb-true}
use Rattle.bits.specs.Runs.{put}
use Rattle.schema.specs.Tables.{absent, cell, row_matches_lem, array_kind, name_kind, child_at, name_at, first_row_lem, row_of, row_count, child, schema_name}
use Rattle.schema.specs.Layout.{all_from, name_fits_lem, kind_fits_lem, row_fits, declared_fits, schema_sized, declared_sized, root_fits_lem, schema_laid, declared_laid, laid_out}
use Rattle.schema.specs.Labels.{by_schema_lem, container_label_lem, label_bytes, unnamed}
use Rattle.schema.specs.SchemaFile.{Stated, stated, about, of_stated, is_stated, child_stated, label_stated}
use Rattle.schema.specs.TwelveLevels.{twelve_levels, level_count, schema_rows, schema_names, ascii, row_numbers, name_bytes, enough, fill_answer, filled_rows, filled_names, FillsSchema}
use Rattle.schema.proofs.RowLaws.{skip_front, none_left}
use Rattle.schema.proofs.LayoutLaws.{and_left, and_right, and_three, all_at}

-- the answer and the two buffers, where both have room
pub both_fit : (rows names rows' names' : List ℕ) → row_numbers ≤ length rows → name_bytes ≤ length names → rows' ≡ schema_rows ++ drop row_numbers rows
    → names' ≡ schema_names ++ drop name_bytes names → FillsSchema rows names (Ok tt) rows' names'
unfolding enough fill_answer filled_rows filled_names put schema_rows schema_names ascii
both_fit rows names rows' names' h k e f =
    let a = le-leb _ _ h in
    let b = le-leb _ _ k in
    (simp (a, b), simp (a, b) e, simp (a, b) f)

-- the table keeps its layout, whichever of its levels is the root
root_below : (levels root : ℕ) → root < levels → root_fits_lem levels root ≡ true
unfolding root_fits_lem
root_below levels root h = go (eqb root absent)
  where
    go : (b : Bool) → (if b then true else ltb root levels) ≡ true
    go true = refl
    go false = lt-ltb root levels h

pub twelve_laid : (root : ℕ) → root < level_count → laid_out twelve_levels level_count root ≡ true
unfolding laid_out schema_laid declared_laid schema_sized declared_sized all_from name_fits_lem kind_fits_lem row_fits declared_fits cell schema_rows schema_names ascii
twelve_laid root h = rw (root_below level_count root h)

-- One test over the statements, and one over the rows: what is stated stands in the table, and each row is of a handle that is stated.
abbrev label_at : (level handle : ℕ) → List ℕ
label_at level handle = label_bytes twelve_levels handle (container_label_lem twelve_levels level handle)

children_stated : map (λ s. child schema_rows s.level s.handle) stated ≡ map (λ s. s.elements) stated
unfolding child row_of first_row_lem row_matches_lem cell schema_rows
children_stated = refl

labels_stated : map (λ s. label_at s.level s.handle) stated ≡ map (λ s. s.name) stated
unfolding schema_name row_of first_row_lem row_matches_lem cell container_label_lem by_schema_lem label_bytes schema_rows schema_names ascii
labels_stated = refl

abbrev row_stated : ℕ → Bool
row_stated i = is_stated (cell schema_rows i 0) (cell schema_rows i 2)

rows_stated : all_from (row_count schema_rows) row_stated 0 ≡ true
unfolding all_from of_stated cell schema_rows
rows_stated = refl

-- a look-up f that gives what is stated, and `none` for the rest
module _ {A : Type 0} (f : ℕ → ℕ → A) (what : Stated → A) (none : A) (level handle : ℕ) where
  as_stated : (l : List Stated) → map (λ s. f s.level s.handle) l ≡ map what l
      → (of_stated (λ s. true) false l level handle ≡ false → f level handle ≡ none) → f level handle ≡ of_stated what none l level handle
  unfolding of_stated
  as_stated [] e rest = rest refl
  as_stated (s ∷ l) e rest = go (about s level handle) refl (as_stated l (cc)) rest
    where
      go : (b : Bool) → about s level handle ≡ b
          → ((of_stated (λ s. true) false l level handle ≡ false → f level handle ≡ none) → f level handle ≡ of_stated what none l level handle)
          → ((if b then true else of_stated (λ s. true) false l level handle) ≡ false → f level handle ≡ none)
          → f level handle ≡ (if b then what s else of_stated what none l level handle)
      go true q more other =
          let a = eqb-true s.level level (and_left (eqb s.level level) (eqb s.handle handle) q) in
          let b = eqb-true s.handle handle (and_right (eqb s.level level) (eqb s.handle handle) q) in
          let h : f s.level s.handle ≡ what s = cc in
          ap₂ f (sym a) (sym b) ∙ h
      go false q more other = more other

-- where nothing is stated no row matches
module _ (level handle : ℕ) (h : is_stated level handle ≡ false) where
  no_row : (kind i : ℕ) → i < row_count schema_rows → row_matches_lem schema_rows level kind handle i ≡ false
  unfolding row_matches_lem
  no_row kind i k = go (row_matches_lem schema_rows level kind handle i) refl
    where
      go : (b : Bool) → row_matches_lem schema_rows level kind handle i ≡ b → row_matches_lem schema_rows level kind handle i ≡ false
      go false e = e
      go true e =
          let p = and_three (eqb (cell schema_rows i 0) level) (eqb (cell schema_rows i 1) kind) (eqb (cell schema_rows i 2) handle) e in
          let a = eqb-true (cell schema_rows i 0) level p.0 in
          let b = eqb-true (cell schema_rows i 2) handle p.2 in
          let s = all_at (row_count schema_rows) row_stated 0 rows_stated i (omega arith) (omega arith) in
          let t : is_stated level handle ≡ true = ap₂ is_stated (sym a) (sym b) ∙ s in
          let z : ◌≡◌ {A = ℕ} 0 1 = cc in
          absurd (omega arith)

  no_row_of : (kind : ℕ) → row_of schema_rows level kind handle ≡ None
  unfolding row_of
  no_row_of kind =
      let n = row_count schema_rows in
      let e : n ≡ n + (n - n) = omega arith in
      let e₀ : 0 + n ≡ n = omega arith in
      ap (λ (m : ℕ). first_row_lem m schema_rows level kind handle 0) e
      ∙ skip_front schema_rows level kind handle n (n - n) 0 (λ j p r. no_row kind j (omega arith))
      ∙ ap (λ (m : ℕ). first_row_lem (n - n) schema_rows level kind handle m) e₀
      ∙ none_left schema_rows level kind handle n n (omega arith)

  no_child : child schema_rows level handle ≡ None
  unfolding child
  no_child = ap (child_at schema_rows) (no_row_of array_kind)

  no_label : label_at level handle ≡ unnamed handle
  unfolding schema_name container_label_lem by_schema_lem label_bytes
  no_label = ap (λ (r : Option ℕ). label_bytes twelve_levels handle (by_schema_lem (name_at schema_rows r))) (no_row_of name_kind)

-- the table says what schema.rs states of each handle of each level, and nothing else
pub table_child : (level handle : ℕ) → child schema_rows level handle ≡ child_stated level handle
table_child level handle = as_stated (child schema_rows) (λ s. s.elements) None level handle stated children_stated (no_child level handle)

pub table_label : (level handle : ℕ) → label_at level handle ≡ label_stated level handle
table_label level handle = as_stated label_at (λ s. s.name) (unnamed handle) level handle stated labels_stated (no_label level handle)
