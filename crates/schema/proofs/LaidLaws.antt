-- What tables that keep the layout promise: sizes, and that names lie in their pools.
use Rattle.std.specs.Prelude.{if◌then◌else◌, Option, Some, None}
use mathlib.Core.Path.{◌≡◌, refl, ap, subst}
use mathlib.Core.Bool.{Bool, true, false}
use mathlib.Core.List.{List}
use Prim.Native.Nat.{ℕ, ◌+◌, ◌*◌, ◌/◌, ◌%◌, ◌≤◌, ◌<◌}
use native.Mathlib.Omega.{arith}
use lib.Dec.{leb, ltb, eqb}
use lib.ListN.{length, get_or, drop, length-drop}
use lib.Seq.{length-take-le}
use borrow.Author.Tests.{ltb-true, leb-true, eqb-true}
use Rattle.std.proofs.lemmas.Option.{same_Some}
use Rattle.bits.specs.Sizes.{max_levels, max_rows, max_handles, max_name, max_pool}
use Rattle.schema.specs.Tables.{Tables, absent, name_kind, cell, named_at, row_matches_lem, row_count, row_of, name_at, schema_name, declared_name_lem}
use Rattle.schema.specs.Layout.{all_from, name_fits_lem, kind_fits_lem, row_fits, declared_fits, table_sized, schema_sized, declared_sized, root_fits_lem, schema_laid, declared_laid, laid_out}
use Rattle.schema.specs.Labels.{by_schema_lem, by_declaration_lem, container_label_lem, leaf_label, label_bytes, label_length_lem, label_part_lem, NameLies, LabelLies, LabelsLie}
use Rattle.schema.specs.declared.NameAt.{NameAt}
use Rattle.schema.specs.declared.Label.{Label}
use Rattle.schema.specs.declared.Label.TheVariants.{Declared, Named, Plain}
use Rattle.schema.proofs.RowLaws.{found, found_matches}
use Rattle.schema.proofs.LayoutLaws.{and_left, and_right, and_three, all_at}
use Rattle.schema.proofs.LabelLaws.{declared_bytes, named_bytes}
use Rattle.bits.proofs.DecimalLaws.{decimal_some}

-- the parts of a table's size
pub record Sized (table : List ℕ) (size most pool : ℕ) : Type 0 where
  pub few : length table ≤ size * most
  pub whole : length table % size ≡ 0
  pub pool_le : pool ≤ max_pool

sized : (table : List ℕ) (size most pool : ℕ) → table_sized table size most pool ≡ true → Sized table size most pool
sized table size most pool e =
    let f = and_three (leb (length table) (size * most)) (eqb (length table % size) 0) (leb pool max_pool) e in
    record { few = leb-true _ _ f.0; whole = eqb-true _ _ f.1; pool_le = leb-true _ _ f.2 }

lies : (pool start len : ℕ) → name_fits_lem pool start len ≡ true → NameLies pool start len
unfolding name_fits_lem
lies pool start len e =
    let a = leb len max_name in
    let b = leb (start + len) pool in
    (leb-true len max_name (and_left a b e), leb-true (start + len) pool (and_right a b e))

-- the parts of the layout
pub record Laid (t : Tables) (levels root : ℕ) : Type 0 where
  pub levels_le : levels ≤ max_levels
  pub rows_le : length t.rows ≤ 5 * max_rows
  pub rows_whole : length t.rows % 5 ≡ 0
  pub names_le : length t.names ≤ max_pool
  pub root_fits : root_fits_lem levels root ≡ true
  pub each_row : (i : ℕ) → i < row_count t.rows → row_fits t.rows levels (length t.names) i ≡ true
  pub declared_le : length t.declared ≤ 2 * max_handles
  pub declared_whole : length t.declared % 2 ≡ 0
  pub declared_names_le : length t.declared_names_lem ≤ max_pool
  pub each_handle : (h : ℕ) → h < length t.declared / 2 → declared_fits t.declared (length t.declared_names_lem) h ≡ true

module _ (t : Tables) (levels root : ℕ) where
  schema_parts : schema_laid t.rows levels root (length t.names) ≡ true
      → (schema_sized t.rows levels (length t.names) ≡ true) × (root_fits_lem levels root ≡ true)
      × (all_from (row_count t.rows) (row_fits t.rows levels (length t.names)) 0 ≡ true)
  unfolding schema_laid
  schema_parts e = and_three (schema_sized t.rows levels (length t.names)) (root_fits_lem levels root) _ e

  sized_parts : schema_sized t.rows levels (length t.names) ≡ true → (leb levels max_levels ≡ true) × (table_sized t.rows 5 max_rows (length t.names) ≡ true)
  unfolding schema_sized
  sized_parts e =
      let a = leb levels max_levels in
      let b = table_sized t.rows 5 max_rows (length t.names) in
      (and_left a b e, and_right a b e)

  declared_parts : declared_laid t.declared (length t.declared_names_lem) ≡ true
      → (declared_sized t.declared (length t.declared_names_lem) ≡ true)
      × (all_from (length t.declared / 2) (declared_fits t.declared (length t.declared_names_lem)) 0 ≡ true)
  unfolding declared_laid
  declared_parts e =
      let a = declared_sized t.declared (length t.declared_names_lem) in
      let b = all_from (length t.declared / 2) (declared_fits t.declared (length t.declared_names_lem)) 0 in
      (and_left a b e, and_right a b e)

  pub laid : laid_out t levels root ≡ true → Laid t levels root
  unfolding laid_out declared_sized
  laid e =
      let a = schema_laid t.rows levels root (length t.names) in
      let b = declared_laid t.declared (length t.declared_names_lem) in
      let s = schema_parts (and_left a b e) in
      let z = sized_parts s.0 in
      let d = declared_parts (and_right a b e) in
      let r = sized t.rows 5 max_rows (length t.names) z.1 in
      let h = sized t.declared 2 max_handles (length t.declared_names_lem) d.0 in
      record {
        levels_le = leb-true _ _ z.0;
        rows_le = r.few;
        rows_whole = r.whole;
        names_le = r.pool_le;
        root_fits = s.1;
        each_row = λ i k. all_at (row_count t.rows) (row_fits t.rows levels (length t.names)) 0 s.2 i (omega arith) (omega arith);
        declared_le = h.few;
        declared_whole = h.whole;
        declared_names_le = h.pool_le;
        each_handle = λ i k. all_at (length t.declared / 2) (declared_fits t.declared (length t.declared_names_lem)) 0 d.1 i (omega arith) (omega arith);
      }

module _ (t : Tables) (levels root : ℕ) (l : Laid t levels root) where
  -- a row that was found has what its kind asks
  of_kind : (level kind handle j : ℕ) → row_of t.rows level kind handle ≡ Some j
      → kind_fits_lem levels (length t.names) kind (cell t.rows j 3) (cell t.rows j 4) ≡ true
  unfolding row_of row_matches_lem row_fits
  of_kind level kind handle j e =
      let n = row_count t.rows in
      let b = found t.rows level kind handle n 0 j e in
      let f = found_matches t.rows level kind handle n 0 j e in
      let e₀ = eqb (cell t.rows j 0) level in
      let e₁ = eqb (cell t.rows j 1) kind in
      let e₂ = eqb (cell t.rows j 2) handle in
      let k = eqb-true (cell t.rows j 1) kind (and_three e₀ e₁ e₂ f).1 in
      let r =
      and_right (ltb (cell t.rows j 0) levels) (kind_fits_lem levels (length t.names) (cell t.rows j 1) (cell t.rows j 3) (cell t.rows j 4))
      (l.each_row j (omega arith)) in
      subst (λ (x : ℕ). kind_fits_lem levels (length t.names) x (cell t.rows j 3) (cell t.rows j 4) ≡ true) k r

  -- a schema's name lies in its pool
  pub name_lies : (level handle start len : ℕ) → schema_name t.rows level handle ≡ Some (named_at start len) → NameLies (length t.names) start len
  unfolding schema_name kind_fits_lem
  name_lies level handle start len e = go (row_of t.rows level name_kind handle) refl e
    where
      go : (r : Option ℕ) → row_of t.rows level name_kind handle ≡ r → name_at t.rows r ≡ Some (named_at start len) → NameLies (length t.names) start len
      go None q h = let z : ◌≡◌ {A = ℕ} 0 1 = cc in absurd (omega arith)
      go (Some j) q h =
          let q₀ = same_Some _ _ h in
          let s : cell t.rows j 3 ≡ start = ap (λ (n : NameAt). n.start) q₀ in
          let n : cell t.rows j 4 ≡ len = ap (λ (n : NameAt). n.len) q₀ in
          let b = lies (length t.names) (cell t.rows j 3) (cell t.rows j 4) (of_kind level name_kind handle j q) in
          omega arith

  -- a declared name lies in its pool
  pub declared_lies : (handle start len : ℕ) → declared_name_lem t.declared handle ≡ Some (named_at start len) → NameLies (length t.declared_names_lem) start len
  unfolding declared_name_lem declared_fits
  declared_lies handle start len e = go (ltb (2 * handle) (length t.declared)) refl (eqb (get_or t.declared (2 * handle) 0) absent) refl e
    where
      go : (b : Bool) → ltb (2 * handle) (length t.declared) ≡ b → (a : Bool) → eqb (get_or t.declared (2 * handle) 0) absent ≡ a
          → (if b then (if a then None else Some (named_at (get_or t.declared (2 * handle) 0) (get_or t.declared (2 * handle + 1) 0))) else None) ≡ Some (named_at start len)
          → NameLies (length t.declared_names_lem) start len
      go false q a r h = let z : ◌≡◌ {A = ℕ} 0 1 = cc in absurd (omega arith)
      go true q true r h = let z : ◌≡◌ {A = ℕ} 0 1 = cc in absurd (omega arith)
      go true q false r h =
          let k = ltb-true (2 * handle) (length t.declared) q in
          let w = l.declared_whole in
          let f = l.each_handle handle (omega arith) in
          let q₀ = same_Some _ _ h in
          let s : get_or t.declared (2 * handle) 0 ≡ start = ap (λ (n : NameAt). n.start) q₀ in
          let n : get_or t.declared (2 * handle + 1) 0 ≡ len = ap (λ (n : NameAt). n.len) q₀ in
          let b = lies (length t.declared_names_lem) (get_or t.declared (2 * handle) 0) (get_or t.declared (2 * handle + 1) 0) (rw r at f) in
          omega arith

module _ (t : Tables) (levels root : ℕ) (l : Laid t levels root) where
  pub container_lies : (level handle : ℕ) → LabelLies t (container_label_lem t level handle)
  unfolding LabelLies container_label_lem by_schema_lem
  container_lies level handle = go (schema_name t.rows level handle) refl
    where
      go : (n : Option NameAt) → schema_name t.rows level handle ≡ n → LabelLies t (by_schema_lem n)
      go (Some name) e = name_lies t levels root l level handle name.start name.len e
      go None e = tt

  pub leaf_lies : (level handle : ℕ) → LabelLies t (leaf_label t level handle)
  unfolding LabelLies leaf_label by_declaration_lem
  leaf_lies level handle = go (declared_name_lem t.declared handle) refl (container_lies level handle)
    where
      go : (n : Option NameAt) → declared_name_lem t.declared handle ≡ n → LabelLies t (container_label_lem t level handle) → LabelLies t (by_declaration_lem n (container_label_lem t level handle))
      go (Some name) e other = declared_lies t levels root l handle name.start name.len e
      go None e other = other

pub labels_lie : (t : Tables) (levels root : ℕ) → laid_out t levels root ≡ true → LabelsLie t
labels_lie t levels root good = let l = laid t levels root good in record { leaf = leaf_lies t levels root l; container = container_lies t levels root l }

-- the part that a label names is its bytes, unless it is plain
pub label_bytes_lem : (t : Tables) (handle : ℕ) (x : Label) → LabelLies t x → (x ≡ Plain → ⊥)
    → label_part_lem t.declared_names_lem t.names x ≡ label_bytes t handle x
unfolding LabelLies
label_bytes_lem t handle (Declared start len) h p = declared_bytes t handle start len h.1
label_bytes_lem t handle (Named start len) h p = named_bytes t handle start len h.1
label_bytes_lem t handle Plain h p = absurd (p refl)

-- a label has as many bytes as it says, and no more than a name may have
pub label_length : (t : Tables) (handle : ℕ) (x : Label) → LabelLies t x → length (label_bytes t handle x) ≡ label_length_lem handle x
unfolding LabelLies label_bytes label_length_lem
label_length t handle (Declared start len) h =
    let d = length-drop start t.declared_names_lem in
    length-take-le len (drop start t.declared_names_lem) (omega arith)
label_length t handle (Named start len) h =
    let d = length-drop start t.names in
    length-take-le len (drop start t.names) (omega arith)
label_length t handle Plain h = omega arith

pub label_short : (t : Tables) (handle : ℕ) (x : Label) → LabelLies t x → label_length_lem handle x ≤ max_name
unfolding LabelLies label_length_lem
label_short t handle (Declared start len) h = h.0
label_short t handle (Named start len) h = h.0
label_short t handle Plain h = omega (arith, decimal_some handle)
