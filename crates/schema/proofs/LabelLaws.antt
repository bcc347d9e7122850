-- The laws of labels: pools do not matter to which label it is; an entry that was found gives it; and its bytes are a part of its pool.
use mathlib.Core.Path.{◌≡◌, refl, ap}
use mathlib.Core.List.{List, []}
use Prim.Native.Nat.{ℕ, ◌+◌, ◌≤◌}
use lib.ListN.{length, take, drop}
use borrow.Author.Tests.{le-leb}
use Rattle.schema.specs.Tables.{Tables, look_ups, declared_name_lem}
use Rattle.schema.specs.Spans.{entry}
use Rattle.schema.specs.Labels.{by_schema_lem, by_declaration_lem, container_label_lem, leaf_label, label_bytes, name_in, label_part_lem}
use Rattle.schema.specs.declared.Entry.{Entry}
use Rattle.schema.specs.declared.Label.TheVariants.{Declared, Named}

-- what a look-up without pools gives is the label of the whole tables
pub container_of : (t : Tables) (level handle : ℕ) → container_label_lem (look_ups t.rows []) level handle ≡ container_label_lem t level handle
unfolding container_label_lem
container_of t level handle = refl

pub leaf_of_lem : (t : Tables) (level handle : ℕ) → leaf_label (look_ups t.rows t.declared) level handle ≡ leaf_label t level handle
unfolding leaf_label container_label_lem
leaf_of_lem t level handle = refl

-- the label from the entry that was found
pub container_from : (t : Tables) (level handle : ℕ) (e : Entry) → e ≡ entry t.rows level handle → by_schema_lem e.name ≡ container_label_lem t level handle
unfolding container_label_lem
container_from t level handle e q = ap (λ (x : Entry). by_schema_lem x.name) q

pub leaf_from : (t : Tables) (level handle : ℕ) (e : Entry) → e ≡ entry t.rows level handle
    → by_declaration_lem (declared_name_lem t.declared handle) (by_schema_lem e.name) ≡ leaf_label t level handle
unfolding leaf_label
leaf_from t level handle e q = ap (by_declaration_lem (declared_name_lem t.declared handle)) (container_from t level handle e q)

-- a part that lies in its pool
pub part_in : (pool : List ℕ) (start len : ℕ) → start + len ≤ length pool → name_in pool start len ≡ take len (drop start pool)
unfolding name_in
part_in pool start len h = rw (le-leb _ _ h)

-- the bytes of a label whose name lies in its pool
module _ (t : Tables) (handle start len : ℕ) where
  pub declared_bytes : start + len ≤ length t.declared_names_lem
      → label_part_lem t.declared_names_lem t.names (Declared start len) ≡ label_bytes t handle (Declared start len)
  unfolding label_part_lem label_bytes
  declared_bytes h = part_in t.declared_names_lem start len h

  pub named_bytes : start + len ≤ length t.names → label_part_lem t.declared_names_lem t.names (Named start len) ≡ label_bytes t handle (Named start len)
  unfolding label_part_lem label_bytes
  named_bytes h = part_in t.names start len h
