-- Labels and paths (01, Walking an array). A path joins `[index]` and `.label`.
use Rattle.std.specs.Prelude.{ℕ, Option, Some, None, ◌+◌, ◌≤◌, List, [], ◌∷◌, ◌++◌, length, take, drop, leb, if◌then◌else◌}
use Rattle.bits.specs.Sizes.{max_name}
unfoldable pub use Rattle.bits.specs.Decimals.{decimal}
use Rattle.schema.specs.Tables.{Tables, look_ups, schema_name, declared_name_lem}
use Rattle.schema.specs.declared.Entry.{Entry}
use Rattle.schema.specs.declared.NameAt.{NameAt}
use Rattle.schema.specs.declared.Label.{Label}
use Rattle.schema.specs.declared.Label.TheVariants.{Declared, Named, Plain}

-- `_h` and the handle
abbrev pub unnamed : (handle : ℕ) → List ℕ
unnamed handle = 95 ∷ 104 ∷ decimal handle

-- by the schema, or by `_h` and the number: so containers are called, whatever is declared
unfoldable pub by_schema_lem : Option NameAt → Label
by_schema_lem (Some name) = Named name.start name.len
by_schema_lem None = Plain

unfoldable pub container_label_lem : Tables → (level handle : ℕ) → Label
container_label_lem t level handle = by_schema_lem (schema_name t.rows level handle)

-- a leaf is called by its declaration, and where there is none as a container is
unfoldable pub by_declaration_lem : Option NameAt → Label → Label
by_declaration_lem (Some name) other = Declared name.start name.len
by_declaration_lem None other = other

unfoldable pub leaf_label : Tables → (level handle : ℕ) → Label
leaf_label t level handle = by_declaration_lem (declared_name_lem t.declared handle) (container_label_lem t level handle)

-- both by their parts: a container's by the schema's rows alone
abbrev pub container_label_of : (rows : List ℕ) (level handle : ℕ) → Label
container_label_of rows level handle = container_label_lem (look_ups rows []) level handle

abbrev pub leaf_label_of : (rows declared : List ℕ) (level handle : ℕ) → Label
leaf_label_of rows declared level handle = leaf_label (look_ups rows declared) level handle

-- and where the schema's entry is known
abbrev pub container_label_from_lem : Entry → Label
container_label_from_lem entry = by_schema_lem entry.name

abbrev pub leaf_label_from_lem : Entry → (declared : List ℕ) (handle : ℕ) → Label
leaf_label_from_lem entry declared handle = by_declaration_lem (declared_name_lem declared handle) (container_label_from_lem entry)

-- a label's bytes, from the one pool or the other if it has a name
unfoldable pub label_bytes : Tables → (handle : ℕ) → Label → List ℕ
label_bytes t handle (Declared start len) = take len (drop start t.declared_names_lem)
label_bytes t handle (Named start len) = take len (drop start t.names)
label_bytes t handle Plain = unnamed handle

-- how many those are, where a name lies in its pool
unfoldable pub label_length_lem : (handle : ℕ) → Label → ℕ
label_length_lem handle (Declared start len) = len
label_length_lem handle (Named start len) = len
label_length_lem handle Plain = 2 + length (decimal handle)

-- a name that isn't too long lies in a pool of so many bytes
abbrev pub NameLies : (pool start len : ℕ) → Type 0
NameLies pool start len = (len ≤ max_name) × (start + len ≤ pool)

-- a label's name, if it has one, is no longer than a name may be and lies in its pool; so it does where the tables keep their layout
unfoldable pub LabelLies : Tables → Label → Type 0
LabelLies t (Declared start len) = NameLies (length t.declared_names_lem) start len
LabelLies t (Named start len) = NameLies (length t.names) start len
LabelLies t Plain = Unit

-- all of them do
pub record LabelsLie (t : Tables) : Type 0 where
  pub leaf : (level handle : ℕ) → LabelLies t (leaf_label t level handle)
  pub container : (level handle : ℕ) → LabelLies t (container_label_lem t level handle)

-- the bytes of a name in its pool; none where it does not lie there
unfoldable pub name_in : (pool : List ℕ) (start len : ℕ) → List ℕ
name_in pool start len = if leb (start + len) (length pool) then take len (drop start pool) else []

-- the part of the one pool or the other that a label names, which are the bytes of `label_bytes` where the name lies in its pool; a plain one names
-- none
unfoldable pub label_part_lem : (declaredPool schemaPool : List ℕ) → Label → List ℕ
label_part_lem declaredPool schemaPool (Declared start len) = name_in declaredPool start len
label_part_lem declaredPool schemaPool (Named start len) = name_in schemaPool start len
label_part_lem declaredPool schemaPool Plain = []

-- `[index]`, `.label`, and the label of a kept tail, `_raw`
unfoldable pub at_index : (path : List ℕ) (index : ℕ) → List ℕ
at_index path i = path ++ (91 ∷ decimal i ++ (93 ∷ []))

unfoldable pub dot : (path label : List ℕ) → List ℕ
dot path label = path ++ (46 ∷ label)

abbrev pub raw_label : List ℕ
raw_label = 95 ∷ 114 ∷ 97 ∷ 119 ∷ []
