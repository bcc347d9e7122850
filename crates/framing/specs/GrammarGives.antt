-- What an array of the grammar gives: its leaves, its pairs, how many elements it has. `o` is where its window starts in the root window, `p` a bit
-- of its window.
use Rattle.std.specs.Prelude.{ℕ, zero, suc, ◌+◌, ◌-◌, ◌*◌, List, [], ◌∷◌, ◌++◌, Option, Some, None}
use Rattle.schema.specs.Tables.{Tables, child}
use Rattle.schema.specs.Labels.{at_index, dot, label_bytes, container_label_lem, leaf_label}
use Rattle.framing.specs.Events.{Leaf, Pair}
use Rattle.framing.specs.Grammar.{Bits, Field, field_bits, Element, element_bits, Array}
use Rattle.framing.specs.GrammarRules.{Content, plain, nested, content_bits, Reference, no_guid, guid}

-- ---- leaves, over what a payload's are

module _ {P : Type 0} (bits_of : P → Bits) (ofPayload : (path : List ℕ) (handle start : ℕ) → P → List Leaf) where
  unfoldable pub fields_leaves : (o : ℕ) (path : List ℕ) (p : ℕ) → List (Field P) → List Leaf
  fields_leaves o path p [] = []
  fields_leaves o path p (f ∷ fs) =
      ofPayload path (f.handle.value - 1) (o + (p + 8 * f.handle.bytes + 8 * f.width.bytes)) f.payload
      ++ fields_leaves o path (p + (field_bits bits_of f).size) fs

  unfoldable pub elements_leaves : (o : ℕ) (path : List ℕ) (p : ℕ) → List (Element P) → List Leaf
  elements_leaves o path p [] = []
  elements_leaves o path p (e ∷ es) =
      fields_leaves o (at_index path (e.index.value - 1)) (p + 8 * e.index.bytes) e.fields ++ elements_leaves o path (p + (element_bits bits_of e).size) es

  abbrev pub array_leaves : (o : ℕ) (path : List ℕ) → Array P → List Leaf
  array_leaves o path a = elements_leaves o path (8 * a.count.bytes) a.elements

-- plain bits are a leaf where the schema says no array
abbrev pub plain_leaves : Tables → (lvl : ℕ) (path : List ℕ) (handle start : ℕ) → Bits → Option ℕ → List Leaf
plain_leaves t lvl path h start b None =
    record { path = dot path (label_bytes t h (leaf_label t lvl h)); handle = h; start = start; width = b.size; payload = b.number } ∷ []
plain_leaves t lvl path h start b (Some below) = []

abbrev pub nested_leaves : (inside : (below : ℕ) (path : List ℕ) → List Leaf) → Tables → (lvl : ℕ) (path : List ℕ) (handle : ℕ) → Option ℕ → List Leaf
nested_leaves inside t lvl path h None = []
nested_leaves inside t lvl path h (Some below) = inside below (dot path (label_bytes t h (container_label_lem t lvl h)))

abbrev pub content_leaves : (deeper : ℕ) → Tables → (lvl : ℕ) (path : List ℕ) (handle start : ℕ) → Content deeper → List Leaf
content_leaves zero t lvl path h start (plain b) = plain_leaves t lvl path h start b (child t.rows lvl h)
content_leaves zero t lvl path h start (nested a) = absurd a
content_leaves (suc deeper) t lvl path h start (plain b) = plain_leaves t lvl path h start b (child t.rows lvl h)
content_leaves (suc deeper) t lvl path h start (nested a) =
    nested_leaves (λ below longer. array_leaves (content_bits deeper) (λ q k n x. content_leaves deeper t below q k n x) start longer a) t lvl path h
    (child t.rows lvl h)

-- the leaves of a struct array
abbrev pub struct_leaves : (deeper : ℕ) → Tables → (lvl o : ℕ) (path : List ℕ) → Array (Content deeper) → List Leaf
struct_leaves deeper t lvl o path a = array_leaves (content_bits deeper) (λ q k n x. content_leaves deeper t lvl q k n x) o path a

-- ---- pairs of an object array

abbrev pub reference_pairs : (index : ℕ) → Reference → List Pair
reference_pairs i no_guid = []
reference_pairs i (guid n) = record { index = i; guid = n.value } ∷ []

unfoldable pub fields_pairs : (index : ℕ) → List (Field Reference) → List Pair
fields_pairs i [] = []
fields_pairs i (f ∷ fs) = reference_pairs i f.payload ++ fields_pairs i fs

unfoldable pub elements_pairs : List (Element Reference) → List Pair
elements_pairs [] = []
elements_pairs (e ∷ es) = fields_pairs (e.index.value - 1) e.fields ++ elements_pairs es

abbrev pub object_pairs : Array Reference → List Pair
object_pairs a = elements_pairs a.elements

-- ---- how many elements, over how many a payload has

module _ {P : Type 0} (ofPayload : P → ℕ) where
  unfoldable pub fields_count : List (Field P) → ℕ
  fields_count [] = 0
  fields_count (f ∷ fs) = ofPayload f.payload + fields_count fs

  unfoldable pub elements_count : List (Element P) → ℕ
  elements_count [] = 0
  elements_count (e ∷ es) = 1 + fields_count e.fields + elements_count es

  abbrev pub array_count_lem : Array P → ℕ
  array_count_lem a = elements_count a.elements

abbrev pub content_count : (deeper : ℕ) → Content deeper → ℕ
content_count zero (plain b) = 0
content_count zero (nested a) = 0
content_count (suc deeper) (plain b) = 0
content_count (suc deeper) (nested a) = array_count_lem (content_count deeper) a
