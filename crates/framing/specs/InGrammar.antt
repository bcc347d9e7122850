-- A window that is the bits of an array of the grammar, for each of the three walks; and what that array gives.
use Rattle.std.specs.Prelude.{ℕ, ◌≡◌, Bool, true, false, List, []}
use Rattle.bits.specs.Sizes.{levels_below}
use Rattle.schema.specs.Tables.{Tables}
use Rattle.framing.specs.Windows.{Window}
use Rattle.framing.specs.Events.{Leaf, Pair}
use Rattle.framing.specs.declared.Walk.TheVariants as how
use Rattle.framing.specs.Sinks.{Walker, walker}
use Rattle.framing.specs.Grammar.{Bits, Array, array_bits}
use Rattle.framing.specs.GrammarRules.{Content, content_bits, IsStructArray, Reference, reference_bits, IsObjectArray}
use Rattle.framing.specs.GrammarGives.{struct_leaves, object_pairs, array_count_lem, content_count}

abbrev pub window_bits : Window → Bits
window_bits w = record { number = w.bits; size = w.size }

-- takes: whether a trailer may end an array; lvl: the level of the root's elements
pub record StructWindow (t : Tables) (takes : Bool) (lvl : ℕ) (w : Window) : Type 0 where
  pub tree : Array (Content levels_below)
  pub allowed : IsStructArray levels_below t.rows takes lvl tree
  pub bits : array_bits (content_bits levels_below) tree ≡ window_bits w

pub record ObjectWindow (w : Window) : Type 0 where
  pub tree : Array Reference
  pub allowed : IsObjectArray tree
  pub bits : array_bits reference_bits tree ≡ window_bits w

abbrev pub InGrammar : Walker → Window → Type 0
InGrammar (walker how.Struct t lvl) w = StructWindow t true lvl w
InGrammar (walker how.Exact t lvl) w = StructWindow t false lvl w
InGrammar (walker how.Object t lvl) w = ObjectWindow w

abbrev pub tree_leaves : (k : Walker) (w : Window) → InGrammar k w → List Leaf
tree_leaves (walker how.Struct t lvl) w g = struct_leaves levels_below t lvl w.origin [] g.tree
tree_leaves (walker how.Exact t lvl) w g = struct_leaves levels_below t lvl w.origin [] g.tree
tree_leaves (walker how.Object t lvl) w g = []

abbrev pub tree_pairs : (k : Walker) (w : Window) → InGrammar k w → List Pair
tree_pairs (walker how.Struct t lvl) w g = []
tree_pairs (walker how.Exact t lvl) w g = []
tree_pairs (walker how.Object t lvl) w g = object_pairs g.tree

abbrev pub tree_elements : (k : Walker) (w : Window) → InGrammar k w → ℕ
tree_elements (walker how.Struct t lvl) w g = array_count_lem (content_count levels_below) g.tree
tree_elements (walker how.Exact t lvl) w g = array_count_lem (content_count levels_below) g.tree
tree_elements (walker how.Object t lvl) w g = array_count_lem (λ x. 0) g.tree
