-- Paths (01, Walking an array): of a field, and all that a walk works with.
use Rattle.std.specs.Prelude.{ℕ, ◌+◌, ◌*◌, ◌≤◌, List, [], ◌∷◌, length}
use Rattle.bits.specs.Sizes.{longest_index, longest_label, longest_path}
use Rattle.schema.specs.Tables.{Tables}
use Rattle.schema.specs.Labels.{container_label_lem, leaf_label, label_bytes, dot}
use Rattle.framing.specs.Events.{number, element, array, leaf, pair, truncation, error, implicit, nested, root, Trace}

-- the path of a field that is a leaf, and of one that is an array
abbrev pub leaf_path : Tables → (level : ℕ) (path : List ℕ) (handle : ℕ) → List ℕ
leaf_path t lvl path handle = dot path (label_bytes t handle (leaf_label t lvl handle))

abbrev pub array_path : Tables → (level : ℕ) (path : List ℕ) (handle : ℕ) → List ℕ
array_path t lvl path handle = dot path (label_bytes t handle (container_label_lem t lvl handle))

-- what a level with so many levels below it adds to its path at most, in bytes, and what an element of it adds
abbrev pub level_adds : (deeper : ℕ) → ℕ
level_adds deeper = (longest_index + longest_label) * (1 + deeper)

abbrev pub element_adds : (deeper : ℕ) → ℕ
element_adds deeper = longest_label + (longest_index + longest_label) * deeper

-- at most longest_path bytes
abbrev pub PathFits : (path : List ℕ) → Type 0
PathFits path = length path ≤ longest_path

-- The working paths of a walk, in the order of its events: of every element and every array that it enters, and of every leaf, an array that is too
-- deep and a kept tail among them. Only the root's, which is empty, isn't among them. Where the tables keep their layout, each of them fits (request 10;
-- proofs/LongestPath).
abbrev pub working_paths : Trace → List (List ℕ)
working_paths [] = []
working_paths (element p ∷ t) = p ∷ working_paths t
working_paths (array a ∷ t) = a.path ∷ working_paths t
working_paths (leaf x ∷ t) = x.path ∷ working_paths t
working_paths (number x ∷ t) = working_paths t
working_paths (pair x ∷ t) = working_paths t
working_paths (truncation ∷ t) = working_paths t
working_paths (error ∷ t) = working_paths t
working_paths (implicit ∷ t) = working_paths t
working_paths (nested n ∷ t) = working_paths t
working_paths (root n ∷ t) = working_paths t
