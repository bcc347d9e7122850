-- What stands behind a leaf's path, and what the working path is after it grew.
use Rattle.std.specs.Prelude.{◌≡◌, ℕ, ◌+◌, ◌≤◌, List, [], ◌∷◌, length, take, if◌then◌else◌}
use Rattle.bits.specs.Sizes.{longest_index, longest_label, longest_path}
use Rattle.schema.specs.Tables.{Tables, tables}
use Rattle.schema.specs.Labels.{label_bytes, label_length_lem, LabelLies, raw_label, at_index}
use Rattle.framing.specs.Events.{element}
use Rattle.steps.specs.Tally.{world_of, played}
use Rattle.framing.specs.Sinks.{gives_leaves_lem}
use Rattle.steps.specs.declared.Tag.{Tag}
use Rattle.steps.specs.declared.tally.Tally.{Tally}
use Rattle.steps.specs.declared.Tag.TheVariants as tag
use Rattle.framing.specs.declared.Walk.{Walk}

-- the two name pools: all that a label's bytes depend on
abbrev pub pools : (names declared_names_lem : List ℕ) → Tables
pools names declared_names_lem = tables [] names [] declared_names_lem

abbrev pub tag_bytes : Tables → (handle : ℕ) → Tag → List ℕ
tag_bytes t handle (tag.Label x) = label_bytes t handle x
tag_bytes t handle tag.Raw = raw_label

abbrev pub tag_length_lem : (handle : ℕ) → Tag → ℕ
tag_length_lem handle (tag.Label x) = label_length_lem handle x
tag_length_lem handle tag.Raw = length raw_label

abbrev pub TagLies : Tables → Tag → Type 0
TagLies t (tag.Label x) = LabelLies t x
TagLies t tag.Raw = Unit

-- a path in an element
abbrev pub item_path : Walk → (path : List ℕ) (i : ℕ) → List ℕ
item_path s path i = if gives_leaves_lem s then at_index path i else path

-- there is room behind so many bytes of the working path: for `[index]`, for `.label`
abbrev pub IndexFits : (plen : ℕ) → Type 0
IndexFits plen = plen + longest_index ≤ longest_path

abbrev pub LabelFits : (plen : ℕ) → Type 0
LabelFits plen = plen + longest_label ≤ longest_path

-- The working path `path`, of which the first `plen` bytes count, grew by at most `most`: it is now `path'`, of which the first r count and are the
-- bytes `new`.
pub record Grew (new : List ℕ) (most plen r : ℕ) (path path' : List ℕ) : Type 0 where
  pub is : take r path' ≡ new
  pub more : plen ≤ r
  pub within : r ≤ plen + most
  pub kept : take plen path' ≡ take plen path

-- an element was entered: it was counted, whatever path its event carries, since the world keeps none; and in a walk with paths the path grew by
-- its index
pub record Entered (s : Walk) (i : ℕ) (tally tally' : Tally) (plen r : ℕ) (path path' : List ℕ) : Type 0 where
  pub counts : (place records paths payloads : List ℕ) → world_of tally' records paths payloads ≡ played (element place ∷ []) (world_of tally records paths payloads)
  pub grew : Grew (item_path s (take plen path) i) longest_index plen r path path'
