-- What a step gives, as events.
use Rattle.std.specs.Prelude.{ℕ, Bool, List, [], ◌∷◌}
use Rattle.schema.specs.Tables.{Tables}
use Rattle.schema.specs.Labels.{dot}
use Rattle.framing.specs.Windows.{Window}
use Rattle.framing.specs.Events.{leaf, truncation, error, implicit, Trace}
use Rattle.framing.specs.Walk.{Sink, tail, closing}
use Rattle.framing.specs.Sinks.{leaf_of, object_field_lem}
use Rattle.steps.specs.Views.{inner}
use Rattle.steps.specs.Paths.{tag_bytes}
use Rattle.steps.specs.declared.Tag.{Tag}
use Rattle.steps.specs.declared.Tag.TheVariants as tag
use Rattle.steps.specs.declared.Head.{Head}
use Rattle.steps.specs.declared.Head.TheVariants as head
use Rattle.steps.specs.declared.Kind.{Kind}
use Rattle.steps.specs.declared.Kind.TheVariants as kind

-- a leaf with a tag behind its path
unfoldable pub tagged_leaf : Tables → (path : List ℕ) (handle : ℕ) → Tag → Window → Trace
tagged_leaf t path handle x w = leaf (leaf_of (dot path (tag_bytes t handle x)) handle w) ∷ []

-- a field that is no array to walk
unfoldable pub flat_field : Tables → (index : ℕ) (path : List ℕ) (first : Bool) (handle : ℕ) → Window → Kind → Trace
flat_field t index path first handle w kind.Object = object_field_lem index first w
flat_field t index path first handle w kind.Nothing = []
flat_field t index path first handle w (kind.Leaf x) = tagged_leaf t path handle (tag.Label x) w
flat_field t index path first handle w (kind.Deep x) = truncation ∷ tagged_leaf t path handle (tag.Label x) w
flat_field t index path first handle w (kind.Array lower x) = []

-- a head at which an element's fields end without closing
unfoldable pub fields_stop : Sink → (bytes : List ℕ) (base end : ℕ) (path : List ℕ) → Head → Trace
fields_stop s bytes base end path head.Ended = implicit ∷ []
fields_stop s bytes base end path head.Failed = error ∷ []
fields_stop s bytes base end path (head.Closed n) = []
fields_stop s bytes base end path (head.Limit n) = truncation ∷ tail s (inner bytes base n end) path 0
fields_stop s bytes base end path (head.Go v a b) = []

-- a head at which a level ends
unfoldable pub level_stop : Sink → (bytes : List ℕ) (base end : ℕ) (path : List ℕ) → Head → Trace
level_stop s bytes base end path head.Ended = implicit ∷ []
level_stop s bytes base end path head.Failed = error ∷ []
level_stop s bytes base end path (head.Closed n) = closing s (inner bytes base n end) 0
level_stop s bytes base end path (head.Limit n) = truncation ∷ tail s (inner bytes base n end) path 0
level_stop s bytes base end path (head.Go v a b) = []
