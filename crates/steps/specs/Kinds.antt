-- What a field is (01, Walking an array, rules 6 and 8).
use Rattle.std.specs.Prelude.{ℕ, Option, Some, None, ◌==◌, nat_eq, if◌then◌else◌}
use Rattle.schema.specs.Tables.{Tables, child}
use Rattle.schema.specs.Labels.{container_label_lem, leaf_label, LabelLies}
use Rattle.framing.specs.declared.Walk.{Walk}
use Rattle.framing.specs.Sinks.{gives_leaves_lem}
use Rattle.steps.specs.declared.Kind.{Kind}
use Rattle.steps.specs.declared.Kind.TheVariants as kind

abbrev pub kind_by : Tables → (below level handle width : ℕ) → Option ℕ → Kind
kind_by t below level handle width None = kind.Leaf (leaf_label t level handle)
kind_by t below level handle width (Some lower) =
    if width == 0 then kind.Nothing else
    (if nat_eq below 0 then kind.Deep (container_label_lem t level handle) else kind.Array lower (container_label_lem t level handle))

-- a field of `width` bits, in a level with `below` levels allowed under it
unfoldable pub kind_of : Walk → Tables → (below level handle width : ℕ) → Kind
kind_of s t below level handle width =
    if gives_leaves_lem s then kind_by t below level handle width (child t.rows level handle) else kind.Object

-- its label lies in its pool
abbrev pub KindLies : Tables → Kind → Type 0
KindLies t kind.Object = Unit
KindLies t kind.Nothing = Unit
KindLies t (kind.Leaf x) = LabelLies t x
KindLies t (kind.Deep x) = LabelLies t x
KindLies t (kind.Array lower x) = LabelLies t x
