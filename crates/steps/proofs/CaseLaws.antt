-- Which heads and kinds a match that failed leaves, and that a level which isn't closed ends as an element's fields do.
use Rattle.std.proofs.Common.{◌≡◌, ℕ, List, [], ◌∷◌, refl}
use types.Run.{OneOf, miss}
use denote.Enum.Declared.{tag_of}
use Rattle.framing.specs.Walk.{Sink}
use Rattle.steps.specs.Gives.{fields_stop, level_stop}
use Rattle.steps.specs.declared.Head.{Head}
use Rattle.steps.specs.declared.Head.TheVariants as head
use Rattle.steps.specs.declared.Kind.{Kind}
use Rattle.steps.specs.declared.Kind.TheVariants as kind
use Rattle.steps.specs.contracts.Head as HeadType
use Rattle.steps.specs.contracts.Kind as KindType

abbrev pub NotGo : Head → Type 0
NotGo head.Ended = Unit
NotGo head.Failed = Unit
NotGo (head.Closed n) = Unit
NotGo (head.Limit n) = Unit
NotGo (head.Go v a b) = ⊥

abbrev pub NotClosed : Head → Type 0
NotClosed head.Ended = Unit
NotClosed head.Failed = Unit
NotClosed (head.Closed n) = ⊥
NotClosed (head.Limit n) = Unit
NotClosed (head.Go v a b) = Unit

abbrev pub NotArray : Kind → Type 0
NotArray kind.Object = Unit
NotArray kind.Nothing = Unit
NotArray (kind.Leaf x) = Unit
NotArray (kind.Deep x) = Unit
NotArray (kind.Array lower x) = ⊥

pub not_go : (h : Head) → OneOf (0 ∷ 1 ∷ 2 ∷ 3 ∷ []) (tag_of HeadType.the_type h) → NotGo h
not_go head.Ended o = tt
not_go head.Failed o = tt
not_go (head.Closed n) o = tt
not_go (head.Limit n) o = tt
not_go (head.Go v a b) o = miss (0 ∷ 1 ∷ 2 ∷ 3 ∷ []) 4 tt o

pub not_closed : (h : Head) → OneOf (0 ∷ 1 ∷ 3 ∷ 4 ∷ []) (tag_of HeadType.the_type h) → NotClosed h
not_closed head.Ended o = tt
not_closed head.Failed o = tt
not_closed (head.Closed n) o = miss (0 ∷ 1 ∷ 3 ∷ 4 ∷ []) 2 tt o
not_closed (head.Limit n) o = tt
not_closed (head.Go v a b) o = tt

pub not_array : (k : Kind) → OneOf (0 ∷ 1 ∷ 2 ∷ 3 ∷ []) (tag_of KindType.the_type k) → NotArray k
not_array kind.Object o = tt
not_array kind.Nothing o = tt
not_array (kind.Leaf x) o = tt
not_array (kind.Deep x) o = tt
not_array (kind.Array lower x) o = miss (0 ∷ 1 ∷ 2 ∷ 3 ∷ []) 4 tt o

pub fields_stop_lem : (e : Sink) (bytes : List ℕ) (base end : ℕ) (path : List ℕ) (h : Head) → NotClosed h → level_stop e bytes base end path h ≡ fields_stop e bytes base end path h
unfolding level_stop fields_stop
fields_stop_lem e bytes base end path head.Ended n = refl
fields_stop_lem e bytes base end path head.Failed n = refl
fields_stop_lem e bytes base end path (head.Closed q) n = absurd n
fields_stop_lem e bytes base end path (head.Limit q) n = refl
fields_stop_lem e bytes base end path (head.Go v q r) n = refl
