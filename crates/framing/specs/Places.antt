-- Where in the root window the leaves of a struct or exact walk lie, and the arrays that it enters (request 02). A start in a child, too, is a bit of
-- the root window.
use Rattle.std.specs.Prelude.{ℕ, suc, ◌+◌, ◌*◌, ◌≤◌, ◌<◌, ◌≡◌, List, [], ◌∷◌, ◌++◌}
use Rattle.bits.specs.Members.{All, Any}
use Rattle.bits.specs.Packed.{Number}
use Rattle.bits.specs.Sizes.{max_elements}
use Rattle.schema.specs.Labels.{at_index, dot, raw_label}
use Rattle.framing.specs.Windows.{Window, got, reading}
use Rattle.framing.specs.Events.{Leaf, Entered, raw_handle, Event, number, element, array, leaf, pair, truncation, error, implicit, nested, root, leaves, taken, arrays, Trace}

-- the root window of n bits, as the array that it is
abbrev pub root_array : (n : ℕ) → Entered
root_array n = record { path = []; start = 0; width = n }

-- ---- the bits that a trace speaks of

-- bits of the root window: the first of them, and how many
pub record Range : Type 0 where
  pub start : ℕ
  pub width : ℕ

abbrev pub range : (start width : ℕ) → Range
range start width = record { start = start; width = width }

-- of every number that was taken, every leaf and every array that was entered, in the order of the trace; no other event says where it lies
abbrev pub ranges : Trace → List Range
ranges [] = []
ranges (number x ∷ t) = range x.start (8 * x.bytes) ∷ ranges t
ranges (leaf x ∷ t) = range x.start x.width ∷ ranges t
ranges (array a ∷ t) = range a.start a.width ∷ ranges t
ranges (element p ∷ t) = ranges t
ranges (pair x ∷ t) = ranges t
ranges (truncation ∷ t) = ranges t
ranges (error ∷ t) = ranges t
ranges (implicit ∷ t) = ranges t
ranges (nested n ∷ t) = ranges t
ranges (root n ∷ t) = ranges t

-- the bits lie from bit p on, up to bit q
pub record Between (p q : ℕ) (r : Range) : Type 0 where
  pub starts : p ≤ r.start
  pub ends : r.start + r.width ≤ q

-- they lie in the array
abbrev pub Within : Entered → Range → Type 0
Within a = Between a.start (a.start + a.width)

-- Reading has come from bit p to bit q: all that the trace speaks of lies there, and something in it ends right at q.
pub record ReadUpTo (p q : ℕ) (t : Trace) : Type 0 where
  pub inside : All (Between p q) (ranges t)
  pub reached : Any (λ r. r.start + r.width ≡ q) (ranges t)

-- ---- a field's payload

-- In the trace t the event e is the payload of a field with this handle: `width` bits from bit `start` on, or none. The last two numbers before e are
-- the handle's, which says one more, and the width's; and the three follow one another without a gap. An array too deep has its truncation between.
pub record FieldIn (t : Trace) (e : Event) (handle start width : ℕ) : Type 0 where
  pub before : Trace
  pub handled : Number
  pub wide : Number
  pub between : Trace
  pub after : Trace
  pub whole : t ≡ before ++ (number handled ∷ number wide ∷ between ++ (e ∷ after))
  pub nothing_between : ranges between ≡ []
  pub says_handle : handled.value ≡ suc handle
  pub says_width : wide.value ≡ width
  pub behind_handle : wide.start ≡ handled.start + 8 * handled.bytes
  pub behind_width : start ≡ wide.start + 8 * wide.bytes

-- ---- a kept tail

-- In a walk of the array `whole` that gave the trace t, u is what was given since the array a was entered: all of t, or what stands behind the event a.
pub data Since (whole : Entered) (t : Trace) : (a : Entered) (u : Trace) → Type 0 where
  whole_walk : {u : Trace} → t ≡ u → Since whole t whole u
  entered : (before : Trace) {u : Trace} {a : Entered} → t ≡ before ++ (array a ∷ u) → Since whole t a u

-- what a tail of the array with this path is kept under, where t was given since it was entered: the array's own path, or that of an element in t
pub data KeptUnder (path : List ℕ) (t : Trace) : (under : List ℕ) → Type 0 where
  array_itself : KeptUnder path t path
  in_element : {i : ℕ} → i < max_elements → Any (λ e. e ≡ element (at_index path i)) t → KeptUnder path t (at_index path i)

-- The leaf is a tail of the array `of` that was being walked: it starts where reading stopped, and ends where the array ends. Its name is `_raw`.
pub record TailIn (whole : Entered) (t : Trace) (x : Leaf) : Type 0 where
  pub of : Entered
  pub read : Trace
  pub after : Trace
  pub since : Since whole t of (read ++ (leaf x ∷ after))
  pub starts : ReadUpTo of.start x.start read
  pub ends : x.start + x.width ≡ of.start + of.width
  pub some : 0 < x.width
  pub under : List ℕ
  pub kept_under : KeptUnder of.path read under
  pub named : x.path ≡ dot under raw_label

-- ---- in a walk of the array `whole` that gave the trace t

-- every leaf is a kept tail or the payload of a field; a kept tail has a handle that no field has
pub record LeafPlaced (whole : Entered) (t : Trace) (x : Leaf) : Type 0 where
  pub tail : x.handle ≡ raw_handle → TailIn whole t x
  pub field : (x.handle ≡ raw_handle → ⊥) → FieldIn t (leaf x) x.handle x.start x.width

-- an array that was entered is the payload of a field, and has bits
pub record ArrayPlaced (t : Trace) (a : Entered) : Type 0 where
  pub handle : ℕ
  pub field : FieldIn t (array a) handle a.start a.width
  pub some : 0 < a.width

-- ---- in a walk of the root window w that gave the trace t

-- the number is the one that stands at its first bit
abbrev pub NumberIn : Window → Number → Type 0
NumberIn w x = reading w x.start ≡ got x.value x.bytes

-- every number that was taken stands in the window; all that the trace speaks of lies in it; and each leaf and array lies where it is said to
pub record Placed (w : Window) (t : Trace) : Type 0 where
  pub numbers : All (NumberIn w) (taken t)
  pub inside : All (Within (root_array w.size)) (ranges t)
  pub leaves : All (LeafPlaced (root_array w.size) t) (leaves t)
  pub arrays : All (ArrayPlaced t) (arrays t)
