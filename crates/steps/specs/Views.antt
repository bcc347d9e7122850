-- Where the code stands in a walk: positions are bits of the bytes, and a window is the bits from `from` to before `end`.
use Rattle.std.specs.Prelude.{ℕ, ◌+◌, ◌-◌, ◌≤◌, Bool, List, [], if◌then◌else◌}
use Rattle.bits.specs.Bits.{num, field}
use Rattle.schema.specs.Tables.{Tables}
use Rattle.framing.specs.Windows.{Window}
use Rattle.framing.specs.Events.{Event, nested, root}
use Rattle.framing.specs.Walk as W
use Rattle.framing.specs.Sinks.{struct_sink, object_sink_over, gives_leaves_lem, takes_trailer_lem}
use Rattle.framing.specs.declared.Walk.{Walk}
use Rattle.steps.specs.declared.Head.{Head}
use Rattle.steps.specs.declared.pieces.Piece.{Piece}
use Rattle.steps.specs.declared.Head.TheVariants as head

-- the bits from `from` to before `end`, of bytes that start at bit `base` of the root window
unfoldable pub inner : (bytes : List ℕ) (base from end : ℕ) → Window
inner bytes base «from» end = record { bits = field (num bytes) «from» (end - «from»); size = end - «from»; origin = base + «from» }

-- a piece's bits from `start` on
abbrev pub inner_of : Piece → (start : ℕ) → Window
inner_of p start = inner p.bytes.now p.base start p.end

-- all bits before `end`: its positions are the code's
unfoldable pub up_to : (bytes : List ℕ) (end : ℕ) → Window
up_to bytes end = record { bits = num bytes; size = end; origin = 0 }

-- all bits of a piece
abbrev pub all_of : Piece → Window
all_of p = up_to p.bytes.now p.end

-- ---- what a walk of the code stands for

-- what is left behind a terminator: inside another array nested bits, else root bits
abbrev pub leftover_of : (inside : Bool) → ℕ → Event
leftover_of inside = if inside then nested else root

unfoldable pub sink_for : Walk → Tables → (below : ℕ) (inside : Bool) (level : ℕ) → W.Sink
sink_for s t below inside level =
    if gives_leaves_lem s then struct_sink below t (takes_trailer_lem s) (leftover_of inside) level else object_sink_over (leftover_of inside)

-- the ways out of a level don't depend on its fields
abbrev pub exit_sink : Walk → (inside : Bool) → W.Sink
exit_sink s inside =
    record { trailer = takes_trailer_lem s; flattens = gives_leaves_lem s; leftover = leftover_of inside; field = λ i path first handle w. [] }

-- the position of a head that ends a level or an element is no later than the end
abbrev pub HeadIn : (end : ℕ) → Head → Type 0
HeadIn end head.Ended = Unit
HeadIn end head.Failed = Unit
HeadIn end (head.Closed n) = n ≤ end
HeadIn end (head.Limit n) = n ≤ end
HeadIn end (head.Go v a b) = Unit
