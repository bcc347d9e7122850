-- What stands at a position of a window, as the code says it.
use Rattle.std.specs.Prelude.{ℕ, zero, suc, ◌+◌, ◌*◌, leb, ◌==◌, nat_eq, nat_le, nat_lt, Bool, if◌then◌else◌, Option, Some, None}
use Rattle.bits.specs.Sizes.{max_elements}
use Rattle.bits.specs.Padded.{padded, once}
use Rattle.framing.specs.Windows.{Window, Reading, got, failed, reading}
use Rattle.framing.specs.Walk.{Lead, ends, fails, closes, opens, lead, Due, cut, broken, closed, present, field_at}
use Rattle.steps.specs.declared.NumberRead.{NumberRead}
use Rattle.steps.specs.declared.Head.{Head}
use Rattle.steps.specs.declared.Head.TheVariants as head

-- a number that was read: its value, the bit behind it, and whether it is padded
abbrev pub number_read : (v q : ℕ) (padded : Bool) → Option NumberRead
number_read v q x = Some (record { value = v; next = q; padded = x })

-- the number read at bit p
abbrev pub number_of : (p : ℕ) → Reading → Option NumberRead
number_of p failed = None
number_of p (got v n) = number_read v (p + 8 * n) (padded v n)

-- a level's count
abbrev pub count_head : Option NumberRead → Head
count_head None = head.Failed
count_head (Some count) = if nat_lt max_elements count.value then head.Limit count.next else head.Go count.value count.next count.next

unfoldable pub level_head_lem : Window → (p : ℕ) → Head
level_head_lem w p = count_head (number_of p (reading w p))

-- an element's index, of an array of `count`, with `left` more allowed
abbrev pub index_head : (count left p : ℕ) → Lead → Head
index_head count left p ends = head.Ended
index_head count left p fails = head.Failed
index_head count left p (closes e q) = head.Closed q
index_head count left p (opens e i q) = if left == 0 then head.Limit p else (if leb count i then head.Failed else head.Go i q q)

unfoldable pub element_head_lem : Window → (count left p : ℕ) → Head
element_head_lem w count left p = index_head count left p (lead w p)

-- a field; past the last that is allowed, a zero or the tail
abbrev pub last_head : (p : ℕ) → Lead → Head
last_head p ends = head.Ended
last_head p fails = head.Failed
last_head p (closes e q) = head.Closed q
last_head p (opens e h q) = head.Limit p

abbrev pub due_head : Due → Head
due_head cut = head.Ended
due_head (broken ns) = head.Failed
due_head (closed e q) = head.Closed q
due_head (present ns h q k) = head.Go h q (q + k)

unfoldable pub field_head_lem : Window → (left p : ℕ) → Head
field_head_lem w zero p = last_head p (lead w p)
field_head_lem w (suc left) p = due_head (field_at w p)

-- a field whose handle is known, its width's number due at bit p
abbrev pub sized_head : Window → (handle : ℕ) → Option NumberRead → Head
sized_head w h None = head.Failed
sized_head w h (Some width) =
    if nat_lt w.size (width.next + width.value) then head.Failed else head.Go h width.next (width.next + width.value)

unfoldable pub width_head_lem : Window → (handle p : ℕ) → Head
width_head_lem w h p = sized_head w h (number_of p (reading w p))

-- the same head of a window that starts b bits into another
abbrev pub shifted : (b : ℕ) → Head → Head
shifted b head.Ended = head.Ended
shifted b head.Failed = head.Failed
shifted b (head.Closed q) = head.Closed (b + q)
shifted b (head.Limit q) = head.Limit (b + q)
shifted b (head.Go v q r) = head.Go v (b + q) (b + r)

-- ---- the padded numbers among those that a head takes

abbrev pub pad_of : Reading → ℕ
pad_of failed = 0
pad_of (got v n) = once (padded v n)

-- the number at bit p, if one can be read: a count, a width or an object's
unfoldable pub number_pads : Window → (p : ℕ) → ℕ
number_pads w p = pad_of (reading w p)

-- an index number: none at the window's end, nor one that is put back since no more are allowed
abbrev pub index_pads : (left : ℕ) → Reading → ℕ
index_pads left failed = 0
index_pads left (got v n) = if v == 0 then once (padded v n) else (if nat_eq left 0 then 0 else once (padded v n))

unfoldable pub element_pads : Window → (left p : ℕ) → ℕ
element_pads w left p = if nat_le w.size p then 0 else index_pads left (reading w p)

-- a handle's number, with the same exceptions, and behind one that opens a field its width's
abbrev pub handle_pads : Window → (left p : ℕ) → Reading → ℕ
handle_pads w left p failed = 0
handle_pads w left p (got v n) =
    if v == 0 then once (padded v n) else (if nat_eq left 0 then 0 else once (padded v n) + number_pads w (p + 8 * n))

unfoldable pub field_pads : Window → (left p : ℕ) → ℕ
field_pads w left p = if nat_le w.size p then 0 else handle_pads w left p (reading w p)
