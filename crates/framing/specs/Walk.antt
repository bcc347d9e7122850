-- Walking an array level (array.rs; 01, Walking an array). The framing is stated once, for struct, exact and object walks: they differ in their
-- Sink. The rules are numbered as in 01.
use Rattle.std.specs.Prelude.{ℕ, zero, suc, ◌+◌, ◌-◌, ◌*◌, Bool, true, ◌&&◌, List, [], ◌∷◌, ◌++◌, leb, ltb, eqb, if◌then◌else◌}
use Rattle.bits.specs.Bits.{field}
use Rattle.bits.specs.Packed.{Number}
use Rattle.bits.specs.Sizes.{max_elements, max_fields, trailer_bits}
use Rattle.schema.specs.Labels.{at_index, dot, raw_label}
use Rattle.framing.specs.Windows.{Window, part, Reading, got, failed, reading}
use Rattle.framing.specs.Events.{Leaf, raw_handle, numbers, Event, number, element, leaf, truncation, error, implicit, Trace}

-- What the walks differ in.
pub record Sink : Type 0 where
  pub trailer : Bool  -- takes the optional trailer behind an index terminator
  pub flattens : Bool  -- gives leaves with paths, and keeps a tail as one; else skips it
  pub leftover : ℕ → Event  -- what bits left behind the terminator count as
  -- a field of the element `index`, whose path it gets; first: no field before it had a payload
  pub field : (index : ℕ) (path : List ℕ) (first : Bool) (handle : ℕ) → Window → Trace

-- ---- what is due at a bit

abbrev pub number_at : Window → (p bytes value : ℕ) → Number
number_at w p b v = record { start = w.origin + p; bytes = b; value = v }

-- Where an index number or a handle number is due: the window's end; a number that can't be read; zero; or one more than n.
-- `next` is the bit behind the number.
pub data Lead : Type 0 where
  ends : Lead
  fails : Lead
  closes : Number → (next : ℕ) → Lead
  opens : Number → (n next : ℕ) → Lead

abbrev pub lead_of : Window → (p : ℕ) → Reading → Lead
lead_of w p failed = fails
lead_of w p (got v b) = if eqb v 0 then closes (number_at w p b v) (p + 8 * b) else opens (number_at w p b v) (v - 1) (p + 8 * b)

unfoldable pub lead : Window → (p : ℕ) → Lead
lead w p = if leb w.size p then ends else lead_of w p (reading w p)

-- Where a field is due: as above, and for a field its numbers, handle, payload start and payload width.
-- `broken`: a number failed or the payload passes the window; with the numbers that were read.
pub data Due : Type 0 where
  cut : Due
  broken : List Number → Due
  closed : Number → (next : ℕ) → Due
  present : List Number → (handle start width : ℕ) → Due

abbrev pub with_width : Window → Number → (handle q : ℕ) → Reading → Due
with_width w e h q failed = broken (e ∷ [])
with_width w e h q (got width b) =
    if ltb w.size (q + 8 * b + width) then broken (e ∷ number_at w q b width ∷ []) else
    present (e ∷ number_at w q b width ∷ []) h (q + 8 * b) width

abbrev pub field_of : Window → Lead → Due
field_of w ends = cut
field_of w fails = broken []
field_of w (closes e q) = closed e q
field_of w (opens e h q) = with_width w e h q (reading w q)

unfoldable pub field_at : Window → (p : ℕ) → Due
field_at w p = field_of w (lead w p)

-- ---- rule 7: a kept tail

-- the rest of the window from bit p on, as a leaf `._raw`
abbrev pub raw_leaf : Window → (path : List ℕ) → (p : ℕ) → Leaf
raw_leaf w path p =
    record { path = dot path raw_label; handle = raw_handle; start = w.origin + p; width = w.size - p; payload = field w.bits p (w.size - p) }

-- it is kept if bits remain; a sink without leaves skips it
unfoldable pub tail : Sink → Window → (path : List ℕ) → (p : ℕ) → Trace
tail s w path p = if s.flattens && ltb p w.size then leaf (raw_leaf w path p) ∷ [] else []

-- ---- rule 5: an element's fields

-- what they gave, and the bit behind the zero handle, if the element closed
pub data Run : Type 0 where
  done : Trace → (next : ℕ) → Run
  stopped : Trace → Run

abbrev pub prepend : Trace → Run → Run
prepend t (done u q) = done (t ++ u) q
prepend t (stopped u) = stopped (t ++ u)

-- one field; `more` walks on behind it
abbrev pub on_field : Sink → Window → (index : ℕ) (path : List ℕ) (first : Bool) → (ℕ → Bool → Run) → Due → Run
on_field s w i path first more cut = stopped (implicit ∷ [])
on_field s w i path first more (broken t) = stopped (numbers t ++ (error ∷ []))
on_field s w i path first more (closed e q) = done (number e ∷ []) q
on_field s w i path first more (present t h q width) =
    prepend (numbers t ++ s.field i path first h (part w q width)) (more (q + width) (first && eqb width 0))

-- Behind as many fields as are allowed only a zero is welcome; any other number is left where it is and begins the tail.
abbrev pub on_last_field : Sink → Window → (path : List ℕ) → (p : ℕ) → Lead → Run
on_last_field s w path p ends = stopped (implicit ∷ [])
on_last_field s w path p fails = stopped (error ∷ [])
on_last_field s w path p (closes e q) = done (number e ∷ []) q
on_last_field s w path p (opens e h q) = stopped (truncation ∷ tail s w path p)

-- `left` more fields are allowed; the next is due at bit p
unfoldable pub fields : Sink → Window → (index : ℕ) (path : List ℕ) (left p : ℕ) (first : Bool) → Run
fields s w i path zero p first = on_last_field s w path p (lead w p)
fields s w i path (suc left) p first = on_field s w i path first (λ q f. fields s w i path left q f) (field_at w p)

-- ---- rule 3: behind the index terminator

-- with exactly the trailer's bits left these are read: zero goes with the array, anything else is left over, and nothing readable is an error
abbrev pub trailer_of : Sink → Window → (p : ℕ) → Reading → Trace
trailer_of s w p failed = error ∷ []
trailer_of s w p (got v b) =
    if eqb v 0 then number (number_at w p b v) ∷ s.leftover 0 ∷ [] else s.leftover trailer_bits ∷ []

unfoldable pub closing : Sink → Window → (p : ℕ) → Trace
closing s w p =
    if s.trailer && eqb (w.size - p) trailer_bits then trailer_of s w p (reading w p) else s.leftover (w.size - p) ∷ []

-- ---- rules 2, 3 and 4: elements

-- the path in element i; an object walk has no paths
unfoldable pub in_item : Sink → (path : List ℕ) (i : ℕ) → List ℕ
in_item s path i = if s.flattens then at_index path i else path

-- behind an element: the next one, if it closed; else the rest is skipped
abbrev pub behind : (ℕ → Trace) → Run → Trace
behind more (done t q) = t ++ more q
behind more (stopped t) = t

-- an index is not below the count
abbrev pub beyond : (count index : ℕ) → Bool
beyond count i = leb count i

-- one element, or the array's end; `more` walks on behind it
abbrev pub on_index : Sink → Window → (path : List ℕ) (count : ℕ) → (ℕ → Trace) → Lead → Trace
on_index s w path count more ends = implicit ∷ []
on_index s w path count more fails = error ∷ []
on_index s w path count more (closes e q) = number e ∷ closing s w q
on_index s w path count more (opens e i q) =
    if beyond count i then number e ∷ error ∷ [] else
    number e ∷ element (in_item s path i) ∷ behind more (fields s w i (in_item s path i) max_fields q true)

-- The same behind as many elements as are allowed.
abbrev pub on_last_index : Sink → Window → (path : List ℕ) → (p : ℕ) → Lead → Trace
on_last_index s w path p ends = implicit ∷ []
on_last_index s w path p fails = error ∷ []
on_last_index s w path p (closes e q) = number e ∷ closing s w q
on_last_index s w path p (opens e i q) = truncation ∷ tail s w path p

-- `left` more elements are allowed; the next index number is due at bit p
unfoldable pub elements : Sink → Window → (path : List ℕ) (count left p : ℕ) → Trace
elements s w path count zero p = on_last_index s w path p (lead w p)
elements s w path count (suc left) p = on_index s w path count (λ q. elements s w path count left q) (lead w p)

-- ---- rule 1: one array level, the count and then its elements

-- a level has at most so many elements
abbrev pub too_many : (count : ℕ) → Bool
too_many count = ltb max_elements count

abbrev pub on_count : Sink → Window → (path : List ℕ) → Reading → Trace
on_count s w path failed = error ∷ []
on_count s w path (got count b) =
    if too_many count then number (number_at w 0 b count) ∷ truncation ∷ tail s w path (8 * b) else
    number (number_at w 0 b count) ∷ elements s w path count max_elements (8 * b)

unfoldable pub level : Sink → Window → (path : List ℕ) → Trace
level s w path = on_count s w path (reading w 0)
