-- The three walks (array.rs; 01, Walking an array, rules 6, 8 and 9).
use Rattle.std.specs.Prelude.{ℕ, zero, suc, ◌*◌, ◌≡◌, Bool, true, false, ◌&&◌, List, [], ◌∷◌, length, ltb, eqb, if◌then◌else◌, Option, Some, None}
use Rattle.bits.specs.Sizes.{levels_below}
use Rattle.schema.specs.Tables.{Tables, tables, no_tables, absent, child}
use Rattle.framing.specs.declared.Walk.{Walk}
use Rattle.framing.specs.declared.Walk.TheVariants as how
use Rattle.framing.specs.Windows.{Window, window_of, Reading, got, failed, reading}
use Rattle.framing.specs.Events as Ev
use Rattle.framing.specs.Events.{Entered, Event, number, array, leaf, pair, truncation, error, nested, root, Trace}
use Rattle.framing.specs.Paths.{leaf_path, array_path}
use Rattle.framing.specs.Walk.{Sink, number_at, level}

-- ---- what the walks differ in

-- the walks that give leaves; the other gives pairs
abbrev pub gives_leaves_lem : Walk → Bool
gives_leaves_lem how.Struct = true
gives_leaves_lem how.Exact = true
gives_leaves_lem how.Object = false

-- the walks that take a trailer
abbrev pub takes_trailer_lem : Walk → Bool
takes_trailer_lem how.Struct = true
takes_trailer_lem how.Exact = false
takes_trailer_lem how.Object = true

-- ---- the struct walk

-- a payload as a leaf
abbrev pub leaf_of : (path : List ℕ) (handle : ℕ) → Window → Ev.Leaf
leaf_of path handle w = record { path = path; handle = handle; start = w.origin; width = w.size; payload = w.bits }

-- Rule 6. A field that is no array is a leaf, also with no payload. An array with no payload gives nothing; with one, `inside` walks it, given
-- the level of its elements and its path.
abbrev pub on_child : Tables → (lvl : ℕ) → (inside : (below : ℕ) (path : List ℕ) (handle : ℕ) → Window → Trace)
    → (path : List ℕ) (handle : ℕ) → Window → Option ℕ → Trace
on_child t lvl inside path handle w None = leaf (leaf_of (leaf_path t lvl path handle) handle w) ∷ []
on_child t lvl inside path handle w (Some below) =
    if eqb w.size 0 then [] else inside below (array_path t lvl path handle) handle w

abbrev pub struct_sink_over : (inside : ℕ → List ℕ → ℕ → Window → Trace) → Tables → (trailer : Bool) (leftover : ℕ → Event) (lvl : ℕ) → Sink
struct_sink_over inside t trailer leftover lvl =
    record {
      trailer = trailer;
      flattens = true;
      leftover = leftover;
      field = λ i path first handle w. on_child t lvl inside path handle w (child t.rows lvl handle);
    }

-- below the last level an array counts as a truncation and is given whole, as a leaf
abbrev pub too_deep : (below : ℕ) (path : List ℕ) (handle : ℕ) → Window → Trace
too_deep below path handle w = truncation ∷ leaf (leaf_of path handle w) ∷ []

-- a payload as an array that is entered
abbrev pub entered_at : (path : List ℕ) → Window → Entered
entered_at path w = record { path = path; start = w.origin; width = w.size }

-- deeper: how many levels may stand below this one. What a child leaves is nested unconsumed bits.
unfoldable pub struct_sink : (deeper : ℕ) → Tables → (trailer : Bool) (leftover : ℕ → Event) (lvl : ℕ) → Sink
struct_sink zero t trailer leftover lvl = struct_sink_over too_deep t trailer leftover lvl
struct_sink (suc deeper) t trailer leftover lvl =
    struct_sink_over (λ below path handle w. array (entered_at path w) ∷ level (struct_sink deeper t trailer nested below) w path) t trailer leftover lvl

-- ---- the object walk

-- Rule 8: the first field with a payload names the object, by one packed number and nothing behind it. Its pair stands here at the field that
-- gives it; 01 gives it behind the element's fields. specs/PairsBehind has that walk too, and no answer tells the two apart (proofs/PairOrder).
abbrev pub guid_of : (index : ℕ) → Window → Reading → Trace
guid_of index w failed = error ∷ []
guid_of index w (got v b) =
    if eqb (8 * b) w.size then number (number_at w 0 b v) ∷ pair (record { index = index; guid = v }) ∷ [] else
    number (number_at w 0 b v) ∷ error ∷ []

-- an empty field gives nothing; one behind the first non-empty one is stepped past
abbrev pub object_field_lem : (index : ℕ) (first : Bool) → Window → Trace
object_field_lem index first w =
    if eqb w.size 0 then [] else (if first then guid_of index w (reading w 0) else nested w.size ∷ [])

abbrev pub object_sink_over : (leftover : ℕ → Event) → Sink
object_sink_over leftover =
    record {
      trailer = takes_trailer_lem how.Object;
      flattens = gives_leaves_lem how.Object;
      leftover = leftover;
      field = λ i path first handle w. object_field_lem i first w;
    }

unfoldable pub object_sink : Sink
object_sink = object_sink_over root

-- ---- the three walks of a window

-- Which walk, over which tables, and the level of the root's elements. The public calls have the three forms below; laws hold of any tables. The
-- object walk looks at none.
pub data Walker : Type 0 where
  walker : Walk → Tables → (rootLevel : ℕ) → Walker

-- the exact walk has no schema, the object walk no tables
abbrev pub declared_only : (declared declared_names_lem : List ℕ) → Tables
declared_only d n = tables [] [] d n

abbrev pub struct : Tables → (rootLevel : ℕ) → Walker
struct t lvl = walker how.Struct t lvl

abbrev pub exact : (declared declared_names_lem : List ℕ) → Walker
exact d n = walker how.Exact (declared_only d n) absent

abbrev pub object : Walker
object = walker how.Object no_tables absent

-- the struct and the exact walks
abbrev pub Leafy : Walker → Type 0
Leafy (walker s t lvl) = gives_leaves_lem s ≡ true

unfoldable pub sink_of : Walker → Sink
sink_of (walker s t lvl) = if gives_leaves_lem s then struct_sink levels_below t (takes_trailer_lem s) root lvl else object_sink

-- Rule 9: a struct or exact walk of no bits counts nothing
abbrev pub silent : Walker → (bits : ℕ) → Bool
silent (walker s t lvl) n = gives_leaves_lem s && eqb n 0

unfoldable pub walk_window : Walker → Window → Trace
walk_window k w = if silent k w.size then [] else level (sink_of k) w []

-- the first n bits of some bytes; where the bytes hold fewer, one error (01, Refusal numbers: no walk gives 14)
unfoldable pub walk : Walker → (bytes : List ℕ) (n : ℕ) → Trace
walk k bytes n =
    if silent k n then [] else (if ltb (8 * length bytes) n then error ∷ [] else walk_window k (window_of bytes n))
