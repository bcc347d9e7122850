-- What the three functions of the cycle leave: the world that the walk's definition comes to, and the working path as it was.
use Rattle.std.specs.Prelude.{ℕ, ◌+◌, ◌-◌, ◌≤◌, ◌≡◌, Bool, true, List, Option, Some, None}
use Rattle.bits.specs.Sizes.{max_fields, longest_path}
use Rattle.schema.specs.Tables.{Tables}
use Rattle.schema.specs.Labels.{LabelsLie}
use Rattle.framing.specs.Windows.{Window}
use Rattle.framing.specs.Walk as W
use Rattle.framing.specs.Walk.{Run, done, stopped, fields, level}
use Rattle.outputs.specs.World.{World}
use Rattle.steps.specs.Tally.{played}
use Rattle.steps.specs.Lent.{tables_of}
use Rattle.steps.specs.Views.{inner, sink_for}
use Rattle.framing.specs.declared.Walk.{Walk}
use Rattle.steps.specs.declared.pieces.Piece.{Piece}
use Rattle.steps.specs.declared.tables.Spot.{Spot}

-- where a walk stands: what does not change while it walks a level
pub record Place : Type 0 where
  pub walk : Walk
  pub tables : Tables
  pub below : ℕ
  pub level : ℕ
  pub bytes : List ℕ
  pub base : ℕ  -- the bit of the root window at which the bytes start
  pub end : ℕ
  pub path : List ℕ

abbrev pub place : Walk → Tables → (below level : ℕ) (bytes : List ℕ) (base end : ℕ) (path : List ℕ) → Place
place walk tables below level bytes base end path =
    record { walk = walk; tables = tables; below = below; level = level; bytes = bytes; base = base; end = end; path = path }

-- at this spot, in this piece
abbrev pub place_of : Spot → Piece → (path : List ℕ) → Place
place_of s p path = place s.walk (tables_of s.tables.now) s.below s.level p.bytes.now p.base p.end path

-- the definition's sink there
abbrev pub sink_at : Place → (inside : Bool) → W.Sink
sink_at q inside = sink_for q.walk q.tables q.below inside q.level

-- the definition's window, if it starts at bit b of the bytes
abbrev pub window_at : Place → (b : ℕ) → Window
window_at q b = inner q.bytes q.base b q.end

-- What the code asks: the piece has the bit `start`, what may still be added to the path has room behind it, and every label lies in its pool.
pub record Ready (s : Spot) (p : Piece) (start plen adds : ℕ) : Type 0 where
  pub lies : start ≤ p.end
  pub path : plen + adds ≤ longest_path
  pub labels : LabelsLie (tables_of s.tables.now)

-- a level: the world x became y, and the path the walk stands at is still `path`
pub record LevelWalked (q : Place) (inside : Bool) (start : ℕ) (x y : World) (path : List ℕ) : Type 0 where
  pub out : y ≡ played (level (sink_at q inside) (window_at q start) q.path) x
  pub kept : path ≡ q.path

-- what an element's fields leave: the world, and whether they closed, with the position as a bit of the bytes
pub record Done : Type 0 where
  pub world : World
  pub after : Option ℕ

abbrev pub finished : (b : ℕ) → Run → World → Done
finished b (done t q) x = record { world = played t x; after = Some (b + q) }
finished b (stopped t) x = record { world = played t x; after = None }

-- an element's fields, the first due at bit `start` of the bytes; the window may start at any bit b before it
pub record FieldsWalked (q : Place) (index start : ℕ) (x y : World) (r : Option ℕ) (path : List ℕ) : Type 0 where
  pub out : (b : ℕ) (inside : Bool) → b ≤ start
      → record { world = y; after = r } ≡ finished b (fields (sink_at q inside) (window_at q b) index q.path max_fields (start - b) true) x
  pub kept : path ≡ q.path

-- a field, from bit `start` to the place's end
pub record FieldWalked (q : Place) (index : ℕ) (first : Bool) (handle start : ℕ) (x y : World) (path : List ℕ) : Type 0 where
  pub out : (inside : Bool) → y ≡ played ((sink_at q inside).field index q.path first handle (window_at q start)) x
  pub kept : path ≡ q.path
