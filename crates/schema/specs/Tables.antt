-- Schema and declared tables, and what they say of a handle (01, Tables and outputs; schema.rs).
use Rattle.std.specs.Prelude.{ℕ, zero, suc, ◌+◌, ◌-◌, ◌*◌, ◌/◌, min, Bool, ◌&&◌, Option, Some, None, List, [], length, get_or, ltb, eqb, if◌then◌else◌}
use Rattle.schema.specs.declared.NameAt.{NameAt}
use Rattle.schema.specs.declared.Span.{Span}

pub record Tables : Type 0 where
  pub rows : List ℕ  -- schema rows of five numbers: level, kind, handle, a, b
  pub names : List ℕ  -- the schema's name pool
  pub declared : List ℕ  -- for each handle the start and the length of its declared name
  pub declared_names_lem : List ℕ  -- the declared name pool

-- tables by their parts
abbrev pub tables : (rows names declared declared_names_lem : List ℕ) → Tables
tables rows names declared declared_names_lem = record { rows = rows; names = names; declared = declared; declared_names_lem = declared_names_lem }

abbrev pub no_tables : Tables
no_tables = tables [] [] [] []

-- look-ups of labels need no pool
abbrev pub look_ups : (rows declared : List ℕ) → Tables
look_ups rows declared = tables rows [] declared []

-- the root level that means no schema, and the start that means no declared name: what is absent
abbrev pub absent : ℕ
absent = 4294967295

abbrev pub row_size : ℕ
row_size = 5

-- kind 0: an array, of level a; kind 1: a name, at a, of b bytes
abbrev pub array_kind : ℕ
array_kind = 0

abbrev pub name_kind : ℕ
name_kind = 1

-- number j of row i
unfoldable pub cell : (rows : List ℕ) (i j : ℕ) → ℕ
cell rows i j = get_or rows (row_size * i + j) 0

-- whether row i is of this level, kind and handle
unfoldable pub row_matches_lem : (rows : List ℕ) (level kind handle i : ℕ) → Bool
row_matches_lem rows level kind handle i = eqb (cell rows i 0) level && eqb (cell rows i 1) kind && eqb (cell rows i 2) handle

-- the first of the `left` rows from i on that matches
unfoldable pub first_row_lem : (left : ℕ) (rows : List ℕ) (level kind handle i : ℕ) → Option ℕ
first_row_lem zero rows level kind handle i = None
first_row_lem (suc left) rows level kind handle i =
    if row_matches_lem rows level kind handle i then Some i else first_row_lem left rows level kind handle (i + 1)

abbrev pub row_count : List ℕ → ℕ
row_count rows = length rows / row_size

-- the first that matches of the rows of a span, and of the whole table
unfoldable pub row_in : (rows : List ℕ) → Span → (level kind handle : ℕ) → Option ℕ
row_in rows s level kind handle = first_row_lem (min s.last (row_count rows) - s.first) rows level kind handle s.first

unfoldable pub row_of : (rows : List ℕ) (level kind handle : ℕ) → Option ℕ
row_of rows level kind handle = first_row_lem (row_count rows) rows level kind handle 0

abbrev pub child_at : (rows : List ℕ) → Option ℕ → Option ℕ
child_at rows None = None
child_at rows (Some i) = Some (cell rows i 3)

-- a name that starts at `start` and is `len` bytes long
abbrev pub named_at : (start len : ℕ) → NameAt
named_at start len = record { start = start; len = len }

abbrev pub name_at : (rows : List ℕ) → Option ℕ → Option NameAt
name_at rows None = None
name_at rows (Some i) = Some (named_at (cell rows i 3) (cell rows i 4))

-- the level of the elements of a handle of a level, where the schema calls it an array
unfoldable pub child : (rows : List ℕ) (level handle : ℕ) → Option ℕ
child rows level handle = child_at rows (row_of rows level array_kind handle)

-- where the schema's name of a handle stands in its pool
unfoldable pub schema_name : (rows : List ℕ) (level handle : ℕ) → Option NameAt
schema_name rows level handle = name_at rows (row_of rows level name_kind handle)

-- a declared row: the start that means absent, or a name
abbrev pub declared_at : (start len : ℕ) → Option NameAt
declared_at start len = if eqb start absent then None else Some (named_at start len)

-- where the declared name of a handle stands in the declared pool; a handle past the table has none
unfoldable pub declared_name_lem : (declared : List ℕ) (handle : ℕ) → Option NameAt
declared_name_lem declared handle =
    if ltb (2 * handle) (length declared) then declared_at (get_or declared (2 * handle) 0) (get_or declared (2 * handle + 1) 0) else
    None
