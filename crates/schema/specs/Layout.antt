-- The layout of the tables (01, Sizes; Tables and outputs). A table that breaks it gives refusal 2.
use Rattle.std.specs.Prelude.{ℕ, zero, suc, ◌+◌, ◌*◌, ◌/◌, ◌%◌, Bool, true, false, ◌&&◌, List, length, get_or, leb, ltb, eqb, if◌then◌else◌}
use Rattle.bits.specs.Sizes.{max_levels, max_rows, max_handles, max_name, max_pool}
use Rattle.schema.specs.Tables.{Tables, absent, row_size, array_kind, name_kind, cell, row_count}

-- a test holds of the `left` numbers from i on
unfoldable pub all_from : (left : ℕ) (test : ℕ → Bool) (i : ℕ) → Bool
all_from zero test i = true
all_from (suc left) test i = test i && all_from left test (i + 1)

-- a name of len bytes from start lies in the pool, and isn't too long
unfoldable pub name_fits_lem : (pool start len : ℕ) → Bool
name_fits_lem pool start len = leb len max_name && leb (start + len) pool

-- a row's kind: an array, whose child level is there and whose b is 0, or a name, which lies in the pool; no other
unfoldable pub kind_fits_lem : (levels pool kind a b : ℕ) → Bool
kind_fits_lem levels pool kind a b =
    if eqb kind array_kind then ltb a levels && eqb b 0 else (if eqb kind name_kind then name_fits_lem pool a b else false)

-- a row: its level is there, and its kind fits
unfoldable pub row_fits : (rows : List ℕ) (levels pool i : ℕ) → Bool
row_fits rows levels pool i = ltb (cell rows i 0) levels && kind_fits_lem levels pool (cell rows i 1) (cell rows i 3) (cell rows i 4)

-- a handle's declared name: absent, or one that lies in the pool
unfoldable pub declared_fits : (declared : List ℕ) (pool h : ℕ) → Bool
declared_fits declared pool h =
    if eqb (get_or declared (2 * h) 0) absent then eqb (get_or declared (2 * h + 1) 0) 0 else
    name_fits_lem pool (get_or declared (2 * h) 0) (get_or declared (2 * h + 1) 0)

-- a table of whole rows of `size` numbers each, at most `most` of them, and its pool within its size
abbrev pub table_sized : (table : List ℕ) (size most pool : ℕ) → Bool
table_sized table size most pool = leb (length table) (size * most) && eqb (length table % size) 0 && leb pool max_pool

unfoldable pub schema_sized : (rows : List ℕ) (levels pool : ℕ) → Bool
schema_sized rows levels pool = leb levels max_levels && table_sized rows row_size max_rows pool

unfoldable pub declared_sized : (declared : List ℕ) (pool : ℕ) → Bool
declared_sized declared pool = table_sized declared 2 max_handles pool

-- the root level is there, or there is no schema
unfoldable pub root_fits_lem : (levels root : ℕ) → Bool
root_fits_lem levels root = if eqb root absent then true else ltb root levels

unfoldable pub schema_laid : (rows : List ℕ) (levels root pool : ℕ) → Bool
schema_laid rows levels root pool = schema_sized rows levels pool && root_fits_lem levels root && all_from (row_count rows) (row_fits rows levels pool) 0

unfoldable pub declared_laid : (declared : List ℕ) (pool : ℕ) → Bool
declared_laid declared pool = declared_sized declared pool && all_from (length declared / 2) (declared_fits declared pool) 0

-- all of it; the schema is checked also where the root says that there is none
unfoldable pub laid_out : Tables → (levels root : ℕ) → Bool
laid_out t levels root =
    schema_laid t.rows levels root (length t.names) && declared_laid t.declared (length t.declared_names_lem)
