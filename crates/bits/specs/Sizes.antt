-- The sizes of document 01 (Sizes), each once, and how long they let a path get. crates/bits/src/sizes.rt has the same numbers for code.
use Rattle.std.specs.Prelude.{ℕ, ◌+◌, ◌-◌}

-- ---- windows and walks

-- bits of a window that is opened by its bit count, or walked
abbrev pub longest_window : ℕ
longest_window = 524288

-- elements of a level
abbrev pub max_elements : ℕ
max_elements = 4096

-- fields of an element
abbrev pub max_fields : ℕ
max_fields = 128

-- levels of nesting, of depths 0 to 11
abbrev pub max_nesting : ℕ
max_nesting = 12

-- levels that may stand below the root's
abbrev pub levels_below : ℕ
levels_below = max_nesting - 1

-- the trailer's bits (01, Walking an array, rule 3)
abbrev pub trailer_bits : ℕ
trailer_bits = 8

-- ---- tables

-- levels of a schema
abbrev pub max_levels : ℕ
max_levels = 64

-- rows of a schema
abbrev pub max_rows : ℕ
max_rows = 512

-- declared handles
abbrev pub max_handles : ℕ
max_handles = 1024

-- bytes of a name
abbrev pub max_name : ℕ
max_name = 64

-- bytes of a name pool
abbrev pub max_pool : ℕ
max_pool = 65536

-- ---- paths

-- bytes of `[index]`, whose index is below max_elements, and of `.label`, at most
abbrev pub longest_index : ℕ
longest_index = 6

abbrev pub longest_label : ℕ
longest_label = 1 + max_name

-- bytes of a path, at most: twelve levels of both (framing, proofs/LongestPath). Document 01 allows 1,024.
abbrev pub longest_path : ℕ
longest_path = 852
