-- Two windows, each with one leaf, whose path has as many bytes as a path can have (request 10): twelve levels, in each the element 4095 and a field
-- with a name of 64 bytes. The innermost field is a leaf in the one, and in the other an array that is too deep.
use Rattle.std.specs.Prelude.{ℕ, zero, suc, ◌+◌, ◌*◌, ◌/◌, ◌%◌, List, [], ◌∷◌, ◌++◌, map, length, replicate}
use Rattle.bits.specs.Sizes.{levels_below, max_name}
use Rattle.schema.specs.Tables.{Tables, tables, absent}
use Rattle.framing.specs.Events.{Leaf, leaves, Trace}
use Rattle.framing.specs.Sinks.{struct, walk}

-- 64 times W
abbrev pub long_name : List ℕ
long_name = replicate max_name 87

-- one level: handle 0 is an array of the same level; handles 0 and 1 have names, the one from the schema, the other declared
abbrev pub long_names : Tables
long_names = tables (0 ∷ 0 ∷ 0 ∷ 0 ∷ 0 ∷ 0 ∷ 1 ∷ 0 ∷ 0 ∷ max_name ∷ []) long_name (absent ∷ 0 ∷ 0 ∷ max_name ∷ []) long_name

-- Count 4096, the element 4095, in it one field: its handle's number, the width of its payload in two bytes, the payload; two zeros. For handles
-- below 127 and payloads below 2,048 bytes; the width of a small one is longer than it has to be.
abbrev pub one_field_lem : (handle : ℕ) (payload : List ℕ) → List ℕ
one_field_lem handle payload =
    let width = 8 * length payload in
    0x01 ∷ 0x40 ∷ 0x01 ∷ 0x40 ∷ (2 * (handle + 1)) ∷ (2 * (width % 128) + 1) ∷ (2 * (width / 128)) ∷ payload ++ (0x00 ∷ 0x00 ∷ [])

abbrev pub nested_in : (levels : ℕ) (payload : List ℕ) → List ℕ
nested_in zero payload = payload
nested_in (suc n) payload = one_field_lem 0 (nested_in n payload)

abbrev pub longest_leaf : List ℕ
longest_leaf = nested_in levels_below (one_field_lem 1 (0xAB ∷ []))

abbrev pub longest_deep : List ℕ
longest_deep = nested_in levels_below (one_field_lem 0 (0xAB ∷ []))

-- the walk of all their bits, and how long the paths of a trace's leaves are
abbrev pub long_walk : (bytes : List ℕ) → Trace
long_walk bytes = walk (struct long_names 0) bytes (8 * length bytes)

abbrev pub path_lengths : Trace → List ℕ
path_lengths t = map (λ (x : Leaf). length x.path) (leaves t)
