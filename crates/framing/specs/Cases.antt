-- The proved cases 1 to 13 of document 01 as a table: a walk of a window, and its leaves, pairs, counters and verdict. Case 11 is three rows, and
-- its verdicts are those of request 05.
use Rattle.std.specs.Prelude.{ℕ, List, [], ◌∷◌, ◌++◌}
use Rattle.schema.specs.Tables.{no_tables, absent}
use Rattle.schema.specs.TwelveLevels.{twelve_levels, combat_rounds}
use Rattle.framing.specs.Events.{Leaf, Pair, leaves, pairs, raw_handle, Trace}
use Rattle.framing.specs.Counters.{Counters, counted, counters}
use Rattle.framing.specs.Sinks.{Walker, struct, exact, object, walk}
use Rattle.framing.specs.Verdicts.{Verdict, clean, partial, empty, verdict_of}

pub record CaseAnswer : Type 0 where
  pub leaves : List Leaf
  pub pairs : List Pair
  pub counters : Counters
  pub verdict : Verdict

pub record Case : Type 0 where
  pub how : Walker
  pub bytes : List ℕ
  pub bits : ℕ
  pub answer : CaseAnswer

abbrev pub case_answer_of : Walker → (bits : ℕ) → Trace → CaseAnswer
case_answer_of k n t = record { leaves = leaves t; pairs = pairs t; counters = counters t; verdict = verdict_of k n (counters t) }

abbrev pub found : Case → CaseAnswer
found c = case_answer_of c.how c.bits (walk c.how c.bytes c.bits)

abbrev pub row : Walker → List ℕ → ℕ → List Leaf → List Pair → Counters → Verdict → Case
row k bytes n ls ps c v = record { how = k; bytes = bytes; bits = n; answer = record { leaves = ls; pairs = ps; counters = c; verdict = v } }

-- 01's S and X: without tables
abbrev pub struct_walk : Walker
struct_walk = struct no_tables absent

abbrev pub exact_walk : Walker
exact_walk = exact [] []

-- 01's A: one element with one field
abbrev pub array_a : List ℕ
array_a = 0x02 ∷ 0x02 ∷ 0x04 ∷ 0x10 ∷ 0xAB ∷ 0x00 ∷ 0x00 ∷ []

-- a leaf of eight bits AB
abbrev pub leaf_ab : (path : List ℕ) (handle start : ℕ) → List Leaf
leaf_ab path handle start = record { path = path; handle = handle; start = start; width = 8; payload = 0xAB } ∷ []

-- the leaf of A: `[0]._h1`
abbrev pub leaf_of_a : List Leaf
leaf_of_a = leaf_ab (91 ∷ 48 ∷ 93 ∷ 46 ∷ 95 ∷ 104 ∷ 49 ∷ []) 1 32

abbrev pub cases : List Case
cases =
    row struct_walk array_a 56 leaf_of_a [] (counted 1 1 0 0 0 0 0) clean ∷
    row struct_walk array_a 48 leaf_of_a [] (counted 1 1 0 0 0 0 1) partial ∷
    row struct_walk array_a 40 leaf_of_a [] (counted 1 1 0 0 0 0 1) partial ∷
    row struct_walk array_a 36 [] [] (counted 1 0 0 1 0 0 0) partial ∷
    row struct_walk (array_a ++ (0x00 ∷ [])) 64 leaf_of_a [] (counted 1 1 0 0 0 0 0) clean ∷
    row struct_walk (array_a ++ (0x02 ∷ [])) 64 leaf_of_a [] (counted 1 1 0 0 0 8 0) partial ∷
    row struct_walk (array_a ++ (0x01 ∷ [])) 64 leaf_of_a [] (counted 1 1 0 1 0 0 0) partial ∷
    row exact_walk (array_a ++ (0x00 ∷ [])) 64 leaf_of_a [] (counted 1 1 0 0 0 8 0) partial ∷
    -- `._raw`
    row struct_walk (0x03 ∷ 0x40 ∷ 0xAB ∷ []) 24 (leaf_ab (46 ∷ 95 ∷ 114 ∷ 97 ∷ 119 ∷ []) raw_handle 16) [] (counted 0 1 1 0 0 0 0) partial ∷
    row struct_walk (0x01 ∷ 0x40 ∷ 0x00 ∷ []) 24 [] [] (counted 0 0 0 0 0 0 0) clean ∷
    row struct_walk [] 0 [] [] (counted 0 0 0 0 0 0 0) empty ∷
    row exact_walk [] 0 [] [] (counted 0 0 0 0 0 0 0) empty ∷
    row object [] 0 [] [] (counted 0 0 0 1 0 0 0) partial ∷
    row object (0x02 ∷ 0x02 ∷ 0x04 ∷ 0x10 ∷ 0x0E ∷ 0x00 ∷ 0x00 ∷ []) 56 [] (record { index = 0; guid = 7 } ∷ []) (counted 1 1 0 0 0 0 0) clean ∷
    -- `[0].Reports[0]._h1`
    row (struct twelve_levels combat_rounds) (0x02 ∷ 0x02 ∷ 0x0A ∷ 0x70 ∷ array_a ++ (0x00 ∷ 0x00 ∷ [])) 104
    (leaf_ab (91 ∷ 48 ∷ 93 ∷ 46 ∷ 82 ∷ 101 ∷ 112 ∷ 111 ∷ 114 ∷ 116 ∷ 115 ∷ 91 ∷ 48 ∷ 93 ∷ 46 ∷ 95 ∷ 104 ∷ 49 ∷ []) 1 64) [] (counted 2 1 0 0 0 0 0) clean ∷
    []
