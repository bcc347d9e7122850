-- Small windows as a table: a walk of a window, where each leaf lies, and where each array that was entered.
use Rattle.std.specs.Prelude.{ℕ, zero, suc, ◌+◌, List, [], ◌∷◌, ◌++◌, map, get_or}
use Rattle.bits.specs.Sizes.{max_fields}
use Rattle.schema.specs.TwelveLevels.{twelve_levels, combat_rounds}
use Rattle.framing.specs.Events.{Leaf, Entered, raw_handle, leaves, arrays, Trace}
use Rattle.framing.specs.Sinks.{Walker, struct, walk}
use Rattle.framing.specs.Cases.{struct_walk, exact_walk}
use Rattle.framing.specs.LongestCase.{long_names}

-- of each leaf its handle, start and width; of each array that was entered its start and width
pub record LeafSpot : Type 0 where
  pub handle : ℕ
  pub start : ℕ
  pub width : ℕ

pub record ArraySpot : Type 0 where
  pub start : ℕ
  pub width : ℕ

pub record Spots : Type 0 where
  pub leaves : List LeafSpot
  pub arrays : List ArraySpot

pub record PlacedCase : Type 0 where
  pub how : Walker
  pub bytes : List ℕ
  pub bits : ℕ
  pub spots : Spots

abbrev pub leaf_spot : (handle start width : ℕ) → LeafSpot
leaf_spot h s n = record { handle = h; start = s; width = n }

abbrev pub array_spot : (start width : ℕ) → ArraySpot
array_spot s n = record { start = s; width = n }

abbrev pub placed_row : Walker → List ℕ → (bits : ℕ) → List LeafSpot → List ArraySpot → PlacedCase
placed_row k bytes n ls es = record { how = k; bytes = bytes; bits = n; spots = record { leaves = ls; arrays = es } }

abbrev pub spots_of : Trace → Spots
spots_of t =
    record {
      leaves = map (λ (x : Leaf). leaf_spot x.handle x.start x.width) (leaves t);
      arrays = map (λ (a : Entered). array_spot a.start a.width) (arrays t);
    }

abbrev pub placed_found : PlacedCase → Spots
placed_found c = spots_of (walk c.how c.bytes c.bits)

-- so many fields with the handle 1 and no payload, and their leaves, the first of them at that bit
abbrev pub empty_fields : (many : ℕ) → List ℕ
empty_fields zero = []
empty_fields (suc n) = 0x04 ∷ 0x00 ∷ empty_fields n

abbrev pub empty_spots : (many start : ℕ) → List LeafSpot
empty_spots zero start = []
empty_spots (suc n) start = leaf_spot 1 start 0 ∷ empty_spots n (start + 16)

abbrev pub placed_cases : List PlacedCase
placed_cases =
    -- three bits, and behind them a payload that starts inside a byte
    placed_row struct_walk (0x02 ∷ 0x02 ∷ 0x04 ∷ 0x06 ∷ 0x25 ∷ 0x80 ∷ 0x58 ∷ 0x05 ∷ 0x00 ∷ 0x00 ∷ []) 75 (leaf_spot 1 32 3 ∷ leaf_spot 1 51 8 ∷ []) [] ∷
    -- an empty leaf, with nothing behind it
    placed_row struct_walk (0x02 ∷ 0x02 ∷ 0x04 ∷ 0x00 ∷ []) 32 (leaf_spot 1 32 0 ∷ []) [] ∷
    -- an exact walk, which takes no trailer
    placed_row exact_walk (0x02 ∷ 0x02 ∷ 0x04 ∷ 0x10 ∷ 0xAB ∷ 0x00 ∷ 0x00 ∷ 0x00 ∷ []) 64 (leaf_spot 1 32 8 ∷ []) [] ∷
    -- a tail of four bits at the root
    placed_row struct_walk (0x03 ∷ 0x40 ∷ 0xAB ∷ []) 20 (leaf_spot raw_handle 16 4 ∷ []) [] ∷
    -- a tail in an element, behind as many fields as are allowed
    placed_row struct_walk (0x02 ∷ 0x02 ∷ empty_fields max_fields ++ (0x04 ∷ [])) 2072 (empty_spots max_fields 32 ++ (leaf_spot raw_handle 2064 8 ∷ [])) [] ∷
    -- two children: in the first an empty leaf and one of eight bits, of the second a tail
    placed_row (struct twelve_levels combat_rounds)
    (0x02 ∷ 0x02 ∷ 0x0A ∷ 0x90 ∷ 0x02 ∷ 0x02 ∷ 0x04 ∷ 0x00 ∷ 0x04 ∷ 0x10 ∷ 0xAB ∷ 0x00 ∷ 0x00 ∷ 0x0A ∷ 0x30 ∷ 0x03 ∷ 0x40 ∷ 0xAB ∷ 0x00 ∷ 0x00 ∷ []) 160
    (leaf_spot 1 64 0 ∷ leaf_spot 1 80 8 ∷ leaf_spot raw_handle 136 8 ∷ []) (array_spot 32 72 ∷ array_spot 120 24 ∷ []) ∷
    -- a leaf of three bits, and behind it a child in a child, both starting inside a byte
    placed_row (struct long_names 0)
    (0x02 ∷ 0x02 ∷ 0x04 ∷ 0x06 ∷ 0x15 ∷ 0x80 ∷ 0x16 ∷ 0x10 ∷ 0x10 ∷ 0x80 ∷ 0x13 ∷ 0x10 ∷ 0x20 ∷ 0x80 ∷ 0x58 ∷ 0x05 ∷ 0x00 ∷ 0x00 ∷ 0x00 ∷ 0x00 ∷ 0x00 ∷ 0x00 ∷ []) 171
    (leaf_spot 1 32 3 ∷ leaf_spot 1 115 8 ∷ []) (array_spot 51 104 ∷ array_spot 83 56 ∷ []) ∷
    -- a leaf behind a child that ends inside a byte
    placed_row (struct long_names 0) (0x02 ∷ 0x02 ∷ 0x02 ∷ 0x2A ∷ 0x00 ∷ 0x00 ∷ 0x80 ∷ 0x00 ∷ 0x62 ∷ 0x15 ∷ 0x00 ∷ 0x00 ∷ []) 93 (leaf_spot 1 69 8 ∷ []) (array_spot 32 21 ∷ []) ∷
    []

-- the row of the tail in an element: it starts where the last leaf before it does, which is empty
abbrev pub tail_behind_fields : PlacedCase
tail_behind_fields = get_or placed_cases 4 (placed_row struct_walk [] 0 [] [])
