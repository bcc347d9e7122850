-- Padded numbers in small windows, as a table: a walk of a window, and how many of the numbers that it takes are padded. Probes behind 128 fields and
-- 4,096 elements are left to `replay`.
use Rattle.std.specs.Prelude.{ℕ, List, [], ◌∷◌}
use Rattle.schema.specs.TwelveLevels.{twelve_levels, combat_rounds}
use Rattle.framing.specs.Counters.{padded_in}
use Rattle.framing.specs.Sinks.{Walker, struct, object, walk}
use Rattle.framing.specs.Cases.{struct_walk, exact_walk}

pub record PaddedCase : Type 0 where
  pub how : Walker
  pub bytes : List ℕ
  pub bits : ℕ
  pub padded : ℕ

abbrev pub padded_row : Walker → List ℕ → (bits padded : ℕ) → PaddedCase
padded_row k bytes n count = record { how = k; bytes = bytes; bits = n; padded = count }

abbrev pub padded_found : PaddedCase → ℕ
padded_found c = padded_in (walk c.how c.bytes c.bits)

abbrev pub padded_cases : List PaddedCase
padded_cases =
    -- a count and a zero that closes, each in two bytes
    padded_row struct_walk (0x01 ∷ 0x00 ∷ 0x01 ∷ 0x00 ∷ []) 32 2 ∷
    padded_row exact_walk (0x01 ∷ 0x00 ∷ 0x01 ∷ 0x00 ∷ []) 32 2 ∷
    -- five bytes; five bytes of which all are needed
    padded_row struct_walk (0x01 ∷ 0x01 ∷ 0x01 ∷ 0x01 ∷ 0x00 ∷ 0x00 ∷ []) 48 1 ∷
    padded_row struct_walk (0x01 ∷ 0x01 ∷ 0x01 ∷ 0x01 ∷ 0x02 ∷ 0x00 ∷ []) 48 0 ∷
    -- 128 needs two bytes, 127 doesn't
    padded_row struct_walk (0x01 ∷ 0x02 ∷ 0x00 ∷ []) 24 0 ∷
    padded_row struct_walk (0xFF ∷ 0x00 ∷ 0x00 ∷ []) 24 1 ∷
    -- values that a rule turns away: an index where there are no elements, a count of 4,097, a width past the window
    padded_row struct_walk (0x00 ∷ 0x03 ∷ 0x00 ∷ []) 24 1 ∷
    padded_row struct_walk (0x03 ∷ 0x41 ∷ 0x00 ∷ 0xAB ∷ []) 32 1 ∷
    padded_row struct_walk (0x02 ∷ 0x02 ∷ 0x02 ∷ 0xFF ∷ 0x01 ∷ 0x00 ∷ []) 48 1 ∷
    -- a handle is taken, and the width behind it fails; a count that fails
    padded_row struct_walk (0x02 ∷ 0x02 ∷ 0x03 ∷ 0x00 ∷ 0x01 ∷ []) 40 1 ∷
    padded_row struct_walk (0x01 ∷ 0x01 ∷ []) 16 0 ∷
    -- an object's number that doesn't fill its payload, and one that does
    padded_row object (0x02 ∷ 0x02 ∷ 0x04 ∷ 0x30 ∷ 0x01 ∷ 0x00 ∷ 0x00 ∷ 0x00 ∷ 0x00 ∷ []) 72 1 ∷
    padded_row object (0x02 ∷ 0x02 ∷ 0x04 ∷ 0x20 ∷ 0x0F ∷ 0x00 ∷ 0x00 ∷ 0x00 ∷ []) 64 1 ∷
    -- an index that is accepted; a zero that closes an element
    padded_row struct_walk (0x02 ∷ 0x03 ∷ 0x00 ∷ 0x00 ∷ 0x00 ∷ []) 40 1 ∷
    padded_row struct_walk (0x02 ∷ 0x02 ∷ 0x04 ∷ 0x10 ∷ 0xAB ∷ 0x01 ∷ 0x00 ∷ 0x00 ∷ []) 64 1 ∷
    -- behind the array: a trailer that stays, and one in a long form, which isn't read
    padded_row struct_walk (0x00 ∷ 0x00 ∷ 0x02 ∷ []) 24 0 ∷
    padded_row struct_walk (0x00 ∷ 0x00 ∷ 0x01 ∷ 0x00 ∷ []) 32 0 ∷
    -- a child's count and zero; the bits of a leaf are not read
    padded_row (struct twelve_levels combat_rounds) (0x02 ∷ 0x02 ∷ 0x0A ∷ 0x40 ∷ 0x01 ∷ 0x00 ∷ 0x01 ∷ 0x00 ∷ 0x00 ∷ 0x00 ∷ []) 80 2 ∷
    padded_row struct_walk (0x02 ∷ 0x02 ∷ 0x04 ∷ 0x40 ∷ 0x01 ∷ 0x00 ∷ 0x01 ∷ 0x00 ∷ 0x00 ∷ 0x00 ∷ []) 80 0 ∷
    -- a window past its bytes; no bits
    padded_row struct_walk (0x01 ∷ 0x00 ∷ []) 24 0 ∷
    padded_row struct_walk [] 0 0 ∷
    []
