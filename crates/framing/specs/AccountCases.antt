-- Where the bits of small windows go, as a table: of a walk of a window the bits of its leaves and of the numbers that it takes, those stepped past and
-- those left. What is missing from the window's went unread. Values that a rule turns away are taken; numbers that fail or are put back aren't.
use Rattle.std.specs.Prelude.{ℕ, List, [], ◌∷◌}
use Rattle.schema.specs.TwelveLevels.{twelve_levels, combat_rounds}
use Rattle.framing.specs.Events.{Trace}
use Rattle.framing.specs.Counters.{counters, number_bits}
use Rattle.framing.specs.Sinks.{Walker, struct, object, walk}
use Rattle.framing.specs.Accounts.{leaf_bits}
use Rattle.framing.specs.Cases.{struct_walk, exact_walk}

pub record BitParts : Type 0 where
  pub leaves : ℕ
  pub numbers : ℕ
  pub past : ℕ
  pub left : ℕ

pub record AccountCase : Type 0 where
  pub how : Walker
  pub bytes : List ℕ
  pub bits : ℕ
  pub parts : BitParts

abbrev pub account_row : Walker → List ℕ → (bits leaves numbers past left : ℕ) → AccountCase
account_row k bytes n l m p r = record { how = k; bytes = bytes; bits = n; parts = record { leaves = l; numbers = m; past = p; left = r } }

abbrev pub parts_of : Trace → BitParts
parts_of t = record { leaves = leaf_bits t; numbers = number_bits t; past = (counters t).nested_bits_lem; left = (counters t).root_bits_lem }

abbrev pub account_found : AccountCase → BitParts
account_found c = parts_of (walk c.how c.bytes c.bits)

abbrev pub account_cases : List AccountCase
account_cases =
    -- clean: with and without a trailer, padded numbers, a child
    account_row struct_walk (0x02 ∷ 0x02 ∷ 0x04 ∷ 0x10 ∷ 0xAB ∷ 0x00 ∷ 0x00 ∷ 0x00 ∷ []) 64 8 56 0 0 ∷
    account_row struct_walk (0x02 ∷ 0x02 ∷ 0x04 ∷ 0x10 ∷ 0xAB ∷ 0x00 ∷ 0x00 ∷ []) 56 8 48 0 0 ∷
    account_row struct_walk (0x03 ∷ 0x00 ∷ 0x01 ∷ 0x00 ∷ []) 32 0 32 0 0 ∷
    account_row (struct twelve_levels combat_rounds) (0x02 ∷ 0x02 ∷ 0x0A ∷ 0x20 ∷ 0x00 ∷ 0x00 ∷ 0x00 ∷ 0x00 ∷ 0x00 ∷ []) 72 0 72 0 0 ∷
    -- a child that ends where its zero is due
    account_row (struct twelve_levels combat_rounds) (0x02 ∷ 0x02 ∷ 0x0A ∷ 0x10 ∷ 0x00 ∷ 0x00 ∷ 0x00 ∷ 0x00 ∷ []) 64 0 64 0 0 ∷
    -- left: what an exact walk takes for no trailer, and a trailer that isn't zero
    account_row exact_walk (0x02 ∷ 0x02 ∷ 0x04 ∷ 0x10 ∷ 0xAB ∷ 0x00 ∷ 0x00 ∷ 0x00 ∷ []) 64 8 48 0 8 ∷
    account_row struct_walk (0x00 ∷ 0x00 ∷ 0x02 ∷ []) 24 0 16 0 8 ∷
    -- stepped past: sixteen bits behind a child's zero
    account_row (struct twelve_levels combat_rounds) (0x02 ∷ 0x02 ∷ 0x0A ∷ 0x40 ∷ 0x00 ∷ 0x00 ∷ 0x01 ∷ 0x00 ∷ 0x00 ∷ 0x00 ∷ []) 80 0 64 16 0 ∷
    -- turned away, and taken: an index where there are no elements, a width past the window, a count of 4,097 with its tail
    account_row struct_walk (0x00 ∷ 0x03 ∷ 0x00 ∷ []) 24 0 24 0 0 ∷
    account_row struct_walk (0x02 ∷ 0x02 ∷ 0x02 ∷ 0xFF ∷ 0x01 ∷ 0x00 ∷ []) 48 0 48 0 0 ∷
    account_row struct_walk (0x03 ∷ 0x41 ∷ 0x00 ∷ 0xAB ∷ []) 32 8 24 0 0 ∷
    -- unread: a width that fails, four bits where an index is due, a window past its bytes
    account_row struct_walk (0x02 ∷ 0x02 ∷ 0x03 ∷ 0x00 ∷ 0x01 ∷ []) 40 0 32 0 0 ∷
    account_row struct_walk (0x02 ∷ 0x0F ∷ []) 12 0 8 0 0 ∷
    account_row struct_walk (0x02 ∷ []) 16 0 0 0 0 ∷
    -- objects: a pair, a number that doesn't fill its payload, a later payload that is stepped past, a count of 4,097 whose tail is skipped
    account_row object (0x02 ∷ 0x02 ∷ 0x04 ∷ 0x10 ∷ 0x0E ∷ 0x00 ∷ 0x00 ∷ []) 56 0 56 0 0 ∷
    account_row object (0x02 ∷ 0x02 ∷ 0x04 ∷ 0x30 ∷ 0x01 ∷ 0x00 ∷ 0x00 ∷ 0x00 ∷ 0x00 ∷ []) 72 0 64 0 0 ∷
    account_row object (0x02 ∷ 0x02 ∷ 0x04 ∷ 0x10 ∷ 0x0E ∷ 0x04 ∷ 0x10 ∷ 0xAB ∷ 0x00 ∷ 0x00 ∷ []) 80 0 72 8 0 ∷
    account_row object (0x03 ∷ 0x41 ∷ 0x00 ∷ 0xAB ∷ []) 32 0 24 0 0 ∷
    []
