-- Adding up the counters of two walks (01, Refusal numbers: 4).
use Rattle.std.specs.Prelude.{ℕ, ◌^◌, Bool, ◌&&◌, ltb, if◌then◌else◌}
use Rattle.framing.specs.Counters.{Counters, sums}

-- the sums; or a refusal's number and the left counters
pub data Sums : Type 0 where
  summed : Counters → Sums
  overflowing : (number : ℕ) → Counters → Sums

-- one more than the largest counter
abbrev pub counter_limit : ℕ
counter_limit = 2 ^ 64

-- no counter passes 2 ^ 64 - 1
unfoldable pub bounded : Counters → Bool
bounded c =
    ltb c.elements counter_limit && (ltb c.fields counter_limit && (ltb c.truncations counter_limit && (ltb c.errors counter_limit
    && (ltb c.nested_bits_lem counter_limit && (ltb c.root_bits_lem counter_limit && ltb c.implicits counter_limit)))))

-- counter by counter; if one sum passes, none is taken
unfoldable pub merge : (left right : Counters) → Sums
merge a b = if bounded (sums a b) then summed (sums a b) else overflowing 4 a
