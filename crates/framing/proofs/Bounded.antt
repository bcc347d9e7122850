-- The seven counters of a walk of n bits and its padded numbers add up to at most n + 1: none of them overflows. For what an event adds to them is
-- a weight as Weighed asks it.
use Prim.Native.Nat.{ℕ, ◌+◌, ◌≤◌}
use mathlib.Core.Path.{◌≡◌, refl}
use mathlib.Core.List.{List, [], ◌∷◌}
use native.Mathlib.Omega.{arith}
use Rattle.bits.specs.Packed.{Number}
use Rattle.bits.specs.Padded.{is_padded, padded_among}
use Rattle.bits.proofs.ChoiceLaws.{by_cases}
use Rattle.framing.specs.Events.{Event, number, Trace}
use Rattle.framing.specs.Counters.{Counters, counters, count_of, padded_in}
use Rattle.framing.specs.Sinks.{Walker, walk}
use Rattle.framing.proofs.TraceLaws.{padded_append}
use Rattle.framing.proofs.Weighed.{weigh, Weights, walk_weight}

abbrev pub total : Counters → ℕ
total c = c.elements + c.fields + c.truncations + c.errors + c.nested_bits_lem + c.root_bits_lem + c.implicits

-- what an event adds
abbrev cost : Event → ℕ
cost e = total (count_of e) + padded_in (e ∷ [])

-- a number is padded or not
once : (x : Number) → padded_in (number x ∷ []) ≤ 1
unfolding padded_among
once x = by_cases (is_padded x) (λ e. simp e (omega arith)) (λ e. simp e (omega arith))

cost_weighs : Weights cost 1
unfolding padded_among
cost_weighs =
    record {
      number = λ x. let z = once x in omega arith;
      element = λ p. omega arith;
      array = λ p. refl;
      leaf = λ x n some wide. omega arith;
      pair = λ x. omega arith;
      nested = λ n. omega arith;
      root = λ n. omega arith;
      truncation = omega arith;
      error = omega arith;
      implicit = omega arith;
      light = omega arith;
    }

added : (t : Trace) → weigh cost t ≡ total (counters t) + padded_in t
unfolding padded_among
added [] = refl
added (e ∷ t) = let z = added t in let y = padded_append (e ∷ []) t in omega arith

pub walk_cost : (k : Walker) (bytes : List ℕ) (n : ℕ) → total (counters (walk k bytes n)) + padded_in (walk k bytes n) ≤ n + 1
walk_cost k bytes n = let z = walk_weight cost 1 cost_weighs k bytes n in let y = added (walk k bytes n) in omega arith
