-- How many of some numbers can be padded: each that is has two bytes at least, so it takes 16 of the bits in which they stand.
use Prim.Native.Nat.{ℕ, ◌+◌, ◌*◌, ◌≤◌}
use mathlib.Core.List.{List, [], ◌∷◌, ◌++◌}
use native.Mathlib.Omega.{arith}
use Rattle.bits.specs.Members.{All}
use Rattle.bits.specs.Packed.{Number, most_bytes}
use Rattle.bits.specs.Padded.{is_padded, padded_among}
use Rattle.bits.proofs.ChoiceLaws.{by_cases}
use Rattle.bits.proofs.PaddedLaws.{two_bytes, among_append}
use Rattle.bits.proofs.MemberLaws.{all_append}

-- Numbers that were read, one behind the other, between bit p and bit q.
pub record Takes (l : List Number) (p q : ℕ) : Type 0 where
  pub few : All (λ x. x.bytes ≤ most_bytes) l
  pub bits : p + 16 * padded_among l ≤ q

more_bits : (x : Number) (l : List Number) → 16 * padded_among (x ∷ l) ≤ 8 * x.bytes + 16 * padded_among l
unfolding padded_among
more_bits x l =
    by_cases (is_padded x) (λ e. let two = two_bytes x.value x.bytes e in rw e (omega arith)) (λ e. rw e (omega arith))

pub takes_none : (p q : ℕ) → p ≤ q → Takes [] p q
unfolding padded_among
takes_none p q h = record { few = tt; bits = omega arith }

pub takes_more : (x : Number) (l : List Number) (p q r : ℕ) → x.bytes ≤ most_bytes → p + 8 * x.bytes ≤ q → Takes l q r → Takes (x ∷ l) p r
takes_more x l p q r few h t = record { few = (few, t.few); bits = omega (arith, more_bits x l, t.bits) }

-- in more bits, and in bits that stand s further on
pub takes_wider : (l : List Number) (p q p' q' : ℕ) → p ≤ p' → q' ≤ q → Takes l p' q' → Takes l p q
takes_wider l p q p' q' h k t = record { few = t.few; bits = omega (arith, t.bits) }

pub takes_behind : (l : List Number) (s p q : ℕ) → Takes l p q → Takes l (s + p) (s + q)
takes_behind l s p q t = record { few = t.few; bits = omega (arith, t.bits) }

pub takes_both : (a b : List Number) (p q r : ℕ) → Takes a p q → Takes b q r → Takes (a ++ b) p r
takes_both a b p q r s t = record { few = all_append _ a b s.few t.few; bits = omega (arith, s.bits, t.bits, among_append a b) }
