-- The laws of the logarithm and the serialized integer.
use Rattle.std.proofs.Common.{◌≡◌, ℕ, zero, suc, ◌+◌, ◌-◌, ◌*◌, ◌/◌, ◌^◌, ◌<◌, ◌≤◌, ap, arith, pow_pos, ne_eqb, le-leb, Ok, Err}
use native.Mathlib.Nat.{pow-succ'}
use lib.Count.{count_leading_zeros, leading_top}
use borrow.Author.Tests.{lt-leb}
use Rattle.bits.specs.Bits.{field}
use Rattle.bitio.specs.Cursors.{asking}
use Rattle.bitio.specs.Numbers.{halvings, log2, serialized_top, serialized_at}
use Rattle.bitio.proofs.CursorLaws.{few_way, enough_way, past_is}
use Rattle.bitio.specs.declared.Refusal.{Refusal}

-- the logarithm is the one number whose power is at most n and the next one above
halvings_is : (k j n : ℕ) → j < k → 2 ^ j ≤ n → n < 2 ^ suc j → halvings k n ≡ j
unfolding halvings
halvings_is zero j n h l u = omega arith
halvings_is (suc k) zero n h l u = let z : n ≤ 1 = omega arith in simp (le-leb _ _ z)
halvings_is (suc k) (suc j) n h l u =
    let p : 0 < 2 ^ j = pow_pos j in
    let e : 2 ^ suc j ≡ 2 * 2 ^ j = pow-succ' 2 j in
    let e₂ : 2 ^ suc (suc j) ≡ 2 * 2 ^ suc j = pow-succ' 2 (suc j) in
    let z : 1 < n = omega arith in
    let l₂ : 2 ^ j ≤ n / 2 = omega arith in
    let u₂ : n / 2 < 2 ^ suc j = omega arith in
    let h₂ : j < k = omega arith in
    simp (lt-leb _ _ z) (ap suc (halvings_is k j (n / 2) h₂ l₂ u₂))

pub log2_is : (j n : ℕ) → j < 32 → 2 ^ j ≤ n → n < 2 ^ suc j → log2 n ≡ j
unfolding log2
log2_is j n h l u = halvings_is 32 j n h l u

-- of a u32 it is 31 less the leading zeros
pub log2_zeros : (m : ℕ) → 0 < m → m < 2 ^ 32 → (31 - count_leading_zeros 32 m ≡ log2 m) × (log2 m < 32) × (2 ^ log2 m ≤ m) × (m < 2 ^ suc (log2 m))
log2_zeros m h u =
    let t = leading_top 32 m h u in
    let e : log2 m ≡ t.0 = log2_is t.0 m (omega arith) t.2 t.3 in
    let l : t.0 < 32 = omega arith in
    let z : 31 - count_leading_zeros 32 m ≡ t.0 = omega arith in
    rw e (z, l, t.2, t.3)

-- the steps of the code, as those of the definition: the low bits v, of the width w, end at `at`
module _ (W len m pos w : ℕ) (h : m ≡ 0 → ⊥) (l : w ≡ log2 m) where
  pub serialized_few : (r : Refusal) → Err r ≡ asking len pos w (Ok (pos + w)) → serialized_at W len m pos ≡ Err r
  unfolding serialized_at
  serialized_few r e = simp (ne_eqb _ _ h, ← l) (few_way len pos w _ r e)

  pub serialized_low : (v at : ℕ) → v ≡ field W pos w → Ok at ≡ asking len pos w (Ok (pos + w)) → serialized_at W len m pos ≡ serialized_top W len m w v at
  unfolding serialized_at
  serialized_low v at f e = rw (f, past_is len pos w at e) (simp (ne_eqb _ _ h, ← l) (enough_way len pos w _ at e))

-- and then the top bit
module _ (W len m b v pos : ℕ) (h : v + 2 ^ b < m) where
  pub top_few : (r : Refusal) → Err r ≡ asking len pos 1 (Ok (pos + 1)) → serialized_top W len m b v pos ≡ Err r
  unfolding serialized_top
  top_few r e = simp (lt-leb _ _ h) (few_way len pos 1 _ r e)

  pub top_open : (t next : ℕ) → t ≡ field W pos 1 → Ok next ≡ asking len pos 1 (Ok (pos + 1))
      → serialized_top W len m b v pos ≡ Ok (record { value = v + t * 2 ^ b; next = next })
  unfolding serialized_top
  top_open t next f e = rw (f, past_is len pos 1 next e) (simp (lt-leb _ _ h) (enough_way len pos 1 _ next e))
