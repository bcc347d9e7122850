-- `bits::packed_more` meets its contract. The loop's invariant: the bytes that are taken, with the rest of the number after them, are the
-- number.
use Rattle.std.proofs.lemmas.Result.{err_from_is_err_and}
use borrow.Author.Rules.{rules}
use mathlib.Core.Path.{◌≡◌, sym, ap, ap₂, ◌∙◌, subst}
use Prim.Native.Nat.{ℕ, ◌+◌, ◌-◌, ◌*◌, ◌/◌, ◌%◌, ◌^◌, ◌≤◌, ◌<◌}
use native.Mathlib.Nat.{one-mul, mul-le-mul_right, lt_of_lt_of_le}
use native.Mathlib.Omega.{arith}
use lib.Pow.{shl_exact, pow_mono, pow-add}
use Rattle.bits.specs.Bits.{field}
use Rattle.bits.specs.Packed.{after, packed_from}
use Rattle.bits.proofs.FieldLaws.{bound}
use Rattle.bits.proofs.PackedLaws.{byte_ends, byte_follows}
use Rattle.bits.proofs.PaddedLaws.{found_cut, found_more}
use Rattle.bits.specs.Padded.{found}
use Rattle.bits.proofs.number.packed_more.Goals as goal

-- a group's weight is not shifted out, and the value with the group is below the next one's
module _ (b taken value : ℕ) (hb : b < 2 ^ 8) (ht : taken < 4) (hv : value < 2 ^ (7 * taken)) where
  exact : (1 * 2 ^ (7 * taken)) % 2 ^ 64 ≡ 2 ^ (7 * taken)
  exact = shl_exact 1 (7 * taken) 64 (omega arith) (omega arith) ∙ one-mul (2 ^ (7 * taken))

  grown : value + b / 2 * 2 ^ (7 * taken) < 2 ^ (7 * (taken + 1))
  grown =
      let q : b / 2 ≤ 127 = omega arith in
      let e : 7 * (taken + 1) ≡ 7 * taken + 7 = omega arith in
      subst (λ (k : ℕ). value + b / 2 * 2 ^ (7 * taken) < 2 ^ k) (sym e)
      (subst (λ (x : ℕ). value + b / 2 * 2 ^ (7 * taken) < x) (sym (pow-add 2 (7 * taken) 7)) (omega (arith, mul-le-mul_right (2 ^ (7 * taken)) q)))

  bounded : value + b / 2 * 2 ^ (7 * taken) < 2 ^ 28
  bounded = lt_of_lt_of_le grown (pow_mono {j = 28} (omega arith))

-- the same of the byte that was read
of_byte : (b W p taken value : ℕ) → b ≡ field W p 8 → taken < 4 → value < 2 ^ (7 * taken) →
    ((1 * 2 ^ (7 * taken)) % 2 ^ 64 ≡ 2 ^ (7 * taken))
    × (value + b / 2 * 2 ^ (7 * taken) < 2 ^ (7 * (taken + 1)))
    × (value + b / 2 * 2 ^ (7 * taken) < 2 ^ 28)
of_byte b W p taken value e t v =
    let h = bound b W p 8 e in
    (exact b taken value h t v, grown b taken value h t v, bounded b taken value h t v)

-- one more byte, after which another follows
next : (N at end value taken b : ℕ) → taken < 4 → at + 8 * taken + 8 ≤ end → b ≡ field N (at + 8 * taken) 8 → (b % 2 ≡ 0 → ⊥)
    → after (taken + 1) (value + b / 2 * 2 ^ (7 * taken)) (packed_from (4 - (taken + 1)) N end (at + 8 * (taken + 1)))
    ≡ after taken value (packed_from (4 - taken) N end (at + 8 * taken))
next N at end value taken b t h eb odd =
    let e₁ : 4 - (taken + 1) ≡ 4 - taken - 1 = omega arith in
    let e₂ : at + 8 * (taken + 1) ≡ at + 8 * taken + 8 = omega arith in
    ap₂ (λ (k p : ℕ). after (taken + 1) (value + b / 2 * 2 ^ (7 * taken)) (packed_from k N end p)) e₁ e₂
    ∙ sym (byte_follows taken value N end (at + 8 * taken) b h eb (4 - taken) (omega arith) odd)

pub returns-in_err-b : goal.returns-in_err-b
returns-in_err-b c =
    let p = err_from_is_err_and c.from_residual.result c.from_residual.ensures.1 in
    rw (p.1, p.2) (found_cut _ _ _ _ _ _ c.in_err-b.ensures ∙ ap found c.loop-taken.invariant.same)

pub overflow_mul-value : goal.overflow_mul-value
overflow_mul-value c =
    let k = of_byte _ _ _ _ _ c.in_ok-b.ensures.1 c.loop-taken-test.true c.loop-taken.invariant.small in
    rw k.0 (omega (arith, k.2))

pub overflow_add-value : goal.overflow_add-value
overflow_add-value c =
    let k = of_byte _ _ _ _ _ c.in_ok-b.ensures.1 c.loop-taken-test.true c.loop-taken.invariant.small in
    rw k.0 (omega (arith, k.2))

pub overflow_cast-result : goal.overflow_cast-result
overflow_cast-result c =
    let k = of_byte _ _ _ _ _ c.in_ok-b.ensures.1 c.loop-taken-test.true c.loop-taken.invariant.small in
    rw k.0 (omega (arith, k.2))

pub returns-then-b-eq0 : goal.returns-then-b-eq0
unfolding found
returns-then-b-eq0 c =
    let v = c.loop-taken.invariant in
    let b = c.in_ok-b.ensures in
    rw (of_byte _ _ _ _ _ b.1 c.loop-taken-test.true v.small).0
    (found_more _ _ c.loop-taken.auto.taken
    ∙ ap found (sym (byte_ends _ _ _ _ _ _ b.0 b.1 _ (omega arith) c.if-b-eq0.true) ∙ v.same))

pub loop-taken-preserved : goal.loop-taken-preserved
loop-taken-preserved c =
    let v = c.loop-taken.invariant in
    let b = c.in_ok-b.ensures in
    let k = of_byte _ _ _ _ _ b.1 c.loop-taken-test.true v.small in
    rw k.0 (record { within = omega (arith, b.0); small = k.1; same = next _ _ _ _ _ _ c.loop-taken-test.true b.0 b.1 c.if-b-eq0.false ∙ v.same })

pub packed_fifth-requires : goal.packed_fifth-requires
packed_fifth-requires c =
    let v = c.loop-taken.invariant in
    let e : c.loop-taken.taken ≡ 4 = omega arith in
    (omega arith, search rules, rw e at v.small)

pub returns : goal.returns
returns c =
    let l = c.loop-taken in
    let e : l.taken ≡ 4 = omega arith in
    c.packed_fifth.ensures ∙ ap found (rw e at l.invariant.same)
