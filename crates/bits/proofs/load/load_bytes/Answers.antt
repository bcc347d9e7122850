-- `bits::load_bytes` meets its contract: behind j bytes the value is the field of them, and each turn adds a byte above it.
use Prim.Native.Nat.{ℕ, ◌+◌, ◌*◌, ◌%◌, ◌^◌, ◌<◌}
use mathlib.Core.Path.{◌≡◌, refl, sym, ap, ◌∙◌}
use mathlib.Core.List.{List}
use native.Mathlib.Nat.{mul_comm, lt_of_lt_of_le}
use native.Mathlib.Omega.{arith}
use lib.ListN.{get_or}
use lib.Pow.{shl_exact, pow_mono}
use Rattle.bits.specs.Bits.{num, field, Bytes}
use Rattle.bits.proofs.FieldLaws.{bound, joined, field_byte, field_none}
use Rattle.bits.proofs.load.load_bytes.Goals as goal

-- a byte's bits are not shifted out, and it stands above the bytes before it
above : (b j : ℕ) → b < 2 ^ 8 → j < 8 → (b * 2 ^ (8 * j)) % 2 ^ 64 ≡ 2 ^ (8 * j) * b
above b j h l = shl_exact 8 (8 * j) 64 h (omega arith) ∙ mul_comm b (2 ^ (8 * j))

next : (s : List ℕ) (i j value : ℕ) → Bytes s → j < 8 → value ≡ field (num s) (8 * i) (8 * j)
    → value + (get_or s (i + j) 0 * 2 ^ (8 * j)) % 2 ^ 64 ≡ field (num s) (8 * i) (8 * (j + 1))
next s i j value h l e =
    let e₁ : 8 * j + 8 ≡ 8 * (j + 1) = omega arith in
    ap (λ (x : ℕ). value + x) (above (get_or s (i + j) 0) j (h (i + j)) l)
    ∙ joined (num s) i j (8 * j) 8 value (get_or s (i + j) 0) refl e (sym (field_byte s (i + j) h))
    ∙ ap (λ (k : ℕ). field (num s) (8 * i) k) e₁

pub loop-j-init : goal.loop-j-init
loop-j-init c = sym (field_none _ _)

pub overflow_add-value-in-loop-j : goal.overflow_add-value-in-loop-j
overflow_add-value-in-loop-j c =
    let e = next _ _ _ _ (λ k. (c.type_inv.s k).fits) (omega arith) c.loop-j.invariant in
    let l = lt_of_lt_of_le (bound _ _ _ _ e) (pow_mono {j = 64} (omega arith)) in omega (arith, l)

pub loop-j-preserved : goal.loop-j-preserved
loop-j-preserved c = next _ _ _ _ (λ k. (c.type_inv.s k).fits) (omega arith) c.loop-j.invariant

pub returns : goal.returns
returns c =
    let e : c.loop-j.j ≡ c.args.n = omega arith in
    rw e at c.loop-j.invariant
