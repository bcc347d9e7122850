-- `bits::is_padded` meets its contract: one law for a single byte, one for more, whose shift is the power that the law names.
use mathlib.Core.Path.{◌≡◌, sym, ap, ◌∙◌}
use Prim.Native.Nat.{ℕ, ◌-◌, ◌*◌, ◌%◌, ◌^◌, ◌≤◌, ◌<◌}
use native.Mathlib.Nat.{one-mul}
use native.Mathlib.Omega.{arith}
use lib.Dec.{ltb}
use borrow.Author.Tests.{le-ltb}
use lib.Pow.{shl_exact}
use Rattle.bits.specs.Padded.{padded}
use Rattle.bits.proofs.PaddedLaws.{one_byte, more_bytes}
use Rattle.bits.proofs.number.is_padded.Goals as goal

compared_two : (v n : ℕ) → n ≡ 2 → ltb v 128 ≡ padded v n
compared_two v n e = sym (ap (padded v) e ∙ more_bytes v 2 (omega arith))

-- the code's power, which no wrap cuts off
power : (n : ℕ) → n ≤ 5 → (1 * 2 ^ (7 * (n - 1))) % 2 ^ 64 ≡ 2 ^ (7 * (n - 1))
power n h = shl_exact 1 (7 * (n - 1)) 64 (omega arith) (omega arith) ∙ one-mul (2 ^ (7 * (n - 1)))

compared : (v n : ℕ) → n ≤ 5 → 1 < n → ltb v ((1 * 2 ^ (7 * (n - 1))) % 2 ^ 64) ≡ padded v n
compared v n h k = ap (ltb v) (power n h) ∙ sym (more_bytes v n k)

-- one group of seven bits
pub returns-then-n-eq2 : goal.returns-then-n-eq2
returns-then-n-eq2 c = compared_two _ _ c.if-n-eq2.true

pub returns-then-n-gt1 : goal.returns-then-n-gt1
returns-then-n-gt1 c = compared _ _ c.requires c.if-n-gt1.true

pub returns-else-n-gt1 : goal.returns-else-n-gt1
returns-else-n-gt1 c = le-ltb 1 _ c.if-n-gt1.false ∙ sym (one_byte _ _ c.if-n-gt1.false)
