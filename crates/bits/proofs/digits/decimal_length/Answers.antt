-- `bits::digits::decimal_length` meets its contract: a number has more than k digits exactly if it passes the largest number of k
-- digits, so each comparison that holds counts a digit.
use mathlib.Core.Path.{◌≡◌, sym}
use mathlib.Core.Bool.{Bool, true, false}
use Prim.Native.Nat.{ℕ, zero, suc, ◌+◌, ◌*◌, ◌/◌, ◌≤◌, ◌<◌, min}
use native.Mathlib.Omega.{arith}
use borrow.Author.Rules.{rules}
use borrow.Author.Tests.{ltb-true, ltb-false}
use lib.Dec.{ltb}
use lib.ListN.{length}
use mir.Syntax.{w64}
use mir.Val.{Fits, bool_byte}
use Rattle.bits.specs.Decimals.{decimal}
use Rattle.bits.proofs.ChoiceLaws.{by_cases}
use Rattle.bits.proofs.DecimalLaws.{length_more, length_one, decimal_some}
use Rattle.bits.proofs.digits.decimal_length.Goals as goal

-- the largest number of k + 1 digits
abbrev nines : (k : ℕ) → ℕ
nines zero = 9
nines (suc k) = 10 * nines k + 9

-- a number that doesn't pass it has at most k + 1 digits
at_most : (k n : ℕ) → n < 10000000000 → n ≤ nines k → length (decimal n) ≤ suc k
at_most zero n small h = omega (arith, length_one n (omega arith))
at_most (suc k) n small h =
    by_cases
    (ltb 9 n)
    (λ e. omega (arith, length_more n (ltb-true 9 n e) small, at_most k (n / 10) (omega arith) (omega arith)))
    (λ e. omega (arith, length_one n (omega (arith, ltb-false 9 n e))))

-- one that passes it has at least k + 2
another : (k n : ℕ) → n < 10000000000 → nines k < n → suc (suc k) ≤ length (decimal n)
another zero n small h = omega (arith, length_more n h small, decimal_some (n / 10))
another (suc k) n small h = omega (arith, length_more n (omega arith) small, another k (n / 10) (omega arith) (omega arith))

-- so the comparison with it counts the digit behind the first k + 1
counted : (k n : ℕ) → n < 10000000000
    → min (suc (suc k)) (length (decimal n)) ≡ min (suc k) (length (decimal n)) + bool_byte (ltb (nines k) n)
counted k n small =
    by_cases
    (ltb (nines k) n)
    (λ e. rw e (omega (arith, another k n small (ltb-true (nines k) n e))))
    (λ e. rw e (omega (arith, at_most k n small (ltb-false (nines k) n e))))

-- and two comparisons count the digits of a number that has k + 2 to k + 4 of them
group : (k n : ℕ) → n < 10000000000 → nines k < n → n ≤ nines (3 + k)
    → 2 + k + bool_byte (ltb (nines (1 + k)) n) + bool_byte (ltb (nines (2 + k)) n) ≡ length (decimal n)
group k n small h l = omega (arith, another k n small h, at_most (3 + k) n small l, counted (1 + k) n small, counted (2 + k) n small)

-- the sums of a group fit
fits_one : (k : ℕ) (a : Bool) → k ≤ 9 → Fits w64 (k + bool_byte a)
fits_one k true h = omega arith
fits_one k false h = omega arith

fits_two : (k : ℕ) (a b : Bool) → k ≤ 8 → Fits w64 (k + bool_byte a + bool_byte b)
fits_two k true b h = fits_one (k + 1) b (omega arith)
fits_two k false b h = fits_one (k + 0) b (omega arith)

pub overflow_add-k : goal.overflow_add-k
overflow_add-k c = search (rules, fits_one)

pub overflow_add-k-then-n-gt9 : goal.overflow_add-k-then-n-gt9
overflow_add-k-then-n-gt9 c = search (rules, fits_two)

pub overflow_add-k-then-n-gt9999 : goal.overflow_add-k-then-n-gt9999
overflow_add-k-then-n-gt9999 c = search (rules, fits_one)

pub overflow_add-k-then-n-gt9999-2 : goal.overflow_add-k-then-n-gt9999-2
overflow_add-k-then-n-gt9999-2 c = search (rules, fits_two)

pub overflow_add-k-then-n-gt9999999 : goal.overflow_add-k-then-n-gt9999999
overflow_add-k-then-n-gt9999999 c = search (rules, fits_one)

pub overflow_add-k-then-n-gt9999999-2 : goal.overflow_add-k-then-n-gt9999999-2
overflow_add-k-then-n-gt9999999-2 c = search (rules, fits_two)

pub returns-then-n-gt9999999 : goal.returns-then-n-gt9999999
returns-then-n-gt9999999 c = group 6 c.args.n (omega arith) c.if-n-gt9999999.true (omega arith)

pub returns-else-n-gt9999999 : goal.returns-else-n-gt9999999
returns-else-n-gt9999999 c = group 3 c.args.n (omega arith) c.if-n-gt9999.true c.if-n-gt9999999.false

pub returns-else-n-gt9999 : goal.returns-else-n-gt9999
returns-else-n-gt9999 c = group 0 c.args.n (omega arith) c.if-n-gt9.true c.if-n-gt9999.false

pub returns-else-n-gt9 : goal.returns-else-n-gt9
returns-else-n-gt9 c = sym (length_one c.args.n (omega arith))
