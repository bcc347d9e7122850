-- A table by its rule: the list of what the rule gives at the places 0, 1, 2 and so on has at each place what the rule gives there.
use Rattle.std.proofs.Common.{◌≡◌, ℕ, zero, suc, ◌+◌, ◌<◌, List, [], ◌∷◌, get_or, ap, ◌∙◌, le_of_suc-le-suc, not-suc-le-zero, add-zero, arith}

-- n entries, from place i on
abbrev pub by_rule : (rule : ℕ → ℕ) (i n : ℕ) → List ℕ
by_rule rule i zero = []
by_rule rule i (suc n) = rule i ∷ by_rule rule (suc i) n

from_place : (rule : ℕ → ℕ) (i n k : ℕ) → k < n → get_or (by_rule rule i n) k 0 ≡ rule (k + i)
from_place rule i zero k h = absurd (not-suc-le-zero h)
from_place rule i (suc n) zero h = ap rule (omega arith)
from_place rule i (suc n) (suc k) h = from_place rule (suc i) n k (le_of_suc-le-suc h) ∙ ap rule (omega arith)

pub at_place : (rule : ℕ → ℕ) (n k : ℕ) → k < n → get_or (by_rule rule 0 n) k 0 ≡ rule k
at_place rule n k h = from_place rule 0 n k h ∙ ap rule (add-zero k)
