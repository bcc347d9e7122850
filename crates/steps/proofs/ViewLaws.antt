-- A window inside the bytes: its numbers are the bytes' numbers.
use Rattle.std.proofs.Common.{◌≡◌, ℕ, ◌+◌, ◌-◌, ◌≤◌, List, ap, ◌∙◌, add-zero, arith}
use Rattle.bits.specs.Bits.{num}
use Rattle.bits.specs.Packed.{packed}
use Rattle.bits.proofs.PackedLaws.{packed_window}
use Rattle.framing.specs.Windows.{reading_of, reading}
use Rattle.steps.specs.Views.{inner, up_to}

pub reading_inner : (bytes : List ℕ) (base b end p : ℕ) → b ≤ end → reading (inner bytes base b end) p ≡ reading (up_to bytes end) (b + p)
unfolding reading inner up_to
reading_inner bytes base b end p h =
    let e : b + (end - b) ≡ end = omega arith in
    ap reading_of (packed_window (num bytes) b (end - b) p ∙ ap (λ (k : ℕ). packed (num bytes) k (b + p)) e)

-- the number at its start
pub reading_start : (bytes : List ℕ) (base b end : ℕ) → b ≤ end → reading (inner bytes base b end) 0 ≡ reading (up_to bytes end) b
reading_start bytes base b end h = reading_inner bytes base b end 0 h ∙ ap (λ (k : ℕ). reading (up_to bytes end) k) (add-zero b)
