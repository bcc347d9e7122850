-- What the answer of `fits` says, and what the stores of a record that fits leave: its numbers, each at its place.
use mathlib.Core.Path.{◌≡◌, sym, ap, ◌∙◌}
use mathlib.Core.Bool.{Bool, true, false}
use mathlib.Core.List.{List}
use Prim.Native.Nat.{ℕ, ◌+◌, ◌≤◌, ◌<◌}
use native.Mathlib.Omega.{arith}
use lib.Dec.{leb}
use lib.ListN.{length, set}
use borrow.Author.Tests.{leb-true, leb-false}
use Rattle.bits.specs.Runs.{store}
use Rattle.bits.proofs.RunLaws.{put_six, put_two, store_fits}
use Rattle.framing.specs.Records.{leaf_words, leaf_numbers, pair_words, pair_numbers}

pub fitting : (a b : ℕ) (r : Bool) → r ≡ leb a b → r ≡ true → a ≤ b
fitting a b r e h = leb-true a b (sym e ∙ h)

pub past : (a b : ℕ) (r : Bool) → r ≡ leb a b → r ≡ false → b < a
past a b r e h = leb-false a b (sym e ∙ h)

-- ---- stores

pub leaf_stores : (d : List ℕ) (at a b c e f g : ℕ) → at + leaf_words ≤ length d
    → set (set (set (set (set (set d (at + 0) a) (at + 1) b) (at + 2) c) (at + 3) e) (at + 4) f) (at + 5) g ≡ store d at (leaf_numbers a b c e f g)
leaf_stores d at a b c e f g room =
    let first : at + 0 ≡ at = omega arith in
    ap (λ (k : ℕ). set (set (set (set (set (set d k a) (at + 1) b) (at + 2) c) (at + 3) e) (at + 4) f) (at + 5) g) first
    ∙ put_six d at a b c e f g room
    ∙ sym (store_fits d at (leaf_numbers a b c e f g) room)

pub pair_stores : (d : List ℕ) (at a b : ℕ) → at + pair_words ≤ length d → set (set d (at + 0) a) (at + 1) b ≡ store d at (pair_numbers a b)
pair_stores d at a b room =
    let first : at + 0 ≡ at = omega arith in
    ap (λ (k : ℕ). set (set d k a) (at + 1) b) first ∙ put_two d at a b room ∙ sym (store_fits d at (pair_numbers a b) room)
