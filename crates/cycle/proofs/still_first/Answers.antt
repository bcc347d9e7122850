-- `cycle::still_first` meets its contract: where it was not the first, the next is not; else two positions are one exactly if the payload has no
-- bits.
use borrow.Author.Rules.{rules}
use mathlib.Core.Path.{◌≡◌, refl, sym, ap, ◌∙◌}
use mathlib.Core.Bool.{Bool, true, false, ◌&&◌}
use Prim.Native.Nat.{ℕ, ◌-◌, ◌≤◌}
use native.Mathlib.Omega.{arith}
use lib.Dec.{eqb}
use borrow.Author.Tests.{eqb-true, eqb-false, eq-eqb, ne_eqb}
use Rattle.cycle.proofs.still_first.Goals as goal

same : (a b : ℕ) → a ≤ b → eqb a b ≡ eqb (b - a) 0
same a b h = go (eqb a b) refl
  where
    go : (x : Bool) → eqb a b ≡ x → x ≡ eqb (b - a) 0
    go true e = let z = eqb-true a b e in sym (eq-eqb (b - a) 0 (omega arith))
    go false e = sym (ne_eqb (b - a) 0 (λ z. eqb-false a b e (omega arith)))

no_more : (x y : Bool) → x ≡ false → false ≡ (x && y)
no_more x y e = rw (e)

still : (x : Bool) (a b : ℕ) → a ≤ b → x ≡ true → eqb a b ≡ (x && eqb (b - a) 0)
still x a b h e = same a b h ∙ ap (λ (k : Bool). k && eqb (b - a) 0) (sym (e))

pub returns-then-not-first : goal.returns-then-not-first
returns-then-not-first c = let a = c.args in no_more a.first (eqb (a.next - a.body) 0) c.if-not-first.true

pub returns : goal.returns
returns c = let a = c.args in still a.first a.body a.next (search rules) c.if-not-first.false
