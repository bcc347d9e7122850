-- Both forms of a verdict, by name and by number, tell the verdicts apart.
use mathlib.Core.Path.{◌≡◌, refl, sym, ap, ◌∙◌}
use Prim.Native.Nat.{ℕ}
use Rattle.bits.proofs.Never.{never}
use Rattle.framing.specs.Verdicts as F
use Rattle.array.specs.Calls.{verdict_is, verdict_named}
use Rattle.exports.specs.WalkResults.{verdict_number_lem}

-- Verdicts with different names, or numbers, are different.
abbrev pub Apart : {A : Type 0} → (form : F.Verdict → A) → Type 0
Apart form = (v w : F.Verdict) → form v ≡ form w → v ≡ w

pub named_apart : Apart verdict_named
named_apart v w e = sym (back v) ∙ ap verdict_is e ∙ back w
  where
    back : (v : F.Verdict) → verdict_is (verdict_named v) ≡ v
    back F.clean = refl
    back F.partial = refl
    back F.empty = refl

pub number_apart : Apart verdict_number_lem
number_apart F.clean F.clean e = refl
number_apart F.clean F.partial e = never e
number_apart F.clean F.empty e = let z : ◌≡◌ {A = ℕ} 0 1 = cc in never z
number_apart F.partial F.clean e = never (sym e)
number_apart F.partial F.partial e = refl
number_apart F.partial F.empty e = let z : ◌≡◌ {A = ℕ} 0 1 = cc in never z
number_apart F.empty F.clean e = let z : ◌≡◌ {A = ℕ} 0 1 = cc in never z
number_apart F.empty F.partial e = let z : ◌≡◌ {A = ℕ} 0 1 = cc in never z
number_apart F.empty F.empty e = refl
