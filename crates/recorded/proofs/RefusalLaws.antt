-- An answer that has what a refusal says, and stands where it leaves the cursor, is right for the refusal, whichever reader refuses.
use mathlib.Core.Path.{◌≡◌, ◌∙◌, subst}
use Prim.Native.Nat.{ℕ}
use Rattle.bits.specs.Refusals.{Numbered, refusal}
use Rattle.bitio.specs.Refusals.{saying_of}
use Rattle.bitio.specs.declared.said.Saying.{Saying}
use Rattle.recorded.specs.Says.{Says}
use Rattle.recorded.specs.declared.answers.Answer.{Answer}

pub as_said : (a : Answer) (n : Numbered) {s : Saying} {p q : ℕ} → s ≡ saying_of n → p ≡ q
    → Says a (refusal s.number s.first s.second s.third) → a.cursor ≡ p → Says a n × (a.cursor ≡ q)
as_said a n e f says stands = (subst (λ (s : Saying). Says a (refusal s.number s.first s.second s.third)) e says, stands ∙ f)
