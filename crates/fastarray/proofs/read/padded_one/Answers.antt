-- `fastarray::padded_one` meets its contract: the test is the definition's.
use Rattle.std.specs.Prelude.{if◌then◌else◌}
use mathlib.Core.Path.{◌≡◌, refl, ap, ◌∙◌}
use mathlib.Core.Bool.{Bool, true, false}
use Prim.Native.Nat.{ℕ, ◌+◌}
use mir.Val.{bool_byte}
use Rattle.fastarray.proofs.read.padded_one.Goals as goal

-- what a test adds
counted : (k : ℕ) (b : Bool) → k + bool_byte b ≡ k + (if b then 1 else 0)
counted k true = refl
counted k false = refl

pub returns : goal.returns
returns c = ap (λ (b : Bool). c.args.count + bool_byte b) c.is_padded.ensures ∙ counted _ _
