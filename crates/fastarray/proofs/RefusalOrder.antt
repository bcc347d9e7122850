-- The call is refused in document 01's order, since its definition asks the rules of specs/Order one after the other; and no refused answer
-- writes.
use mathlib.Core.Path.{◌≡◌, refl}
use mathlib.Core.Bool.{Bool, true, false}
use mathlib.Core.List.{[], ◌∷◌}
use Rattle.std.specs.Prelude.{Option, None, Some, Result, Ok, Err}
use Rattle.std.proofs.Math.Option.{none}
use lib.Dec.{ltb}
use Rattle.bits.specs.Refusals.{refusal, when, first_of}
use Rattle.bits.specs.Sizes.{longest_window}
use Rattle.fastarray.specs.Body.{Body}
use Rattle.fastarray.specs.Answers.{Call, Lent, found, fits_in, decided, answer, at_exit, final_deleted, final_items, final_fields}
use Rattle.fastarray.specs.Refusals.{numbered}
use Rattle.fastarray.specs.Order.{is_none, short_of, rules}
use Rattle.fastarray.specs.declared.Delta.{Delta}
use Rattle.fastarray.specs.declared.Refusal.{Refusal}

decided_order : (o : Option Body) (l : Lent) → numbered (decided o l) ≡ first_of (when (is_none o) (refusal 6 0 0 0) ∷ short_of l o ∷ [])
unfolding decided first_of
decided_order None l = refl
decided_order (Some b) l = go (fits_in b l) refl
  where
    go : (t : Bool) → fits_in b l ≡ t → numbered (decided (Some b) l) ≡ first_of (when (is_none (Some b)) (refusal 6 0 0 0) ∷ short_of l (Some b) ∷ [])
    go true e = simp e
    go false e = simp e

-- The call gives 1, then 6, then 3 with all needs, and else no refusal; no other number is given.
pub refusal_order : (c : Call) (l : Lent) → numbered (answer c l) ≡ first_of (rules c l)
unfolding answer first_of
refusal_order c l = go (ltb longest_window c.bits) refl
  where
    go : (t : Bool) → ltb longest_window c.bits ≡ t → numbered (answer c l) ≡ first_of (rules c l)
    go true e = simp e
    go false e = simp e (decided_order (found c) l)

-- A call that is refused, with whatever number, leaves every buffer as it was lent.
pub refused_buffers : (c : Call) (l : Lent) → (numbered (answer c l) ≡ none → ⊥)
    → (final_deleted c l ≡ l.deleted) × (final_items c l ≡ l.items) × (final_fields c l ≡ l.fields)
unfolding at_exit
refused_buffers c l n = go (answer c l) refl
  where
    go : (r : Result Delta Refusal) → answer c l ≡ r → (final_deleted c l ≡ l.deleted) × (final_items c l ≡ l.items) × (final_fields c l ≡ l.fields)
    go (Ok d) e = absurd (n (rw e refl))
    go (Err k) e = rw e (refl, refl, refl)
