-- Two answers that meet a call's contract are the same, with the same contents of every lent buffer. There is one file for each crate with public
-- calls; the theorem on a call is `one_` and the call's name. What stands behind `Determines` is the one definition that the
-- contract cites, over the same parameters.
use mathlib.Core.Path.{◌≡◌, sym, ◌∙◌}
use Rattle.promises.specs.Determining.{Determines, DeterminesAll}

-- An answer that is what a definition gives is the only one: it carries every contract that is one equation.
pub one_equal : {A : Type 0} (x : A) → Determines (λ (r : A). r ≡ x)
one_equal x r s f g = f ∙ sym g

-- The same of an answer and one buffer.
pub both_equal : {A B : Type 0} (x : A) (d : B) → DeterminesAll (λ (r : A) (end : B). (r ≡ x) × (end ≡ d))
both_equal x d r s y z f g = (f.0 ∙ sym g.0, f.1 ∙ sym g.1)

-- The same of an answer and two buffers.
pub three_equal : {A B D : Type 0} (x : A) (d : B) (e : D) → DeterminesAll (λ (r : A) (end : B × D). (r ≡ x) × (end.0 ≡ d) × (end.1 ≡ e))
three_equal x d e r s y z f g =
    let p = f.1 ∙ sym g.1 in
    let q = f.2 ∙ sym g.2 in
    (f.0 ∙ sym g.0, λ i. (p i, q i))
