-- `geometry::vectors::of_patterns` meets its contract: each return has the tests that led there.
use Rattle.std.proofs.Common.{sym, ◌∙◌}
use Rattle.geometry.proofs.VectorLaws.{first_infinite, second_infinite, third_infinite, all_finite}
use Rattle.geometry.proofs.vectors.of_patterns.Goals.{then-not-is_finite-via-then-not-is_finite, then-not-is_finite-via-else-not-is_finite+then-not-is_finite-2, then-not-is_finite-via-else-not-is_finite+else-not-is_finite-2+then-not-is_finite-3}
use Rattle.geometry.proofs.vectors.of_patterns.Goals as goal

pub returns-then-not-is_finite : goal.returns-then-not-is_finite
returns-then-not-is_finite g c =
    elim c.then-not-is_finite.branch [
      | then-not-is_finite-via-then-not-is_finite w ↦ first_infinite _ (sym c.is_finite.ensures ∙ w.if-not-is_finite.true)
      | then-not-is_finite-via-else-not-is_finite+then-not-is_finite-2 w ↦
          second_infinite _ (sym c.is_finite.ensures ∙ w.if-not-is_finite.false) (sym w.is_finite-else-not-is_finite.ensures ∙ w.if-not-is_finite-2.true)
      | then-not-is_finite-via-else-not-is_finite+else-not-is_finite-2+then-not-is_finite-3 w ↦
          third_infinite _ (sym c.is_finite.ensures ∙ w.if-not-is_finite.false) (sym w.is_finite-else-not-is_finite.ensures ∙ w.if-not-is_finite-2.false)
          (sym w.is_finite-else-not-is_finite-2.ensures ∙ w.if-not-is_finite-3.true)
    ]

pub returns : goal.returns
returns g c =
    rw (c.double.ensures, c.double-2.ensures, c.double-3.ensures)
    (all_finite _ (sym c.is_finite.ensures ∙ c.if-not-is_finite.false) (sym c.is_finite-else-not-is_finite.ensures ∙ c.if-not-is_finite-2.false)
    (sym c.is_finite-else-not-is_finite-2.ensures ∙ c.if-not-is_finite-3.false))
