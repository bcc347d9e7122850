-- `exports::moves::location_kind` meets its contract: the tests are those of the definition.
use mathlib.Core.Path.{refl}
use borrow.Author.Tests.{eq-eqb, ne_eqb}
use Rattle.exports.specs.MoveResults.{location_kind_lem}
use Rattle.exports.proofs.moves.location_kind.Goals as goal

pub returns-then-n-eq0 : goal.returns-then-n-eq0
unfolding location_kind_lem
returns-then-n-eq0 c = rw (eq-eqb _ _ c.if-n-eq0.true) refl

pub returns-then-n-eq1 : goal.returns-then-n-eq1
unfolding location_kind_lem
returns-then-n-eq1 c = rw (ne_eqb _ _ c.if-n-eq0.false) (rw (eq-eqb _ _ c.if-n-eq1.true) refl)

pub returns-else-n-eq1 : goal.returns-else-n-eq1
unfolding location_kind_lem
returns-else-n-eq1 c = rw (ne_eqb _ _ c.if-n-eq0.false) (rw (ne_eqb _ _ c.if-n-eq1.false) refl)
