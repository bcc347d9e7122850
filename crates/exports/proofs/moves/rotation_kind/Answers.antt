-- `exports::moves::rotation_kind` meets its contract: the test is that of the definition.
use mathlib.Core.Path.{refl}
use borrow.Author.Tests.{eq-eqb, ne_eqb}
use Rattle.exports.specs.MoveResults.{rotation_kind_lem}
use Rattle.exports.proofs.moves.rotation_kind.Goals as goal

pub returns-then-n-eq0 : goal.returns-then-n-eq0
unfolding rotation_kind_lem
returns-then-n-eq0 c = rw (eq-eqb _ _ c.if-n-eq0.true) refl

pub returns-else-n-eq0 : goal.returns-else-n-eq0
unfolding rotation_kind_lem
returns-else-n-eq0 c = rw (ne_eqb _ _ c.if-n-eq0.false) refl
