-- `exports::walks::mode_of` meets its contract: the test is that of the definition.
use mathlib.Core.Path.{refl}
use borrow.Author.Tests.{eq-eqb, ne_eqb}
use Rattle.exports.specs.WalkResults.{mode_of}
use Rattle.exports.proofs.walks.mode_of.Goals as goal

pub returns-then-checksum-eq0 : goal.returns-then-checksum-eq0
unfolding mode_of
returns-then-checksum-eq0 c = rw (eq-eqb _ _ c.if-checksum-eq0.true) refl

pub returns-else-checksum-eq0 : goal.returns-else-checksum-eq0
unfolding mode_of
returns-else-checksum-eq0 c = rw (ne_eqb _ _ c.if-checksum-eq0.false) refl
