-- `geometry::vectors::divisor_of` meets its contract: by the test of e.
use Rattle.std.proofs.Common.{sym}
use borrow.Author.Tests.{eq-eqb, ne_eqb}
use Rattle.geometry.specs.Vectors.{divisor}
use Rattle.geometry.proofs.vectors.divisor_of.Goals as goal

pub returns-then-e-eq0 : goal.returns-then-e-eq0
unfolding divisor
returns-then-e-eq0 c = sym (simp (eq-eqb c.args.e 0 c.if-e-eq0.true))

pub returns-else-e-eq0 : goal.returns-else-e-eq0
unfolding divisor
returns-else-e-eq0 c = sym (simp (ne_eqb c.args.e 0 c.if-e-eq0.false))
