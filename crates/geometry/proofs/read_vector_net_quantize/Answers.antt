-- `geometry::read_vector_net_quantize` meets its contract: the cursor is tested, then the scale, and the rest is `quantized`.
use Rattle.std.proofs.Common.{sym, ◌∙◌, rules}
use borrow.Author.Tests.{eq-eqb, ne_eqb}
use Rattle.geometry.proofs.VectorLaws.{onward, halted}
use Rattle.geometry.proofs.read_vector_net_quantize.Goals as goal

pub returns-in_err-position : goal.returns-in_err-position
returns-in_err-position c = halted _ c.in_err-position.ensures (search rules)

pub returns-then-scale-eq0 : goal.returns-then-scale-eq0
returns-then-scale-eq0 c = onward _ c.in_ok-position.ensures (sym (simp (eq-eqb c.args.scale 0 c.if-scale-eq0.true)))

pub returns : goal.returns
returns c = onward _ c.in_ok-position.ensures (c.quantized.ensures ∙ sym (simp (ne_eqb c.args.scale 0 c.if-scale-eq0.false)))
