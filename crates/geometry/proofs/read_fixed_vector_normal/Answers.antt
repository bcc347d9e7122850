-- `geometry::read_fixed_vector_normal` meets its contract: a serialized integer lies below its maximum.
use Rattle.std.proofs.Common.{Ok, ap, arith, rules}
use Rattle.geometry.proofs.PartLaws.{below_integers}
use Rattle.geometry.specs.Vectors.{normal_of_lem}
use Rattle.geometry.proofs.VectorLaws.{onward, halted}
use Rattle.geometry.proofs.read_fixed_vector_normal.Goals as goal

pub returns-in_err-axes : goal.returns-in_err-axes
unfolding normal_of_lem
returns-in_err-axes c = halted _ c.in_err-axes.ensures (search rules)

pub normal_of-requires : goal.normal_of-requires
unfolding normal_of_lem
normal_of-requires c = below_integers _ _ 65536 (omega arith) (omega arith) c.in_ok-axes.ensures

pub returns : goal.returns
unfolding normal_of_lem
returns c = onward _ c.in_ok-axes.ensures (ap Ok c.normal_of.ensures)
