-- `geometry::movements::read_spin` meets its contract: the flag says whether it is read.
use Rattle.std.proofs.Common.{rules}
use Rattle.geometry.specs.Parts.{and_then}
use Rattle.geometry.specs.Movements.{spin_at}
use Rattle.geometry.proofs.movements.read_spin.Goals as goal

pub returns-then-not-physics : goal.returns-then-not-physics
unfolding spin_at and_then
returns-then-not-physics c = search rules

pub returns-in_err-v : goal.returns-in_err-v
unfolding spin_at and_then
returns-in_err-v c = search rules

pub returns : goal.returns
unfolding spin_at and_then
returns c = search rules
