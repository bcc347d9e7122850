-- `geometry::movements::read_record` meets its contract: the stages follow one another as the definition says.
use Rattle.std.proofs.Common.{rules}
use Rattle.geometry.specs.Parts.{and_then}
use Rattle.geometry.specs.Movements.{movement_at}
use Rattle.geometry.proofs.movements.read_record.Goals as goal

pub returns-in_err-f : goal.returns-in_err-f
unfolding movement_at and_then
returns-in_err-f c = search rules

pub returns-in_err-p : goal.returns-in_err-p
unfolding movement_at and_then
returns-in_err-p c = search rules

pub returns-in_err-x : goal.returns-in_err-x
unfolding movement_at and_then
returns-in_err-x c = search rules

pub returns : goal.returns
unfolding movement_at and_then
returns c = search rules
