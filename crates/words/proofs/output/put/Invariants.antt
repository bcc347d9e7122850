-- Each turn takes a byte or one of the tries.
use Rattle.std.proofs.Common.{length, ◌+◌}
use Rattle.words.proofs.output.put.Given as goal

abbrev pub decreases-loop-rest : goal.decreases-loop-rest
decreases-loop-rest g l = length l.rest + l.tries
