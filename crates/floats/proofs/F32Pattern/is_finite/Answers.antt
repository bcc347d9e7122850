-- `is_finite` of `f32` meets its contract: a pattern without its sign is a finite number below the infinity.
use Rattle.std.proofs.Common.{sym}
use lib.Ieee.{binary32}
use Rattle.floats.proofs.Patterns.{finite_below}
use Rattle.floats.proofs.F32Pattern.is_finite.Goals as goal

pub returns : goal.returns
returns c = sym (finite_below binary32 c.args.n)
