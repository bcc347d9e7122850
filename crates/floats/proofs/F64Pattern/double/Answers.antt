-- `double` of `f64` meets its contract: a finite pattern is no NaN.
use lib.Ieee.{binary64}
use Rattle.floats.proofs.Patterns.{pattern_ok}
use Rattle.floats.proofs.F64Pattern.double.Goals as goal

pub float_from_bits-result : goal.float_from_bits-result
float_from_bits-result c = pattern_ok binary64 c.args.n c.requires.finite
