-- `double` of `f32` meets its contract: binary64 has every finite value of binary32, subnormals too.
use lib.Ieee.{binary32}
use Rattle.floats.proofs.Patterns.{pattern_ok, widens_ok}
use Rattle.floats.proofs.F32Pattern.double.Goals as goal

pub float_from_bits-result : goal.float_from_bits-result
float_from_bits-result c = pattern_ok binary32 c.args.n c.requires.finite

pub float_to_float-result : goal.float_to_float-result
float_to_float-result c = widens_ok c.args.n c.requires.finite
