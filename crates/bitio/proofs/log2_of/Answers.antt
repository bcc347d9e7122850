-- `bitio::log2_of` meets its contract: 31 less the leading zeros.
use Rattle.std.proofs.Common.{arith}
use lib.Count.{leading_top}
use Rattle.bitio.proofs.NumberLaws.{log2_zeros}
use Rattle.bitio.proofs.log2_of.Goals as goal

pub overflow_sub-result : goal.overflow_sub-result
overflow_sub-result c = omega (arith, log2_zeros c.args.m c.requires c.ranges.m.fits, leading_top 32 c.args.m c.requires c.ranges.m.fits)

pub returns : goal.returns
returns c =
    let z = log2_zeros c.args.m c.requires c.ranges.m.fits in
    record { value = z.0; small = omega arith; below = rw z.0 z.2 }
