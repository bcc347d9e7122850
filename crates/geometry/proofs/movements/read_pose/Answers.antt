-- `geometry::movements::read_pose` meets its contract: the parts are read as the definition says, one after another; every scale is above 0.
use Rattle.std.proofs.Common.{◌≡◌, ℕ, ◌<◌, arith, rules}
use Rattle.geometry.specs.Parts.{and_then}
use Rattle.geometry.specs.Movements.{scale_of, pose_at}
use Rattle.geometry.specs.declared.VectorQuantization.{VectorQuantization}
use Rattle.geometry.specs.declared.VectorQuantization.TheVariants.{RoundWholeNumber, RoundOneDecimal, RoundTwoDecimals}
use Rattle.geometry.proofs.movements.read_pose.Goals as goal

scale_pos : (q : VectorQuantization) {k : ℕ} → k ≡ scale_of q → 0 < k
unfolding scale_of
scale_pos RoundWholeNumber e = omega arith
scale_pos RoundOneDecimal e = omega arith
scale_pos RoundTwoDecimals e = omega arith

pub quantized-requires : goal.quantized-requires
unfolding pose_at and_then
quantized-requires c = scale_pos c.args.location c.scale_of.ensures

pub returns-in_err-place : goal.returns-in_err-place
unfolding pose_at and_then
returns-in_err-place c = search rules

pub returns-in_err-turn : goal.returns-in_err-turn
unfolding pose_at and_then
returns-in_err-turn c = search rules

pub returns-in_err-linear : goal.returns-in_err-linear
unfolding pose_at and_then
returns-in_err-linear c = search rules

pub returns : goal.returns
unfolding pose_at and_then
returns c = search rules
