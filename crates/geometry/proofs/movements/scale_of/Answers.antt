-- `geometry::movements::scale_of` meets its contract: by its cases.
use Rattle.std.proofs.Common.{rules}
use Rattle.geometry.specs.Movements.{scale_of}
use Rattle.geometry.proofs.movements.scale_of.Goals as goal

pub returns-in-RoundWholeNumber : goal.returns-in-RoundWholeNumber
unfolding scale_of
returns-in-RoundWholeNumber c = search rules

pub returns-in-RoundOneDecimal : goal.returns-in-RoundOneDecimal
unfolding scale_of
returns-in-RoundOneDecimal c = search rules

pub returns-in-RoundTwoDecimals : goal.returns-in-RoundTwoDecimals
unfolding scale_of
returns-in-RoundTwoDecimals c = search rules
