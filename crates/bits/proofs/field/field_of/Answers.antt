-- `bits::field::field_of` meets its contract: a field of no bits is 0.
use Rattle.bits.proofs.FieldLaws.{field_empty}
use Rattle.bits.proofs.field.field_of.Goals as goal

pub returns-then-count-eq0 : goal.returns-then-count-eq0
returns-then-count-eq0 c = field_empty _ _ _ c.if-count-eq0.true
