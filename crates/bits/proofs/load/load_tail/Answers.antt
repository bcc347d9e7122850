-- `bits::load::load_tail` meets its contract: the last eight bytes, shifted, are the bytes from i on with zeros above them (`tail_word`); and of
-- fewer than eight that are all there are, the field ends where the bytes do.
use Prim.Native.Nat.{◌*◌}
use mathlib.Core.Path.{◌∙◌}
use lib.ListN.{length}
use native.Mathlib.Omega.{arith}
use Rattle.bits.proofs.WordLaws.{tail_word}
use Rattle.bits.proofs.FieldLaws.{num_lt, field_all}
use Rattle.bits.proofs.load.load_tail.Goals as goal

pub returns-then-n-ge8 : goal.returns-then-n-ge8
returns-then-n-ge8 c =
    let s = c.args.s.now in
    tail_word _ _ _ _ (num_lt s (λ i. (c.type_inv.s i).fits)) (omega arith) (omega arith) (omega arith)
    c.load_bytes.ensures

pub returns-else-n-ge8 : goal.returns-else-n-ge8
returns-else-n-ge8 c =
    let s = c.args.s.now in
    c.load_bytes-else-n-ge8.ensures
    ∙ field_all _ _ _ 64 (8 * length s) (num_lt s (λ i. (c.type_inv.s i).fits)) (omega arith) (omega arith)
