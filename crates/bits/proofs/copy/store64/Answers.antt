-- `bits::copy::store64` meets its contract: the part is written anew, and the library's bytes of a word are its run (`word_run`).
use mathlib.Core.Path.{◌∙◌}
use Rattle.bits.proofs.RunLaws.{part_run, word_run}
use native.Mathlib.Omega.{arith}
use Rattle.bits.proofs.RunLaws.{length_bytes_of}
use Rattle.bits.proofs.copy.store64.Goals as goal

pub returns : goal.returns
returns c =
    part_run _ _ _ _ _ (c.copy_from_slice.ensures.after ∙ c.to_le_bytes.ensures ∙ word_run _)
    (omega (arith, length_bytes_of 8 c.args.w))
