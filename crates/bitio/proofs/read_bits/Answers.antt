-- `bitio::read_bits` meets its contract: 14, then 13, then 7, then a field of the bytes.
use Rattle.std.proofs.Common.{◌∙◌, rules}
use Rattle.bitio.specs.Reads.{read_bits_lem}
use Rattle.bitio.proofs.CursorLaws.{passed_on, ways}
use Rattle.bitio.proofs.read_bits.Goals as goal

pub returns-in_err-next : goal.returns-in_err-next
unfolding read_bits_lem
returns-in_err-next c = passed_on _ _ c.from_residual-in_err-next.ensures.1 ∙ search (rules, ways)
