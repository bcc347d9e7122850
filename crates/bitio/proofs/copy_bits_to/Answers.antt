-- `bitio::copy_bits_to` meets its contract: 14 for the cursor, 14 for the target, 7, and then a copy of the field; a refusal leaves the target alone.
use Rattle.std.proofs.Common.{rules}
use Rattle.bitio.specs.Copies.{pasted}
use Rattle.bitio.proofs.CursorLaws.{passed_on, ways}
use Rattle.bitio.proofs.copy_bits_to.Goals as goal

pub returns-in_err-next : goal.returns-in_err-next
unfolding pasted
returns-in_err-next c =
    let e = passed_on _ _ c.from_residual-in_err-next.ensures.1 in
    search (rules, ways, e)
