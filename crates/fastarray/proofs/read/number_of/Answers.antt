-- `fastarray::number_of` meets its contract: the window's number is one of the bytes, and each of its cases has its answer.
use mathlib.Core.Path.{sym, ap, ◌∙◌}
use Rattle.bits.specs.Packed.{Packed}
use Rattle.bits.proofs.PaddedLaws.{plain_found}
use Rattle.fastarray.specs.Body.{as_number}
use Rattle.fastarray.specs.Parts.{taken_of}
use Rattle.fastarray.proofs.ReadLaws.{window_packed}
use Rattle.fastarray.proofs.read.number_of.Goals as goal

pub returns-in-Ok : goal.returns-in-Ok
unfolding taken_of as_number
returns-in-Ok c =
    sym (ap (λ (x : Packed). taken_of (as_number c.args.at x)) (window_packed _ _ _ ∙ plain_found _ (sym c.in-Ok.is ∙ c.packed_at.ensures)))

pub returns-in-Err : goal.returns-in-Err
unfolding taken_of as_number
returns-in-Err c =
    sym (ap (λ (x : Packed). taken_of (as_number c.args.at x)) (window_packed _ _ _ ∙ plain_found _ (sym c.in-Err.is ∙ c.packed_at.ensures)))
