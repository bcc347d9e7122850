-- A bracket, the digits and a bracket are one run.
use Rattle.std.proofs.Common.{sym, ◌∙◌, arith, length-set}
use Rattle.steps.proofs.PathLaws.{between}
use Rattle.steps.proofs.paths.write_index.Goals as goal

pub returns : goal.returns
returns c =
    let a = c.args in
    let n = c.write_decimal-arg-1.given.0.1 in
    record { out = between _ _ _ _ _ _ _ c.requires.0 (omega (arith, n)) c.write_decimal.ensures.1; sized = sym (length-set a.path.now a.plen 91) ∙ n }
