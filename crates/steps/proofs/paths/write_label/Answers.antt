-- A plain label is written digit by digit, and any other is a part of its pool.
use Rattle.std.proofs.Common.{arith, length-set}
use Rattle.steps.proofs.PathLaws.{plain_length, plain_put, declared_named, schema_named, named_length, named_put}
use Rattle.steps.proofs.paths.write_label.Goals as goal

pub bounds-path-at : goal.bounds-path-at
bounds-path-at c = omega (arith, plain_length _ c.args.handle c.in-Plain.is)

pub bounds-path-at-in-Plain : goal.bounds-path-at-in-Plain
bounds-path-at-in-Plain c = omega (arith, plain_length _ c.args.handle c.in-Plain.is)

pub copy_run-requires : goal.copy_run-requires
copy_run-requires c =
    let n = named_length _ c.args.handle _ _ c.requires.0 (declared_named _ _ _ c.in-Declared.is) c.label_part-name.ensures in
    omega (arith, n, c.copy_run-arg-1.given.0.1)

pub copy_run-requires-in-Named : goal.copy_run-requires-in-Named
copy_run-requires-in-Named c =
    let n = named_length _ c.args.handle _ _ c.requires.0 (schema_named _ _ _ c.in-Named.is) c.label_part-name-in-Named.ensures in
    omega (arith, n, c.copy_run-arg-in-Named-1.given.0.1)

pub returns-in-Plain : goal.returns-in-Plain
returns-in-Plain c =
    let p = c.in-Plain.is in
    let n = c.write_decimal-arg-1.given.0.1 in
    record { out = plain_put _ _ _ _ _ _ p (omega (arith, n, plain_length _ c.args.handle p)) c.write_decimal.ensures.1; sized = simp length-set at n }

pub returns-in-Declared : goal.returns-in-Declared
returns-in-Declared c = record { out = named_put _ _ _ _ c.requires.0 (declared_named _ _ _ c.in-Declared.is) c.label_part-name.ensures _ _ _ c.copy_run.ensures; sized = c.copy_run-arg-1.given.0.1 }

pub returns-in-Named : goal.returns-in-Named
returns-in-Named c = record { out = named_put _ _ _ _ c.requires.0 (schema_named _ _ _ c.in-Named.is) c.label_part-name-in-Named.ensures _ _ _ c.copy_run-in-Named.ensures; sized = c.copy_run-arg-in-Named-1.given.0.1 }
