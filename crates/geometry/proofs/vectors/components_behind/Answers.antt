-- `geometry::vectors::components_behind` meets its contract: the tests are the definition's, and the numbers have their widths.
use Rattle.std.proofs.Common.{arith, rules}
use Rattle.geometry.proofs.PartLaws.{below_bits, below_components}
use Rattle.geometry.proofs.VectorLaws.{divisor_pos, singles_behind, doubles_behind, integers_behind, vector_refused, vector_read, integers_read}
use Rattle.geometry.proofs.vectors.components_behind.Goals as goal

pub returns-in_err-three : goal.returns-in_err-three
returns-in_err-three c = singles_behind _ _ _ _ _ c.if-w-eq0.true c.if-e-eq0.true (vector_refused _ c.in_err-three.ensures (search rules))

pub of_patterns-requires : goal.of_patterns-requires
of_patterns-requires c = below_bits _ _ 32 c.in_ok-three.ensures

pub returns-then-e-eq0 : goal.returns-then-e-eq0
returns-then-e-eq0 c = singles_behind _ _ _ _ _ c.if-w-eq0.true c.if-e-eq0.true (vector_read _ c.in_ok-three.ensures c.of_patterns.ensures)

pub returns-in_err-three-2 : goal.returns-in_err-three-2
returns-in_err-three-2 c = doubles_behind _ _ _ _ _ c.if-w-eq0.true c.if-e-eq0.false (vector_refused _ c.in_err-three-2.ensures (search rules))

pub returns-then-w-eq0 : goal.returns-then-w-eq0
returns-then-w-eq0 c =
    doubles_behind _ _ _ _ _ c.if-w-eq0.true c.if-e-eq0.false (vector_read _ c.in_ok-three-2.ensures c.of_patterns-then-w-eq0.ensures)

pub returns-in_err-three-3 : goal.returns-in_err-three-3
returns-in_err-three-3 c =
    integers_behind _ _ _ _ _ c.if-w-eq0.false c.divisor_of-by.ensures (vector_refused _ c.in_err-three-3.ensures (search rules))

pub integers-requires : goal.integers-requires
integers-requires c =
    (omega arith, c.requires.0, divisor_pos _ _ c.requires.1 c.divisor_of-by.ensures, below_components _ _ _ c.in_ok-three-3.ensures)

pub returns : goal.returns
returns c =
    integers_behind _ _ _ _ _ c.if-w-eq0.false c.divisor_of-by.ensures
    (integers_read _ _ (omega arith) c.requires.0 (divisor_pos _ _ c.requires.1 c.divisor_of-by.ensures) (omega arith)
    (below_components _ _ _ c.in_ok-three-3.ensures) c.in_ok-three-3.ensures c.integers.ensures)
