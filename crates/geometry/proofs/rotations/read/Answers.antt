-- `geometry::rotations::read` meets its contract: an axis has so many bits, and each is its angle.
use Rattle.std.proofs.Common.{◌≤◌, ◌^◌, arith, rules, pow_mono}
use Rattle.geometry.proofs.PartLaws.{below_axes}
use Rattle.geometry.proofs.RotationLaws.{rotation_refused, rotation_read}
use Rattle.geometry.proofs.rotations.read.Goals as goal

pub returns-in_err-axes : goal.returns-in_err-axes
returns-in_err-axes g c = rotation_refused _ c.in_err-axes.ensures (search rules)

pub overflow_cast-k : goal.overflow_cast-k
overflow_cast-k g c =
    let b = below_axes _ _ g.row.W c.in_ok-axes.ensures in
    let m : 2 ^ g.row.W ≤ 2 ^ 16 = pow_mono {i = g.row.W} {j = 16} (omega arith) in
    omega (arith, b.below_x)

pub overflow_cast-k-2 : goal.overflow_cast-k-2
overflow_cast-k-2 g c =
    let b = below_axes _ _ g.row.W c.in_ok-axes.ensures in
    let m : 2 ^ g.row.W ≤ 2 ^ 16 = pow_mono {i = g.row.W} {j = 16} (omega arith) in
    omega (arith, b.below_y)

pub overflow_cast-k-3 : goal.overflow_cast-k-3
overflow_cast-k-3 g c =
    let b = below_axes _ _ g.row.W c.in_ok-axes.ensures in
    let m : 2 ^ g.row.W ≤ 2 ^ 16 = pow_mono {i = g.row.W} {j = 16} (omega arith) in
    omega (arith, b.below_z)

pub angle-requires-clause-steps : goal.angle-requires-clause-steps
angle-requires-clause-steps g c = (below_axes _ _ g.row.W c.in_ok-axes.ensures).below_x

pub angle-requires-2-clause-steps : goal.angle-requires-2-clause-steps
angle-requires-2-clause-steps g c = (below_axes _ _ g.row.W c.in_ok-axes.ensures).below_y

pub angle-requires-3-clause-steps : goal.angle-requires-3-clause-steps
angle-requires-3-clause-steps g c = (below_axes _ _ g.row.W c.in_ok-axes.ensures).below_z

pub returns : goal.returns
returns g c = rotation_read _ c.in_ok-axes.ensures c.angle.ensures.value c.angle-2.ensures.value c.angle-3.ensures.value
