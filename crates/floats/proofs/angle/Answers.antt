-- `floats::angle` meets its contract: of a byte 45 k / 32 is a value of binary32, so the division loses nothing; of another width k is
-- k * 2 ^ (16 - W) steps of 45 / 2 ^ 13, and their product is exact.
use Rattle.std.proofs.Common.{◌≡◌, ℕ, ◌-◌, ◌*◌, ◌%◌, ◌^◌, ◌<◌, ◌≤◌, false, pos, sym, refl, subst, arith, le→leb}
use lib.Pow.{shl_exact}
use lib.Ieee.{Float, binary32, in_float, of_bits, of_int, mul, div}
use lib.Ieee.Exact.{HasValue}
use Rattle.floats.specs.Numbers.{Angle}
use Rattle.floats.specs.ByteAngles.{by_the_whole}
use Rattle.floats.proofs.ByteAngles.{whole_angle}
use Rattle.floats.proofs.Rounding.{product_angle, short_steps, as_short}
use Rattle.floats.proofs.angle.Goals as goal

-- the code's 32.0 is the whole number 32
over : (n : ℕ) → div binary32 (of_int binary32 (pos n)) (of_bits binary32 1107296256) ≡ div binary32 (of_int binary32 (pos n)) (of_int binary32 (pos 32))
unfolding of_bits of_int
over n = refl

pub returns-then-this-eq8 : goal.returns-then-this-eq8
returns-then-this-eq8 g c =
    let k = c.args.k in
    let n = c.worked_out.result in
    let w : g.row.W ≡ 8 = c.if-this-eq8.true in
    let few : k < 256 = subst (λ (w : ℕ). k < 2 ^ w) w c.requires.steps in
    let whole : div binary32 (of_int binary32 (pos n)) (of_bits binary32 1107296256) ≡ by_the_whole k = rw c.worked_out.ensures (over (45 * k)) in
    subst (λ (w : ℕ). Angle w k (div binary32 (of_int binary32 (pos n)) (of_bits binary32 1107296256))) (sym w) (subst (Angle 8 k) (sym whole) (whole_angle k few))

-- and 360.0 / 65536.0 is exactly 45 / 2 ^ 13
step : Float
step = div binary32 (of_bits binary32 1135869952) (of_bits binary32 1199570944)

step_is : HasValue step false 45 (2 ^ 13)
unfolding step of_bits div
step_is = (refl, refl)

-- a number of steps of 16 bits is a value of binary32
holds : (n : ℕ) → n % 4294967296 ≡ n → n < 65536 → n % 4294967296 ≤ 16777216
holds n e h = omega arith

pub int_to_float-result-2 : goal.int_to_float-result-2
unfolding in_float
int_to_float-result-2 g c =
    let w = g.row.W in
    let k = c.args.k in
    let r = c.requires.width in
    let n = k * 2 ^ (16 - w) in
    let shifted : n % 4294967296 ≡ n = shl_exact w (16 - w) 32 c.requires.steps (omega arith) in
    le→leb (n % 4294967296) 16777216 (holds n shifted (short_steps w k r.1 c.requires.steps))

pub returns : goal.returns
unfolding step
returns g c =
    let w = g.row.W in
    let k = c.args.k in
    let r = c.requires.width in
    let n = k * 2 ^ (16 - w) in
    let shifted : n % 4294967296 ≡ n = shl_exact w (16 - w) 32 c.requires.steps (omega arith) in
    as_short w k r.1 c.requires.steps _ (omega arith)
    (subst (λ (x : ℕ). Angle 16 n (mul binary32 (of_int binary32 (pos x)) step)) (sym shifted)
    (product_angle 16 n step (omega arith) (omega arith) step_is (short_steps w k r.1 c.requires.steps)))
