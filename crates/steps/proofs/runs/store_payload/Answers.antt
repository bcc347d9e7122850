-- A payload that fits is copied to the part from its place on, and one that does not is not written.
use Rattle.std.proofs.Common.{◌+◌, ◌-◌, ◌<◌, ◌≤◌, length, sym, refl, arith}
use Rattle.bits.specs.Bits.{num, field}
use Rattle.bits.specs.Runs.{bytes_for}
use Rattle.bits.proofs.RunLaws.{length_bytes_of, store_out}
use Rattle.outputs.proofs.FitLaws.{fitting, past}
use Rattle.steps.proofs.StoreLaws.{part_store}
use Rattle.steps.proofs.runs.store_payload.Goals as goal

pub returns-then-not-fits : goal.returns-then-not-fits
returns-then-not-fits c =
    let a = c.args in
    let n = length_bytes_of (bytes_for (a.end - a.«from»)) (field (num a.bytes.now) a.«from» (a.end - a.«from»)) in
    let h : length a.d.now < a.at + bytes_for (a.end - a.«from») = past _ _ _ c.fits.ensures c.if-not-fits.true in
    sym (store_out _ _ _ (omega arith))

pub slice_bounds-copy_field-count : goal.slice_bounds-copy_field-count
slice_bounds-copy_field-count c =
    let room : let a = c.args in a.at + bytes_for (a.end - a.«from») ≤ length a.d.now =
    fitting _ _ _ c.fits.ensures c.if-not-fits.false in
    omega (arith, room)

pub copy_field-requires : goal.copy_field-requires
copy_field-requires c =
    let room : let a = c.args in a.at + bytes_for (a.end - a.«from») ≤ length a.d.now =
    fitting _ _ _ c.fits.ensures c.if-not-fits.false in
    omega (arith, room)

pub returns : goal.returns
returns c =
    let room : let a = c.args in a.at + bytes_for (a.end - a.«from») ≤ length a.d.now =
    fitting _ _ _ c.fits.ensures c.if-not-fits.false in
    let a = c.args in
    let n = length_bytes_of (bytes_for (a.end - a.«from»)) (field (num a.bytes.now) a.«from» (a.end - a.«from»)) in
    part_store _ _ _ _ _ refl (omega (arith, room, n)) c.copy_field.ensures
