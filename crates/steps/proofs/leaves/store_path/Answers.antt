-- The tag is written behind the working path, and the whole copied where it fits.
use Rattle.std.proofs.Common.{◌+◌, ◌<◌, ◌≤◌, length, sym, refl, arith}
use native.Mathlib.Nat.{sub-zero}
use Rattle.bits.proofs.RunLaws.{store_out}
use Rattle.outputs.proofs.FitLaws.{fitting, past}
use Rattle.steps.proofs.PathLaws.{take_kept}
use Rattle.steps.proofs.LeafLaws.{path_length_lem, path_copied}
use Rattle.steps.specs.Lent.{pools_of}
use Rattle.steps.proofs.leaves.store_path.Goals as goal

pub returns-then-not-fits : goal.returns-then-not-fits
returns-then-not-fits c =
    let a = c.args in
    let p = c.requires in
    let r = c.path_room.ensures.1 in
    let h : length a.paths.now < a.at + a.n = past _ _ _ c.fits.ensures c.if-not-fits.true in
    let l = path_length_lem (pools_of a.pools.now) a.handle a.tag a.path.now a.plen a.n p.2 r (omega (arith, p.0)) p.0 in
    record { out = sym (store_out _ _ _ (omega (arith, l))); kept = refl; sized = r }

pub write_tag-requires : goal.write_tag-requires
write_tag-requires c =
    let p = c.requires in
    (p.2, omega (arith, p.0))

pub copy_run-requires : goal.copy_run-requires
copy_run-requires c =
    let room : c.args.at + c.args.n ≤ length c.args.paths.now =
    fitting _ _ _ c.fits.ensures c.if-not-fits.false in
    omega (arith, room)

pub returns : goal.returns
returns c =
    let room : c.args.at + c.args.n ≤ length c.args.paths.now =
    fitting _ _ _ c.fits.ensures c.if-not-fits.false in
    let a = c.args in
    let p = c.requires in
    let r = c.path_room.ensures.1 in
    let w = c.write_tag.ensures.out in
    record { out = path_copied (pools_of a.pools.now) a.handle a.tag a.path.now a.plen a.n p.2 r (omega (arith, p.0)) p.0 _ _ _ _ _ (sub-zero _) room w c.copy_run.ensures; kept = take_kept _ _ _ _ w (omega (arith, r, p.0)); sized = r }
