-- A dot is stored before the tag, which follows it.
use Rattle.std.proofs.Common.{sym, ap, ◌∙◌, subst, arith, length-set}
use Rattle.steps.specs.Lent.{pools_of}
use Rattle.steps.specs.Paths.{tag_length_lem, TagLies}
use Rattle.steps.proofs.PathLaws.{tag_put}
use Rattle.steps.proofs.paths.write_tag.Goals as goal

pub write_label-requires : goal.write_label-requires
write_label-requires c =
    let a = c.args in
    let n = ap (tag_length_lem a.handle) c.in-Label.is in
    (subst (TagLies (pools_of a.pools.now)) c.in-Label.is c.requires.0, omega (arith, n))

pub write_raw-requires : goal.write_raw-requires
write_raw-requires c =
    let n = ap (tag_length_lem c.args.handle) c.in-Raw.is in
    omega (arith, n)

pub returns-in-Label : goal.returns-in-Label
returns-in-Label c =
    let n = c.write_label.ensures.sized in
    let m = ap (tag_length_lem c.args.handle) c.in-Label.is in
    let a = c.args in
    record { out = tag_put _ _ _ _ _ _ _ c.in-Label.is (omega (arith, n)) c.write_label.ensures.out; sized = sym (length-set a.path.now a.plen 46) ∙ n }

pub returns-in-Raw : goal.returns-in-Raw
returns-in-Raw c =
    let n = c.write_raw.ensures.sized in
    let a = c.args in
    record { out = tag_put _ _ _ _ _ _ _ c.in-Raw.is (omega (arith, n)) c.write_raw.ensures.out; sized = sym (length-set a.path.now a.plen 46) ∙ n }
