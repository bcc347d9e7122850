-- A tail is the leaf with the tag `_raw`, which lies in no pool.
use Rattle.std.proofs.Common.{◌+◌, arith, refl, rules}
use Rattle.framing.specs.Events.{raw_handle}
use Rattle.steps.specs.Lent.{no_pools}
use Rattle.steps.specs.declared.Tag.TheVariants as tag
use Rattle.steps.proofs.LeafLaws.{leaf_put}
use Rattle.steps.proofs.leaves.put_tail.Goals as goal

pub store_path-requires : goal.store_path-requires
store_path-requires c =
    (omega arith, omega (arith, c.requires.1), tt)

pub put_rest-requires : goal.put_rest-requires
put_rest-requires c =
    (c.requires.0, omega (arith, c.requires.1))

pub returns : goal.returns
returns c =
    let a = c.args in
    let written = leaf_put no_pools raw_handle tag.Raw a.out.now.path.now a.plen (a.plen + 5) tt c.store_path.ensures.sized (omega (arith, c.requires.1)) (omega arith) _ _ _ _ in
    record {
      out = written _ _ _ _ _ _ _ _ c.put_rest.ensures.counts c.put_rest.ensures.recorded c.store_path.ensures.out c.put_rest.ensures.loaded;
      kept = c.store_path.ensures.kept;
      lent = record { path = refl; records = refl; paths = refl; payloads = refl; records_held = search rules; paths_held = search rules; payloads_held = search rules };
    }
