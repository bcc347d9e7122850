-- A leaf's path is written, which has room for it, and the rest of the leaf with it.
use Rattle.std.proofs.Common.{ℕ, ◌+◌, ap, refl, arith, rules}
use Rattle.steps.specs.Lent.{pools_of}
use Rattle.steps.proofs.LeafLaws.{tag_short, leaf_put}
use Rattle.steps.proofs.leaves.put_leaf.Goals as goal

pub overflow_add-n-2 : goal.overflow_add-n-2
overflow_add-n-2 c =
    let a = c.args in
    omega (arith, c.tag_length.ensures, tag_short (pools_of a.pools.now) a.handle a.tag c.requires.2)

pub store_path-requires : goal.store_path-requires
store_path-requires c =
    let a = c.args in
    let h = tag_short (pools_of a.pools.now) a.handle a.tag c.requires.2 in
    (ap (λ (k : ℕ). a.plen + 1 + k) c.tag_length.ensures, omega (arith, c.requires.1, c.tag_length.ensures, h), c.requires.2)

pub put_rest-requires : goal.put_rest-requires
put_rest-requires c =
    let a = c.args in
    let h = tag_short (pools_of a.pools.now) a.handle a.tag c.requires.2 in
    (c.requires.0, omega (arith, c.requires.1, c.tag_length.ensures, h))

pub returns : goal.returns
returns c =
    let a = c.args in
    let p = c.requires in
    let written = leaf_put (pools_of a.pools.now) a.handle a.tag a.out.now.path.now a.plen _ p.2 c.store_path.ensures.sized (omega (arith, p.1)) (ap (λ (k : ℕ). a.plen + 1 + k) c.tag_length.ensures) _ _ _ _ in
    record {
      out = written _ _ _ _ _ _ _ _ c.put_rest.ensures.counts c.put_rest.ensures.recorded c.store_path.ensures.out c.put_rest.ensures.loaded;
      kept = c.store_path.ensures.kept;
      lent = record { path = refl; records = refl; paths = refl; payloads = refl; records_held = search rules; paths_held = search rules; payloads_held = search rules };
    }
