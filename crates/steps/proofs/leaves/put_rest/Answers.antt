-- The record and the payload are written where the places say, and the places pass them.
use Rattle.steps.proofs.leaves.put_rest.Goals as goal

pub returns : goal.returns
returns c = record { counts = c.reserve.ensures; recorded = c.store_leaf.ensures; loaded = c.store_payload.ensures }
