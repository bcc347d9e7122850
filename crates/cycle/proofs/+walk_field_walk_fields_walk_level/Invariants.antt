-- The cycle walk_level, walk_fields, walk_field meets its contracts: each turn of a loop keeps that the rest of the walk from here, on the world as it
-- is, comes to what the whole walk comes to from the world at entry (CycleLaws). Levels left and window bits fall at every call.
use Prim.Native.Nat.{◌+◌, ◌*◌, ◌-◌}
use lib.ListN.{take}
use Rattle.steps.specs.Steps.{world_in, SameLent}
use Rattle.cycle.specs.Cycle.{place_of}
use Rattle.cycle.proofs.CycleLaws.{Fielding, Leveling}
use Rattle.cycle.proofs.+walk_field_walk_fields_walk_level.Given as goal

abbrev pub decreases-walk_field : goal.decreases-walk_field
decreases-walk_field l = 3 * l.spot.now.below + (l.piece.now.end - l.from)

abbrev pub decreases-walk_fields : goal.decreases-walk_fields
decreases-walk_fields l = 3 * l.spot.now.below + 1 + (l.piece.now.end - l.from)

abbrev pub decreases-walk_level : goal.decreases-walk_level
decreases-walk_level l = 3 * l.spot.now.below + 2 + (l.piece.now.end - l.from)

abbrev pub invariant-walk_fields-loop-n : goal.invariant-walk_fields-loop-n
invariant-walk_fields-loop-n l =
    Fielding (place_of l.spot l.piece (take l.plen l.initial.out.path.now)) l.index l.from (world_in l.initial.out) (world_in l.out) (take l.plen l.out.path.now) l.at l.left l.first
    × SameLent l.initial.out l.out

abbrev pub decreases-walk_fields-loop-n : goal.decreases-walk_fields-loop-n
decreases-walk_fields-loop-n l =
    l.left

abbrev pub invariant-walk_level-loop-index : goal.invariant-walk_level-loop-index
invariant-walk_level-loop-index l =
    Leveling (place_of l.spot l.piece (take l.plen l.initial.out.path.now)) l.inside l.from l.total l.first (world_in l.initial.out) (world_in l.out) (take l.plen l.out.path.now) l.at l.left
    × SameLent l.initial.out l.out

abbrev pub decreases-walk_level-loop-index : goal.decreases-walk_level-loop-index
decreases-walk_level-loop-index l =
    l.left
