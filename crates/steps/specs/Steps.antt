-- What a step of the code is handed, and what it leaves.
use Rattle.std.specs.Prelude.{◌≡◌, ℕ, ◌+◌, ◌*◌, ◌≤◌, List, length, take}
use Rattle.bits.specs.Sizes.{longest_window}
use Rattle.framing.specs.Events.{Trace}
use Rattle.outputs.specs.World.{World}
use Rattle.steps.specs.Tally.{world_of, played}
use Rattle.steps.specs.declared.writes.Outputs.{Outputs}

-- the bits from `start` to before `end` lie in the bytes, and are not too many
abbrev pub Lies : (bytes : List ℕ) (start end : ℕ) → Type 0
Lies bytes start end = (start ≤ end) × (end ≤ 8 * length bytes) × (end ≤ longest_window)

-- the bits before `end` stand in a root window that is not too long, if the bytes start at its bit `base`
abbrev pub InRoot : (base end : ℕ) → Type 0
InRoot base end = base + end ≤ longest_window

-- the world that what is lent stands for
abbrev pub world_in : Outputs → World
world_in o = world_of o.tally o.records.now o.paths.now o.payloads.now

-- the same is lent as before, and each output is as long
pub record SameLent (o o' : Outputs) : Type 0 where
  pub path : o'.path.ghost_name ≡ o.path.ghost_name
  pub records : o'.records.ghost_name ≡ o.records.ghost_name
  pub paths : o'.paths.ghost_name ≡ o.paths.ghost_name
  pub payloads : o'.payloads.ghost_name ≡ o.payloads.ghost_name
  pub records_held : length o'.records.now ≡ length o.records.now
  pub paths_held : length o'.paths.now ≡ length o.paths.now
  pub payloads_held : length o'.payloads.now ≡ length o.payloads.now

-- A step made of the world what its trace makes of it. The working path, of which the first plen bytes count, is where it was.
pub record Plays (trace : Trace) (plen : ℕ) (o o' : Outputs) : Type 0 where
  pub out : world_in o' ≡ played trace (world_in o)
  pub kept : take plen o'.path.now ≡ take plen o.path.now
  pub lent : SameLent o o'
