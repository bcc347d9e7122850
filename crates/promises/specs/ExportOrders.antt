-- What a struct for C says of a refusal, and the rules of the calls below it with 01's numbers and values.
use Rattle.std.specs.Prelude.{ℕ, List, map, eqb, if◌then◌else◌}
use Rattle.std.proofs.Math.Option.{Option, none, some}
use Rattle.bits.specs.Refusals.{Numbered, refusal, Rule, when}
use Rattle.array.specs.Merges.{Sums, summed, overflowing}
use Rattle.exports.specs.declared.VrfPacked.{VrfPacked}
use Rattle.exports.specs.declared.VrfRead.{VrfRead}
use Rattle.exports.specs.declared.VrfVector.{VrfVector}
use Rattle.exports.specs.declared.VrfRotation.{VrfRotation}
use Rattle.exports.specs.declared.VrfMovement.{VrfMovement}
use Rattle.exports.specs.declared.VrfWalk.{VrfWalk}
use Rattle.exports.specs.declared.VrfObjects.{VrfObjects}
use Rattle.exports.specs.declared.VrfMerge.{VrfMerge}
use Rattle.exports.specs.declared.VrfSchema.{VrfSchema}
use Rattle.exports.specs.declared.VrfFastArray.{VrfFastArray}

-- the number 0 is no refusal
abbrev pub given : (number first second third : ℕ) → Option Numbered
given n a b c = if eqb n 0 then none else some (refusal n a b c)

abbrev pub in_read : VrfRead → Option Numbered
in_read r = given r.refusal r.first r.second r.third

abbrev pub in_packed : VrfPacked → Option Numbered
in_packed r = given r.refusal r.first r.second r.third

abbrev pub in_vector : VrfVector → Option Numbered
in_vector r = given r.refusal r.first r.second r.third

abbrev pub in_rotation : VrfRotation → Option Numbered
in_rotation r = given r.refusal r.first r.second r.third

abbrev pub in_movement : VrfMovement → Option Numbered
in_movement r = given r.refusal r.first r.second r.third

abbrev pub in_walk : VrfWalk → Option Numbered
in_walk r = given r.refusal r.leaves r.path_bytes r.payload_bytes

abbrev pub in_objects : VrfObjects → Option Numbered
in_objects r = given r.refusal r.pairs 0 0

abbrev pub in_schema : VrfSchema → Option Numbered
in_schema r = given r.refusal r.rows r.names 0

abbrev pub in_fast_array : VrfFastArray → Option Numbered
in_fast_array r = given r.refusal r.deletes r.items r.fields

-- a merge's values are the counters, which stand beside the number
abbrev pub in_merge : VrfMerge → Option Numbered
in_merge r = given r.refusal 0 0 0

abbrev pub sums_numbered : Sums → Numbered
sums_numbered (summed c) = refusal 0 0 0 0
sums_numbered (overflowing k c) = refusal k 0 0 0

-- rules with 01's numbers
abbrev pub numbered_rules : {R : Type 0} → (R → Numbered) → List (Rule R) → List (Rule Numbered)
numbered_rules f rules = map (λ r. when r.holds (f r.gives)) rules
