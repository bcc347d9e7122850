-- The contracts of the calls for C, a definition each, over the call's own parameters: the struct that stands for the answer of the call below
-- it. Those of the walks and of the fast array stand in WalkResults, that of `vrf_byte_angle_steps` is geometry's.
use Rattle.std.specs.Prelude.{ℕ, ◌≡◌, List}
use Rattle.bitio.specs.Copies.{copy_answer, copy_target}
use Rattle.bitio.specs.Numbers.{read_int_packed_lem, read_serialized_int_lem}
use Rattle.bitio.specs.Reads.{read_bits_lem}
use Rattle.schema.specs.TwelveLevels.{fill_answer, filled_rows, filled_names}
use Rattle.framing.specs.Verdicts.{counters_verdict}
use Rattle.array.specs.Merges.{merge}
use Rattle.geometry.specs.Movements.{read_movement}
use Rattle.geometry.specs.Rotations.{read_rotation_lem}
use Rattle.geometry.specs.Vectors.{read_vector, read_normal}
use Rattle.exports.specs.MoveResults.{vector_result, rotation_result, movement_result, rotation_kind_lem, location_kind_lem}
use Rattle.exports.specs.ReadResults.{cursor_of_lem, read_result, packed_result, copy_result}
use Rattle.exports.specs.WalkResults.{counters_in, merge_result, verdict_number_lem, schema_result}
use Rattle.exports.specs.declared.VrfCounters.{VrfCounters}
use Rattle.exports.specs.declared.VrfCursor.{VrfCursor}
use Rattle.exports.specs.declared.VrfMerge.{VrfMerge}
use Rattle.exports.specs.declared.VrfMovement.{VrfMovement}
use Rattle.exports.specs.declared.VrfPacked.{VrfPacked}
use Rattle.exports.specs.declared.VrfRead.{VrfRead}
use Rattle.exports.specs.declared.VrfRotation.{VrfRotation}
use Rattle.exports.specs.declared.VrfSchema.{VrfSchema}
use Rattle.exports.specs.declared.VrfVector.{VrfVector}

-- ---- counters

abbrev pub vrf_merge_lem : (left right : VrfCounters) → VrfMerge
vrf_merge_lem left right = merge_result (merge (counters_in left) (counters_in right))

abbrev pub vrf_verdict_lem : VrfCounters → ℕ
vrf_verdict_lem counters = verdict_number_lem (counters_verdict (counters_in counters))

-- ---- the schema

-- what is answered, and what the two buffers hold at the exit
abbrev pub FillsForC : (rows names : List ℕ) → VrfSchema → (endRows endNames : List ℕ) → Type 0
FillsForC rows names r endRows endNames =
    (r ≡ schema_result (fill_answer rows names)) × (endRows ≡ filled_rows rows names) × (endNames ≡ filled_names rows names)

-- ---- reads and copies at a cursor

abbrev pub vrf_read_bits_lem : List ℕ → VrfCursor → (count : ℕ) → VrfRead
vrf_read_bits_lem bytes cursor count = read_result cursor.pos (read_bits_lem bytes (cursor_of_lem cursor) count)

abbrev pub vrf_read_packed_lem : List ℕ → VrfCursor → VrfPacked
vrf_read_packed_lem bytes cursor = packed_result cursor.pos (read_int_packed_lem bytes (cursor_of_lem cursor))

abbrev pub vrf_read_serialized_lem : List ℕ → VrfCursor → (maximum : ℕ) → VrfRead
vrf_read_serialized_lem bytes cursor maximum = read_result cursor.pos (read_serialized_int_lem bytes (cursor_of_lem cursor) maximum)

-- what is answered, and what the target holds at the exit
abbrev pub CopiesForC : List ℕ → VrfCursor → (count : ℕ) → (target : List ℕ) → VrfRead → (end : List ℕ) → Type 0
CopiesForC bytes cursor count target r end =
    (r ≡ copy_result cursor.pos (copy_answer bytes (cursor_of_lem cursor) count target)) × (end ≡ copy_target bytes (cursor_of_lem cursor) count target)

-- ---- vectors, rotations, movement

abbrev pub vrf_vector_lem : List ℕ → VrfCursor → (scale : ℕ) → VrfVector
vrf_vector_lem bytes cursor scale = vector_result cursor.pos (read_vector bytes (cursor_of_lem cursor) scale)

abbrev pub vrf_normal_lem : List ℕ → VrfCursor → VrfVector
vrf_normal_lem bytes cursor = vector_result cursor.pos (read_normal bytes (cursor_of_lem cursor))

abbrev pub vrf_rotation_lem : List ℕ → VrfCursor → (width : ℕ) → VrfRotation
vrf_rotation_lem bytes cursor width = rotation_result cursor.pos (read_rotation_lem bytes (cursor_of_lem cursor) width)

abbrev pub vrf_movement_lem : List ℕ → (count rotation location : ℕ) → VrfMovement
vrf_movement_lem bytes count rotation location = movement_result (read_movement bytes count (rotation_kind_lem rotation) (location_kind_lem location))
