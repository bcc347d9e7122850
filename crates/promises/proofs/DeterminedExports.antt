-- Each call for C is determined by its contract: what it gives and leaves is said by the definitions of the call below it.
use Prim.Native.Nat.{ℕ}
use mathlib.Core.Path.{◌≡◌, sym, ◌∙◌}
use mathlib.Core.List.{List}
use Rattle.schema.specs.Tables.{Tables}
use Rattle.outputs.specs.Answers.{Call, Lent}
use Rattle.array.specs.Calls.{struct_call, exact_call}
use Rattle.fastarray.specs.Answers as F
use Rattle.geometry.specs.ByteAngles.{byte_angle_steps_lem}
use Rattle.exports.specs.Calls.{vrf_merge_lem, vrf_verdict_lem, FillsForC, vrf_read_bits_lem, vrf_read_packed_lem, vrf_read_serialized_lem, CopiesForC, vrf_vector_lem, vrf_normal_lem, vrf_rotation_lem, vrf_movement_lem}
use Rattle.exports.specs.WalkResults.{Walks, WalksPairs, mode_of, DecodesBody}
use Rattle.exports.specs.declared.VrfCounters.{VrfCounters}
use Rattle.exports.specs.declared.VrfCursor.{VrfCursor}
use Rattle.promises.specs.Determining.{Determines, DeterminesAll}
use Rattle.promises.proofs.Determined.{one_equal, both_equal, three_equal}

-- ---- walks

-- The contract of a struct or exact walk, and that of an object walk.
one_walk : (c : Call) (b : Lent) → DeterminesAll (Walks c b)
one_walk c b r s x y f g = (f.says ∙ sym g.says, f.buffers ∙ sym g.buffers)

one_pairs : (bytes : List ℕ) (bits : ℕ) (b : List ℕ) → DeterminesAll (WalksPairs bytes bits b)
one_pairs bytes bits b r s x y f g = (f.says ∙ sym g.says, f.buffer ∙ sym g.buffer)

-- `vrf_struct_array` has one answer and leaves its three buffers in one state, under any tables.
pub one_vrf_struct_array : (bytes : List ℕ) (bits : ℕ) (t : Tables) (levels root : ℕ) (b : Lent)
    → DeterminesAll (Walks (struct_call bytes bits t levels root) b)
one_vrf_struct_array bytes bits t levels root b = one_walk (struct_call bytes bits t levels root) b

-- `vrf_struct_array_exact` has one answer and leaves its three buffers in one state.
pub one_vrf_struct_array_exact : (bytes : List ℕ) (bits : ℕ) (declared declared_names_lem : List ℕ) (b : Lent)
    → DeterminesAll (Walks (exact_call bytes bits declared declared_names_lem) b)
one_vrf_struct_array_exact bytes bits declared declared_names_lem b = one_walk (exact_call bytes bits declared declared_names_lem) b

-- `vrf_object_array` has one answer and leaves its pairs in one state.
pub one_vrf_object_array : (bytes : List ℕ) (bits : ℕ) (pairs : List ℕ) → DeterminesAll (WalksPairs bytes bits pairs)
one_vrf_object_array bytes bits pairs = one_pairs bytes bits pairs

-- `vrf_merge` has one answer.
pub one_vrf_merge : (left right : VrfCounters) → Determines (λ r. r ≡ vrf_merge_lem left right)
one_vrf_merge left right = one_equal (vrf_merge_lem left right)

-- `vrf_verdict` has one answer.
pub one_vrf_verdict : (counters : VrfCounters) → Determines (λ r. r ≡ vrf_verdict_lem counters)
one_vrf_verdict counters = one_equal (vrf_verdict_lem counters)

-- ---- the schema, and the fast array

-- `vrf_schema` has one answer and leaves both buffers in one state.
pub one_vrf_schema : (rows names : List ℕ)
    → DeterminesAll (λ r (end : List ℕ × List ℕ). FillsForC rows names r end.0 end.1)
one_vrf_schema rows names = three_equal _ _ _

-- `vrf_fast_array` has one answer and leaves its three buffers in one state.
pub one_vrf_fast_array : (payload : List ℕ) (bits checksum : ℕ) (l : F.Lent) → DeterminesAll (DecodesBody (F.call payload bits (mode_of checksum)) l)
one_vrf_fast_array payload bits checksum l r s x y f g =
    let d = f.deleted ∙ sym g.deleted in
    let i' = f.items ∙ sym g.items in
    let k = f.fields ∙ sym g.fields in
    (f.says ∙ sym g.says, λ i. record { deleted = d i; items = i' i; fields = k i })

-- ---- reads

-- `vrf_read_bits` has one answer.
pub one_vrf_read_bits : (bytes : List ℕ) (cursor : VrfCursor) (count : ℕ) → Determines (λ r. r ≡ vrf_read_bits_lem bytes cursor count)
one_vrf_read_bits bytes cursor count = one_equal (vrf_read_bits_lem bytes cursor count)

-- `vrf_read_packed` has one answer.
pub one_vrf_read_packed : (bytes : List ℕ) (cursor : VrfCursor) → Determines (λ r. r ≡ vrf_read_packed_lem bytes cursor)
one_vrf_read_packed bytes cursor = one_equal (vrf_read_packed_lem bytes cursor)

-- `vrf_read_serialized` has one answer.
pub one_vrf_read_serialized : (bytes : List ℕ) (cursor : VrfCursor) (maximum : ℕ)
    → Determines (λ r. r ≡ vrf_read_serialized_lem bytes cursor maximum)
one_vrf_read_serialized bytes cursor maximum = one_equal (vrf_read_serialized_lem bytes cursor maximum)

-- `vrf_copy_bits` has one answer and leaves its target in one state.
pub one_vrf_copy_bits : (bytes : List ℕ) (cursor : VrfCursor) (count : ℕ) (target : List ℕ)
    → DeterminesAll (CopiesForC bytes cursor count target)
one_vrf_copy_bits bytes cursor count target = both_equal _ _

-- ---- vectors, rotations, movement

-- `vrf_vector` has one answer.
pub one_vrf_vector : (bytes : List ℕ) (cursor : VrfCursor) (scale : ℕ) → Determines (λ r. r ≡ vrf_vector_lem bytes cursor scale)
one_vrf_vector bytes cursor scale = one_equal (vrf_vector_lem bytes cursor scale)

-- `vrf_normal` has one answer.
pub one_vrf_normal : (bytes : List ℕ) (cursor : VrfCursor) → Determines (λ r. r ≡ vrf_normal_lem bytes cursor)
one_vrf_normal bytes cursor = one_equal (vrf_normal_lem bytes cursor)

-- `vrf_rotation` has one answer.
pub one_vrf_rotation : (bytes : List ℕ) (cursor : VrfCursor) (width : ℕ) → Determines (λ r. r ≡ vrf_rotation_lem bytes cursor width)
one_vrf_rotation bytes cursor width = one_equal (vrf_rotation_lem bytes cursor width)

-- `vrf_movement` has one answer.
pub one_vrf_movement : (bytes : List ℕ) (count rotation location : ℕ)
    → Determines (λ r. r ≡ vrf_movement_lem bytes count rotation location)
one_vrf_movement bytes count rotation location = one_equal (vrf_movement_lem bytes count rotation location)

-- `vrf_byte_angle_steps` has one answer.
pub one_vrf_byte_angle_steps : (k : ℕ) → Determines (λ r. r ≡ byte_angle_steps_lem k)
one_vrf_byte_angle_steps k = one_equal (byte_angle_steps_lem k)
