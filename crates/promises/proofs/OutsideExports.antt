-- Bits outside its window alter no answer of a call for C and no buffer: as of the call below it. The theorem on a call is `outside_` and the call's
-- name.
use Prim.Native.Nat.{ℕ}
use mathlib.Core.Path.{◌≡◌, refl, sym, ap, ◌∙◌}
use mathlib.Core.List.{List}
use Rattle.schema.specs.Tables.{Tables}
use Rattle.outputs.specs.Answers.{Lent}
use Rattle.array.specs.Calls.{struct_call, exact_call}
use Rattle.fastarray.specs.Answers as F
use Rattle.exports.specs.Calls.{vrf_read_bits_lem, vrf_read_packed_lem, vrf_read_serialized_lem, CopiesForC, vrf_vector_lem, vrf_normal_lem, vrf_rotation_lem, vrf_movement_lem}
use Rattle.exports.specs.MoveResults.{vector_result, rotation_result, movement_result, rotation_kind_lem, location_kind_lem}
use Rattle.exports.specs.ReadResults.{cursor_of_lem, read_result, packed_result, copy_result}
use Rattle.exports.specs.WalkResults.{Walks, WalksPairs, mode_of, DecodesBody}
use Rattle.exports.specs.declared.VrfCursor.{VrfCursor}
use Rattle.exports.specs.declared.VrfFastArray.{VrfFastArray}
use Rattle.exports.specs.declared.VrfObjects.{VrfObjects}
use Rattle.exports.specs.declared.VrfRead.{VrfRead}
use Rattle.exports.specs.declared.VrfWalk.{VrfWalk}
use Rattle.promises.specs.Outside.{Agree}
use Rattle.promises.proofs.OutsideReads.{outside_read_bits, outside_read_int_packed, outside_read_serialized_int, outside_copy_bits_to, outside_read_vector_net_quantize, outside_read_fixed_vector_normal, outside_read_rotation, outside_read_rep_movement}
use Rattle.promises.proofs.OutsideWalks.{alike, agree_found}
use Rattle.promises.proofs.LongerExports.{longer_vrf_struct_array, longer_vrf_struct_array_exact, longer_vrf_object_array, one_body_run}

-- ---- walks

module _ (s t : List ℕ) (n : ℕ) (same : Agree s t 0 n) where
  -- `vrf_struct_array` answers the same and leaves the same buffers.
  pub outside_vrf_struct_array : (tables : Tables) (levels root : ℕ) (b : Lent) (r q : VrfWalk) (x y : Lent)
      → Walks (struct_call s n tables levels root) b r x → Walks (struct_call t n tables levels root) b q y → (r ≡ q) × (x ≡ y)
  outside_vrf_struct_array = longer_vrf_struct_array s t n (alike s t n same)

  -- `vrf_struct_array_exact` answers the same and leaves the same buffers.
  pub outside_vrf_struct_array_exact : (declared declared_names_lem : List ℕ) (b : Lent) (r q : VrfWalk) (x y : Lent)
      → Walks (exact_call s n declared declared_names_lem) b r x → Walks (exact_call t n declared declared_names_lem) b q y → (r ≡ q) × (x ≡ y)
  outside_vrf_struct_array_exact = longer_vrf_struct_array_exact s t n (alike s t n same)

  -- `vrf_object_array` answers the same and leaves the same buffers.
  pub outside_vrf_object_array : (b : List ℕ) (r q : VrfObjects) (x y : List ℕ)
      → WalksPairs s n b r x → WalksPairs t n b q y → (r ≡ q) × (x ≡ y)
  outside_vrf_object_array = longer_vrf_object_array s t n (alike s t n same)

-- ---- the fast array

-- `vrf_fast_array` answers the same and leaves the same buffers.
pub outside_vrf_fast_array : (s t : List ℕ) (n checksum : ℕ) → Agree s t 0 n → (l : F.Lent) (r q : VrfFastArray) (x y : F.Lent)
    → DecodesBody (F.call s n (mode_of checksum)) l r x → DecodesBody (F.call t n (mode_of checksum)) l q y → (r ≡ q) × (x ≡ y)
outside_vrf_fast_array s t n checksum same = one_body_run s t n checksum (agree_found s t n (mode_of checksum) same)

-- ---- reads at a cursor

module _ (s t : List ℕ) (cursor : VrfCursor) (same : Agree s t cursor.start cursor.len) where
  -- `vrf_read_bits` answers the same.
  pub outside_vrf_read_bits : (n : ℕ) → vrf_read_bits_lem s cursor n ≡ vrf_read_bits_lem t cursor n
  outside_vrf_read_bits n = ap (read_result cursor.pos) (outside_read_bits s t (cursor_of_lem cursor) same n)

  -- `vrf_read_packed` answers the same.
  pub outside_vrf_read_packed : vrf_read_packed_lem s cursor ≡ vrf_read_packed_lem t cursor
  outside_vrf_read_packed = ap (packed_result cursor.pos) (outside_read_int_packed s t (cursor_of_lem cursor) same)

  -- `vrf_read_serialized` answers the same.
  pub outside_vrf_read_serialized : (m : ℕ) → vrf_read_serialized_lem s cursor m ≡ vrf_read_serialized_lem t cursor m
  outside_vrf_read_serialized m = ap (read_result cursor.pos) (outside_read_serialized_int s t (cursor_of_lem cursor) same m)

  -- `vrf_copy_bits` answers the same and leaves the same target.
  pub outside_vrf_copy_bits : (n : ℕ) (d : List ℕ) (r q : VrfRead) (x y : List ℕ) → CopiesForC s cursor n d r x → CopiesForC t cursor n d q y
      → (r ≡ q) × (x ≡ y)
  outside_vrf_copy_bits n d r q x y f g =
      let e = outside_copy_bits_to s t (cursor_of_lem cursor) same n d _ _ _ _ (refl, refl) (refl, refl) in
      (f.0 ∙ ap (copy_result cursor.pos) e.0 ∙ sym g.0, f.1 ∙ e.1 ∙ sym g.1)

  -- `vrf_vector` answers the same.
  pub outside_vrf_vector : (scale : ℕ) → vrf_vector_lem s cursor scale ≡ vrf_vector_lem t cursor scale
  outside_vrf_vector scale = ap (vector_result cursor.pos) (outside_read_vector_net_quantize s t (cursor_of_lem cursor) same scale)

  -- `vrf_normal` answers the same.
  pub outside_vrf_normal : vrf_normal_lem s cursor ≡ vrf_normal_lem t cursor
  outside_vrf_normal = ap (vector_result cursor.pos) (outside_read_fixed_vector_normal s t (cursor_of_lem cursor) same)

  -- `vrf_rotation` answers the same.
  pub outside_vrf_rotation : (w : ℕ) → vrf_rotation_lem s cursor w ≡ vrf_rotation_lem t cursor w
  outside_vrf_rotation w = ap (rotation_result cursor.pos) (outside_read_rotation s t (cursor_of_lem cursor) same w)

-- ---- a movement in the first n bits

-- `vrf_movement` answers the same.
pub outside_vrf_movement : (s t : List ℕ) (n rotation location : ℕ) → Agree s t 0 n
    → vrf_movement_lem s n rotation location ≡ vrf_movement_lem t n rotation location
outside_vrf_movement s t n rotation location same =
    ap movement_result (outside_read_rep_movement s t n (rotation_kind_lem rotation) (location_kind_lem location) same)
