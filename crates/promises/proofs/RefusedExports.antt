-- Each call for C is refused exactly when, and in the order that, document 01 says, with its numbers and values: as the call below it. The theorem
-- on a call is `refused_` and the call's name.
use Rattle.std.specs.Prelude.{if◌then◌else◌, Result, Ok, Err}
use Prim.Native.Nat.{ℕ}
use mathlib.Core.Path.{◌≡◌, refl, sym, ap, ◌∙◌}
use mathlib.Core.Bool.{Bool, true, false}
use mathlib.Core.List.{List, [], ◌∷◌}
use mathlib.Core.Option.{Option, none, some}
use Rattle.bits.specs.Refusals.{Numbered, Rule, first_of}
use Rattle.bitio.specs.Copies.{copy_answer}
use Rattle.bitio.specs.Numbers.{read_int_packed_lem, read_serialized_int_lem}
use Rattle.bitio.specs.Order.{reading_rules, copying_rules, refusal_of}
use Rattle.bitio.specs.Reads.{read_bits_lem}
use Rattle.bitio.specs.Refusals as bitio
use Rattle.bitio.proofs.RefusalOrder.{reading_order, copying_order}
use Rattle.bits.proofs.ChoiceLaws.{by_cases}
use Rattle.bitio.specs.declared.PackedNumber.{PackedNumber}
use Rattle.bitio.specs.declared.Read.{Read}
use Rattle.bitio.specs.declared.Refusal as bit
use Rattle.bitio.specs.declared.Refusal.TheVariants.{TooLong, TooFew, GoesOn, Overflows, NoMaximum, TooMany, Past}
use Rattle.schema.specs.Tables.{Tables}
use Rattle.schema.specs.TwelveLevels.{fill_answer}
use Rattle.schema.specs.declared.Short.{Short}
use Rattle.framing.specs.Counters.{sums}
use Rattle.outputs.specs.Answers.{Call, Lent, answer}
use Rattle.array.specs.Calls.{struct_call, exact_call}
use Rattle.array.specs.Merges.{bounded, merge}
use Rattle.fastarray.specs.Answers as F
use Rattle.fastarray.specs.Order.{rules}
use Rattle.fastarray.specs.Refusals as fast
use Rattle.fastarray.proofs.RefusalOrder.{refusal_order}
use Rattle.std.specs.Prelude.{Result, Ok, Err}
use Rattle.fastarray.specs.declared.Delta.{Delta}
use Rattle.fastarray.specs.declared.Refusal.{Refusal as BodyRefusal}
use Rattle.fastarray.specs.declared.Refusal.TheVariants as body
use Rattle.geometry.specs.Movements.{read_movement}
use Rattle.geometry.specs.Refusals as geometry
use Rattle.geometry.specs.Rotations.{read_rotation_lem}
use Rattle.geometry.specs.Vectors.{read_vector, read_normal}
use Rattle.geometry.specs.declared.Refusal.{Refusal}
use Rattle.geometry.specs.declared.Refusal.TheVariants.{Unread, NoScale, NotFinite, NoSuchWidth}
use Rattle.geometry.specs.declared.Vector.{Vector}
use Rattle.geometry.specs.declared.Rotation.{Rotation}
use Rattle.geometry.specs.declared.Movement.{Movement}
use Rattle.exports.specs.Calls.{vrf_merge_lem, FillsForC, vrf_read_bits_lem, vrf_read_packed_lem, vrf_read_serialized_lem, CopiesForC, vrf_vector_lem, vrf_normal_lem, vrf_rotation_lem, vrf_movement_lem}
use Rattle.exports.specs.MoveResults.{vector_result, rotation_result, movement_result, rotation_kind_lem, location_kind_lem}
use Rattle.exports.specs.ReadResults.{cursor_of_lem, read_result, packed_result, copy_result}
use Rattle.exports.specs.WalkResults.{Walks, walk_result, WalksPairs, objects_result, counters_in, schema_result, mode_of, body_result, DecodesBody}
use Rattle.exports.specs.declared.VrfCounters.{VrfCounters}
use Rattle.exports.specs.declared.VrfCursor.{VrfCursor}
use Rattle.exports.specs.declared.VrfFastArray.{VrfFastArray}
use Rattle.exports.specs.declared.VrfMerge.{VrfMerge}
use Rattle.exports.specs.declared.VrfMovement.{VrfMovement}
use Rattle.exports.specs.declared.VrfObjects.{VrfObjects}
use Rattle.exports.specs.declared.VrfPacked.{VrfPacked}
use Rattle.exports.specs.declared.VrfRead.{VrfRead}
use Rattle.exports.specs.declared.VrfRotation.{VrfRotation}
use Rattle.exports.specs.declared.VrfSchema.{VrfSchema}
use Rattle.exports.specs.declared.VrfVector.{VrfVector}
use Rattle.exports.specs.declared.VrfWalk.{VrfWalk}
use Rattle.promises.specs.ReadOrders.{packed_rules, serialized_rules}
use Rattle.promises.specs.WalkOrders.{walk_rules, pair_rules, merge_rules, fill_rules}
use Rattle.schema.specs.Refusals.{filled_numbered}
use Rattle.promises.specs.MoveOrders as moves
use Rattle.promises.specs.MoveOrders.{vector_rules, normal_rules, rotation_rules, movement_rules}
use Rattle.promises.specs.ExportOrders.{given, in_read, in_packed, in_vector, in_rotation, in_movement, in_walk, in_objects, in_schema, in_fast_array, in_merge, sums_numbered, numbered_rules}
use Rattle.promises.proofs.RefusedReads.{serialized_order}
use Rattle.promises.proofs.RefusedNumbers.{packed_order}
use Rattle.promises.proofs.RefusedWalks.{walk_order, pair_order, fill_order}
use Rattle.promises.proofs.RefusedMoves.{vector_order, normal_order, rotation_order}
use Rattle.promises.proofs.RefusedMovement.{movement_order}

-- ---- numbers of refusals

abbrev mapped : {R : Type 0} → (R → Numbered) → Option R → Option Numbered
mapped f none = none
mapped f (some r) = some (f r)

-- The first rule by its number is the number of the first rule.
first_numbered : {R : Type 0} (f : R → Numbered) (rs : List (Rule R)) → mapped f (first_of rs) ≡ first_of (numbered_rules f rs)
unfolding first_of
first_numbered f [] = refl
first_numbered {R} f (r ∷ rs) = go r.holds (first_numbered f rs)
  where
    go : (b : Bool) → mapped f (first_of rs) ≡ first_of (numbered_rules f rs)
        → mapped f (if b then some r.gives else first_of rs) ≡ (if b then some (f r.gives) else first_of (numbered_rules f rs))
    go true k = refl
    go false k = k

-- No refusal has the number 0.
pub bit_given : (r : bit.Refusal) → let n = bitio.numbered r in given n.number n.first n.second n.third ≡ some n
bit_given TooLong = refl
bit_given (TooFew p l n) = refl
bit_given (GoesOn n) = refl
bit_given (Overflows n) = refl
bit_given NoMaximum = refl
bit_given TooMany = refl
bit_given (Past a b) = refl

pub move_given : (r : Refusal) → let n = geometry.numbered r in given n.number n.first n.second n.third ≡ some n
move_given (Unread r) = bit_given r
move_given NoScale = refl
move_given (NotFinite p) = refl
move_given NoSuchWidth = refl

-- ---- reads

module _ (at : ℕ) where
  read_in : (a : Result (Read ℕ) bit.Refusal) → in_read (read_result at a) ≡ mapped bitio.numbered (refusal_of a)
  read_in (Ok x) = refl
  read_in (Err r) = bit_given r

  packed_in : (a : Result (Read PackedNumber) bit.Refusal) → in_packed (packed_result at a) ≡ mapped bitio.numbered (refusal_of a)
  packed_in (Ok x) = refl
  packed_in (Err r) = bit_given r

  copy_in : (a : Result ℕ bit.Refusal) → in_read (copy_result at a) ≡ mapped bitio.numbered (refusal_of a)
  copy_in (Ok p) = refl
  copy_in (Err r) = bit_given r

  vector_in : (a : Result (Read Vector) Refusal) → in_vector (vector_result at a) ≡ mapped geometry.numbered (moves.refusal_of a)
  vector_in (Ok v) = refl
  vector_in (Err r) = move_given r

  rotation_in : (a : Result (Read Rotation) Refusal) → in_rotation (rotation_result at a) ≡ mapped geometry.numbered (moves.refusal_of a)
  rotation_in (Ok v) = refl
  rotation_in (Err r) = move_given r

movement_in : (a : Result (Read Movement) Refusal) → in_movement (movement_result a) ≡ mapped geometry.numbered (moves.refusal_of a)
movement_in (Ok m) = refl
movement_in (Err r) = move_given r

module _ (bytes : List ℕ) (cursor : VrfCursor) where
  -- `vrf_read_bits` gives 14, 13, 7.
  pub refused_vrf_read_bits : (count : ℕ) (r : VrfRead) → r ≡ vrf_read_bits_lem bytes cursor count
      → in_read r ≡ first_of (numbered_rules bitio.numbered (reading_rules bytes (cursor_of_lem cursor) count))
  refused_vrf_read_bits count r f =
      ap in_read f ∙ read_in cursor.pos (read_bits_lem bytes (cursor_of_lem cursor) count)
      ∙ ap (mapped bitio.numbered) (reading_order bytes (cursor_of_lem cursor) count) ∙ first_numbered bitio.numbered (reading_rules bytes (cursor_of_lem cursor) count)

  -- `vrf_read_packed` gives 14, 7, 8, 9.
  pub refused_vrf_read_packed : (r : VrfPacked) → r ≡ vrf_read_packed_lem bytes cursor
      → in_packed r ≡ first_of (numbered_rules bitio.numbered (packed_rules bytes (cursor_of_lem cursor)))
  refused_vrf_read_packed r f =
      ap in_packed f ∙ packed_in cursor.pos (read_int_packed_lem bytes (cursor_of_lem cursor))
      ∙ ap (mapped bitio.numbered) (packed_order bytes (cursor_of_lem cursor)) ∙ first_numbered bitio.numbered (packed_rules bytes (cursor_of_lem cursor))

  -- `vrf_read_serialized` gives 14, 10, 7.
  pub refused_vrf_read_serialized : (maximum : ℕ) (r : VrfRead) → r ≡ vrf_read_serialized_lem bytes cursor maximum
      → in_read r ≡ first_of (numbered_rules bitio.numbered (serialized_rules bytes (cursor_of_lem cursor) maximum))
  refused_vrf_read_serialized maximum r f =
      ap in_read f ∙ read_in cursor.pos (read_serialized_int_lem bytes (cursor_of_lem cursor) maximum)
      ∙ ap (mapped bitio.numbered) (serialized_order bytes (cursor_of_lem cursor) maximum)
      ∙ first_numbered bitio.numbered (serialized_rules bytes (cursor_of_lem cursor) maximum)

  -- `vrf_copy_bits` gives 14 for the cursor, 14 for the target, 7.
  pub refused_vrf_copy_bits : (count : ℕ) (target : List ℕ) (r : VrfRead) (end : List ℕ) → CopiesForC bytes cursor count target r end
      → in_read r ≡ first_of (numbered_rules bitio.numbered (copying_rules bytes (cursor_of_lem cursor) count target))
  refused_vrf_copy_bits count target r end f =
      ap in_read f.0 ∙ copy_in cursor.pos (copy_answer bytes (cursor_of_lem cursor) count target)
      ∙ ap (mapped bitio.numbered) (copying_order bytes (cursor_of_lem cursor) count target)
      ∙ first_numbered bitio.numbered (copying_rules bytes (cursor_of_lem cursor) count target)

  -- `vrf_vector` gives 14, 11, 7, 12.
  pub refused_vrf_vector : (scale : ℕ) (r : VrfVector) → r ≡ vrf_vector_lem bytes cursor scale
      → in_vector r ≡ first_of (numbered_rules geometry.numbered (vector_rules bytes (cursor_of_lem cursor) scale))
  refused_vrf_vector scale r f =
      ap in_vector f ∙ vector_in cursor.pos (read_vector bytes (cursor_of_lem cursor) scale)
      ∙ ap (mapped geometry.numbered) (vector_order bytes (cursor_of_lem cursor) scale)
      ∙ first_numbered geometry.numbered (vector_rules bytes (cursor_of_lem cursor) scale)

  -- `vrf_normal` gives 14, 7.
  pub refused_vrf_normal : (r : VrfVector) → r ≡ vrf_normal_lem bytes cursor
      → in_vector r ≡ first_of (numbered_rules geometry.numbered (normal_rules bytes (cursor_of_lem cursor)))
  refused_vrf_normal r f =
      ap in_vector f ∙ vector_in cursor.pos (read_normal bytes (cursor_of_lem cursor))
      ∙ ap (mapped geometry.numbered) (normal_order bytes (cursor_of_lem cursor))
      ∙ first_numbered geometry.numbered (normal_rules bytes (cursor_of_lem cursor))

  -- `vrf_rotation` gives 14, 13, 7.
  pub refused_vrf_rotation : (width : ℕ) (r : VrfRotation) → r ≡ vrf_rotation_lem bytes cursor width
      → in_rotation r ≡ first_of (numbered_rules geometry.numbered (rotation_rules bytes (cursor_of_lem cursor) width))
  refused_vrf_rotation width r f =
      ap in_rotation f ∙ rotation_in cursor.pos (read_rotation_lem bytes (cursor_of_lem cursor) width)
      ∙ ap (mapped geometry.numbered) (rotation_order bytes (cursor_of_lem cursor) width)
      ∙ first_numbered geometry.numbered (rotation_rules bytes (cursor_of_lem cursor) width)

-- `vrf_movement` gives 1, 14, then what its parts give.
pub refused_vrf_movement : (bytes : List ℕ) (count rotation location : ℕ) (r : VrfMovement)
    → r ≡ vrf_movement_lem bytes count rotation location
    → in_movement r ≡ first_of (numbered_rules geometry.numbered (movement_rules bytes count (rotation_kind_lem rotation) (location_kind_lem location)))
refused_vrf_movement bytes count rotation location r f =
    ap in_movement f ∙ movement_in (read_movement bytes count (rotation_kind_lem rotation) (location_kind_lem location))
    ∙ ap (mapped geometry.numbered) (movement_order bytes count (rotation_kind_lem rotation) (location_kind_lem location))
    ∙ first_numbered geometry.numbered (movement_rules bytes count (rotation_kind_lem rotation) (location_kind_lem location))

-- ---- walks

walk_in : (c : Call) (b : Lent) → in_walk (walk_result c.how c.bits (answer c b)) ≡ first_of (walk_rules c b)
walk_in c b = walk_order (λ a. in_walk (walk_result c.how c.bits a)) (λ k p n. refl) (λ k n e. simp e) c b

-- `vrf_struct_array` gives 1, 2, 3.
pub refused_vrf_struct_array : (bytes : List ℕ) (bits : ℕ) (t : Tables) (levels root : ℕ) (b : Lent) (r : VrfWalk) (x : Lent)
    → Walks (struct_call bytes bits t levels root) b r x → in_walk r ≡ first_of (walk_rules (struct_call bytes bits t levels root) b)
refused_vrf_struct_array bytes bits t levels root b r x f = ap in_walk f.says ∙ walk_in (struct_call bytes bits t levels root) b

-- `vrf_struct_array_exact` gives 1, 2, 3.
pub refused_vrf_struct_array_exact : (bytes : List ℕ) (bits : ℕ) (declared declared_names_lem : List ℕ) (b : Lent) (r : VrfWalk) (x : Lent)
    → Walks (exact_call bytes bits declared declared_names_lem) b r x → in_walk r ≡ first_of (walk_rules (exact_call bytes bits declared declared_names_lem) b)
refused_vrf_struct_array_exact bytes bits declared declared_names_lem b r x f = ap in_walk f.says ∙ walk_in (exact_call bytes bits declared declared_names_lem) b

-- `vrf_object_array` gives 1, 3.
pub refused_vrf_object_array : (bytes : List ℕ) (bits : ℕ) (b : List ℕ) (r : VrfObjects) (x : List ℕ)
    → WalksPairs bytes bits b r x → in_objects r ≡ first_of (pair_rules bytes bits b)
refused_vrf_object_array bytes bits b r x f =
    ap in_objects f.says ∙ pair_order (λ a. in_objects (objects_result bits a)) (λ k p n. refl) (λ k n e. simp e) bytes bits b

-- ---- a merge, the schema, the fast array

-- `vrf_merge` gives 4.
pub refused_vrf_merge : (left right : VrfCounters) (r : VrfMerge) → r ≡ vrf_merge_lem left right
    → in_merge r ≡ first_of (numbered_rules sums_numbered (merge_rules (counters_in left) (counters_in right)))
unfolding merge first_of
refused_vrf_merge left right r f =
    ap in_merge f ∙ by_cases (bounded (sums (counters_in left) (counters_in right))) (λ e. simp e) (λ e. simp e)

schema_in : (a : Result Unit Short) → (filled_numbered a ≡ in_schema (schema_result a))
schema_in (Ok done) = refl
schema_in (Err need) = refl

-- `vrf_schema` gives 3.
pub refused_vrf_schema : (rows names : List ℕ) (r : VrfSchema) (end : List ℕ × List ℕ) → FillsForC rows names r end.0 end.1
    → in_schema r ≡ first_of (fill_rules rows names)
refused_vrf_schema rows names r end f = ap in_schema f.0 ∙ sym (schema_in (fill_answer rows names)) ∙ fill_order rows names

body_in : (a : Result Delta BodyRefusal) → in_fast_array (body_result a) ≡ fast.numbered a
body_in (Ok d) = refl
body_in (Err body.TooLong) = refl
body_in (Err body.NotFastArray) = refl
body_in (Err (body.Short n)) = refl

-- `vrf_fast_array` gives 1, 6, 3.
pub refused_vrf_fast_array : (payload : List ℕ) (bits checksum : ℕ) (l : F.Lent) (r : VrfFastArray) (x : F.Lent)
    → DecodesBody (F.call payload bits (mode_of checksum)) l r x → in_fast_array r ≡ first_of (rules (F.call payload bits (mode_of checksum)) l)
refused_vrf_fast_array payload bits checksum l r x f =
    let c = F.call payload bits (mode_of checksum) in ap in_fast_array f.says ∙ body_in (F.answer c l) ∙ refusal_order c l
