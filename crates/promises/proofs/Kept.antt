-- A refusal leaves every lent buffer as it was lent: the contract says the buffers by the same choice as the answer. The theorem on a call is
-- `kept_` and the call's name. The calls for C say 0 where they refuse nothing.
use Rattle.std.specs.Prelude.{Result, Ok, Err}
use Prim.Native.Nat.{ℕ, ◌+◌, ◌<◌}
use mathlib.Core.Path.{◌≡◌, refl, sym, ap, ◌∙◌}
use mathlib.Core.Bool.{Bool, true, false}
use mathlib.Core.List.{List}
use mathlib.Core.Option.{none, some}
use lib.ListN.{length}
use Rattle.bits.specs.Refusals.{Numbered}
use Rattle.bits.proofs.Never.{never}
use Rattle.bits.proofs.RunLaws.{store_out}
use Rattle.bitio.specs.Copies.{copy_answer, CopiesBits}
use Rattle.bitio.proofs.CopyLaws.{refused_target}
use Rattle.bitio.specs.Order.{refusal_of}
use Rattle.bitio.specs.declared.Cursor.{Cursor}
use Rattle.bitio.specs.declared.Refusal.{Refusal}
use Rattle.bits.specs.Decimals.{decimal, WritesDecimal}
use Rattle.schema.specs.Tables.{Tables}
use Rattle.schema.specs.TwelveLevels.{enough, fill_answer, filled_rows, filled_names, FillsSchema}
use Rattle.schema.specs.declared.Short.{Short}
use Rattle.framing.specs.Refusing.{Room, Answer, refused, accepted}
use Rattle.outputs.specs.Answers.{Call, Lent, answer, pair_answer}
use Rattle.outputs.proofs.Passes.{refusal_keeps, pairs_refusal_keeps}
use Rattle.array.specs.Calls.{struct_call, exact_call, Decodes, DecodesPairs}
use Rattle.array.specs.Refusals.{StructArray, ObjectArray, answer_of, pairs_of}
use Rattle.array.proofs.OneAnswer.{refused_buffers, refused_pairs_lem}
use Rattle.fastarray.specs.Answers as F
use Rattle.fastarray.specs.Refusals.{numbered}
use Rattle.fastarray.proofs.RefusalOrder as fast
use Rattle.fastarray.specs.declared.ChecksumMode.{ChecksumMode}
use Rattle.std.specs.Prelude.{Result, Ok, Err}
use Rattle.fastarray.specs.declared.Delta.{Delta}
use Rattle.fastarray.specs.declared.Refusal.{Refusal as BodyRefusal}
use Rattle.fastarray.specs.declared.Refusal.TheVariants as body
use Rattle.exports.specs.Calls.{FillsForC, CopiesForC}
use Rattle.exports.specs.ReadResults.{cursor_of_lem, copy_result}
use Rattle.exports.specs.WalkResults.{Walks, WalksPairs, walk_result, objects_result, schema_result, mode_of, body_result, DecodesBody}
use Rattle.exports.specs.declared.VrfCursor.{VrfCursor}
use Rattle.exports.specs.declared.VrfRead.{VrfRead}
use Rattle.exports.specs.declared.VrfWalk.{VrfWalk}
use Rattle.exports.specs.declared.VrfObjects.{VrfObjects}
use Rattle.exports.specs.declared.VrfSchema.{VrfSchema}
use Rattle.exports.specs.declared.VrfFastArray.{VrfFastArray}
use Rattle.promises.specs.WalkOrders.{of_walk, of_pairs}
use Rattle.schema.specs.Refusals.{filled_numbered}

-- ---- walks

-- A struct or exact walk.
kept_leaves : (c : Call) (b : Lent) (r : StructArray) (x : Lent) (n : Numbered) → Decodes c b r x → of_walk (answer_of r) ≡ some n → x ≡ b
kept_leaves c b r x n f e = go (answer_of r) refl e
  where
    go : (a : Answer Room) → answer_of r ≡ a → of_walk a ≡ some n → x ≡ b
    go (accepted k p m) h e = let z : ◌≡◌ {A = ℕ} 0 1 = cc in never z
    go (refused k m) h e = refused_buffers c b r x f k m h

-- A refused struct walk leaves its three buffers as lent.
pub kept_decode_struct_array : (bytes : List ℕ) (bits : ℕ) (t : Tables) (levels root : ℕ) (b : Lent) (r : StructArray) (x : Lent) (n : Numbered)
    → Decodes (struct_call bytes bits t levels root) b r x → of_walk (answer_of r) ≡ some n → x ≡ b
kept_decode_struct_array bytes bits t levels root = kept_leaves (struct_call bytes bits t levels root)

-- A refused exact walk leaves its three buffers as lent.
pub kept_decode_struct_array_exact : (bytes : List ℕ) (bits : ℕ) (declared declared_names_lem : List ℕ) (b : Lent) (r : StructArray) (x : Lent) (n : Numbered)
    → Decodes (exact_call bytes bits declared declared_names_lem) b r x → of_walk (answer_of r) ≡ some n → x ≡ b
kept_decode_struct_array_exact bytes bits declared declared_names_lem = kept_leaves (exact_call bytes bits declared declared_names_lem)

-- A refused object walk leaves its pairs as lent.
pub kept_decode_object_ref_array : (bytes : List ℕ) (bits : ℕ) (b : List ℕ) (r : ObjectArray) (x : List ℕ) (n : Numbered)
    → DecodesPairs bytes bits b r x → of_pairs (pairs_of r) ≡ some n → x ≡ b
kept_decode_object_ref_array bytes bits b r x n f e = go (pairs_of r) refl e
  where
    go : (a : Answer ℕ) → pairs_of r ≡ a → of_pairs a ≡ some n → x ≡ b
    go (accepted k p m) h e = let z : ◌≡◌ {A = ℕ} 0 1 = cc in never z
    go (refused k m) h e = refused_pairs_lem bytes bits b r x f k m h

-- ---- the fast array

-- A refused fast-array call leaves its three buffers as lent.
pub kept_decode_fast_array_delta : (payload : List ℕ) (bits : ℕ) (mode : ChecksumMode) (l : F.Lent) (r : Result Delta BodyRefusal) (x : F.Lent) (n : Numbered)
    → F.Answered (F.call payload bits mode) l r x → numbered r ≡ some n → x ≡ l
kept_decode_fast_array_delta payload bits mode l r x n f e =
    let k = fast.refused_buffers (F.call payload bits mode) l
    (λ g. let h : none ≡ some n = sym g ∙ ap numbered (sym f.says) ∙ e in let z : ◌≡◌ {A = ℕ} 0 1 = cc in never z) in
    let d = f.deleted ∙ k.0 in
    let i' = f.items ∙ k.1 in
    let o = f.fields ∙ k.2 in
    λ i. record { deleted = d i; items = i' i; fields = o i }

-- ---- copies

-- A refused copy leaves its target as lent.
pub kept_copy_bits_to : (bytes : List ℕ) (c : Cursor) (count : ℕ) (dst : List ℕ) (r : Result ℕ Refusal) (end : List ℕ) (n : Refusal)
    → CopiesBits bytes c count dst r end → refusal_of r ≡ some n → end ≡ dst
kept_copy_bits_to bytes c count dst r end n f e = go r f.0 e
  where
    go : (r : Result ℕ Refusal) → r ≡ copy_answer bytes c count dst → refusal_of r ≡ some n → end ≡ dst
    go (Ok next) g e = let z : ◌≡◌ {A = ℕ} 0 1 = cc in never z
    go (Err k) g e = f.1 ∙ refused_target bytes c count dst k (sym g)

-- ---- the schema's two buffers

-- A refused fill leaves rows and names as lent.
pub kept_fill_schema : (rows names : List ℕ) (r : Result Unit Short) (end : List ℕ × List ℕ) (n : Numbered)
    → FillsSchema rows names r end.0 end.1 → filled_numbered r ≡ some n → (end.0 ≡ rows) × (end.1 ≡ names)
unfolding fill_answer filled_rows filled_names
kept_fill_schema rows names r end n f e = go (enough rows names) refl
  where
    go : (b : Bool) → enough rows names ≡ b → (end.0 ≡ rows) × (end.1 ≡ names)
    go true t =
        let d : fill_answer rows names ≡ Ok tt = simp t in
        let k : none ≡ some n = sym (ap filled_numbered (f.0 ∙ d)) ∙ e in
        let z : ◌≡◌ {A = ℕ} 0 1 = cc in
        never z
    go false t = (f.1 ∙ simp t, f.2 ∙ simp t)

-- ---- decimals: `write_decimal` refuses nothing, and writes nothing where the digits don't fit

-- Digits that don't fit leave the buffer as lent.
pub kept_write_decimal : (d : List ℕ) (at n : ℕ) (r : ℕ) (end : List ℕ) → WritesDecimal d at n r end → length d < at + length (decimal n) → end ≡ d
kept_write_decimal d at n r end f h = f.1 ∙ store_out d at (decimal n) h

-- ---- the calls for C

-- A struct or exact walk.
kept_walk : (c : Call) (b : Lent) (r : VrfWalk) (x : Lent) → Walks c b r x → (r.refusal ≡ 0 → ⊥) → x ≡ b
kept_walk c b r x f e = go (answer c b) refl
  where
    go : (a : Answer Room) → answer c b ≡ a → x ≡ b
    go (accepted k p n) h = absurd (e (ap (λ (v : VrfWalk). v.refusal) f.says ∙ ap (λ (a : Answer Room). (walk_result c.how c.bits a).refusal) h))
    go (refused k n) h = f.buffers ∙ refusal_keeps c b k n h

-- `vrf_struct_array`, refused, leaves its three buffers as lent.
pub kept_vrf_struct_array : (bytes : List ℕ) (bits : ℕ) (t : Tables) (levels root : ℕ) (b : Lent) (r : VrfWalk) (x : Lent)
    → Walks (struct_call bytes bits t levels root) b r x → (r.refusal ≡ 0 → ⊥) → x ≡ b
kept_vrf_struct_array bytes bits t levels root = kept_walk (struct_call bytes bits t levels root)

-- `vrf_struct_array_exact`, refused, leaves its three buffers as lent.
pub kept_vrf_struct_array_exact : (bytes : List ℕ) (bits : ℕ) (declared declared_names_lem : List ℕ) (b : Lent) (r : VrfWalk) (x : Lent)
    → Walks (exact_call bytes bits declared declared_names_lem) b r x → (r.refusal ≡ 0 → ⊥) → x ≡ b
kept_vrf_struct_array_exact bytes bits declared declared_names_lem = kept_walk (exact_call bytes bits declared declared_names_lem)

-- `vrf_object_array`, refused, leaves its pairs as lent.
pub kept_vrf_object_array : (bytes : List ℕ) (bits : ℕ) (b : List ℕ) (r : VrfObjects) (x : List ℕ) → WalksPairs bytes bits b r x → (r.refusal ≡ 0 → ⊥) → x ≡ b
kept_vrf_object_array bytes bits b r x f e = go (pair_answer bytes bits b) refl
  where
    go : (a : Answer ℕ) → pair_answer bytes bits b ≡ a → x ≡ b
    go (accepted k p n) h = absurd (e (ap (λ (v : VrfObjects). v.refusal) f.says ∙ ap (λ (a : Answer ℕ). (objects_result bits a).refusal) h))
    go (refused k n) h = f.buffer ∙ pairs_refusal_keeps bytes bits b k n h

-- `vrf_fast_array`, refused, leaves its three buffers as lent.
pub kept_vrf_fast_array : (payload : List ℕ) (bits checksum : ℕ) (l : F.Lent) (r : VrfFastArray) (x : F.Lent)
    → DecodesBody (F.call payload bits (mode_of checksum)) l r x → (r.refusal ≡ 0 → ⊥) → x ≡ l
kept_vrf_fast_array payload bits checksum l r x f e =
    let c = F.call payload bits (mode_of checksum) in
    let k = fast.refused_buffers c l (λ g. e (ap (λ (v : VrfFastArray). v.refusal) f.says ∙ accepted_is_0 (F.answer c l) g)) in
    let d = f.deleted ∙ k.0 in
    let i' = f.items ∙ k.1 in
    let o = f.fields ∙ k.2 in
    λ i. record { deleted = d i; items = i' i; fields = o i }
  where
    accepted_is_0 : (a : Result Delta BodyRefusal) → numbered a ≡ none → (body_result a).refusal ≡ 0
    accepted_is_0 (Ok d) g = refl
    accepted_is_0 (Err body.TooLong) g = let z : ◌≡◌ {A = ℕ} 0 1 = cc in never z
    accepted_is_0 (Err body.NotFastArray) g = let z : ◌≡◌ {A = ℕ} 0 1 = cc in never z
    accepted_is_0 (Err (body.Short n)) g = let z : ◌≡◌ {A = ℕ} 0 1 = cc in never z

-- `vrf_copy_bits`, refused, leaves its target as lent.
pub kept_vrf_copy_bits : (bytes : List ℕ) (cursor : VrfCursor) (count : ℕ) (target : List ℕ) (r : VrfRead) (end : List ℕ)
    → CopiesForC bytes cursor count target r end → (r.refusal ≡ 0 → ⊥) → end ≡ target
kept_vrf_copy_bits bytes cursor count target r end f e = go (copy_answer bytes (cursor_of_lem cursor) count target) refl
  where
    go : (a : Result ℕ Refusal) → copy_answer bytes (cursor_of_lem cursor) count target ≡ a → end ≡ target
    go (Ok p) h = absurd (e (ap (λ (v : VrfRead). v.refusal) f.0 ∙ ap (λ (a : Result ℕ Refusal). (copy_result cursor.pos a).refusal) h))
    go (Err k) h = f.1 ∙ refused_target bytes (cursor_of_lem cursor) count target k h

-- `vrf_schema`, refused, leaves rows and names as lent.
pub kept_vrf_schema : (rows names : List ℕ) (r : VrfSchema) (end : List ℕ × List ℕ)
    → FillsForC rows names r end.0 end.1 → (r.refusal ≡ 0 → ⊥) → (end.0 ≡ rows) × (end.1 ≡ names)
kept_vrf_schema rows names r end f e = go (fill_answer rows names) refl
  where
    go : (a : Result Unit Short) → fill_answer rows names ≡ a → (end.0 ≡ rows) × (end.1 ≡ names)
    go (Ok done) k = absurd (e (ap (λ (v : VrfSchema). v.refusal) f.0 ∙ ap (λ (a : Result Unit Short). (schema_result a).refusal) k))
    go (Err need) k = kept_fill_schema rows names (fill_answer rows names) end _ (refl, f.1, f.2) (ap filled_numbered k)
