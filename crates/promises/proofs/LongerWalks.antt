-- However many bytes follow, and whatever they hold, a walk answers the same and leaves the same buffers: it looks at the window alone, and where
-- both lists hold fewer bits, at none. A fast-array body has as many bytes as its bits take; two that both have, or both haven't, answer the same.
-- It holds because the walk's trace, or the body, is the same, and the contract determines the rest. The theorem on a call is `longer_` and the
-- call's name.
use Prim.Native.Nat.{ℕ, ◌/◌}
use mathlib.Core.Path.{◌≡◌, sym, ap, ap₂, ◌∙◌}
use mathlib.Core.Bool.{true}
use mathlib.Core.List.{List}
use lib.Dec.{leb}
use lib.ListN.{length}
use Rattle.schema.specs.Tables.{Tables}
use Rattle.framing.specs.Events.{leaves, pairs, Trace}
use Rattle.framing.specs.Sinks.{Walker, struct, exact, object, walk}
use Rattle.framing.specs.Records.{pair_words, leaf_records, path_bytes_lem, payload_bytes_lem, pair_records}
use Rattle.framing.specs.Refusing.{no_room_lem, needed, within, decided}
use Rattle.framing.proofs.Demand3.{outside_alters_nothing, past_alike}
use Rattle.outputs.specs.Answers.{Lent, laid, room_of, answer, final_leaves, final_paths, final_payloads, at_exit, pair_answer, final_pairs, final}
use Rattle.array.specs.Calls.{call_of, struct_call, exact_call, Decodes, DecodesPairs}
use Rattle.array.specs.Refusals.{StructArray, ObjectArray}
use Rattle.array.proofs.OneAnswer.{one_struct, one_object}
use Rattle.fastarray.specs.Answers as F
use Rattle.fastarray.proofs.Outside as fast
use Rattle.fastarray.proofs.AnswerLaws.{one_answer}
use Rattle.fastarray.specs.declared.ChecksumMode.{ChecksumMode}
use Rattle.std.specs.Prelude.{Result}
use Rattle.fastarray.specs.declared.Delta.{Delta}
use Rattle.fastarray.specs.declared.Refusal.{Refusal}
use Rattle.promises.specs.Outside.{Alike, both_hold, both_fewer, AlikeBodies, both_whole, neither_whole}

-- ---- walks

module _ (s t : List ℕ) (n : ℕ) (same : Alike s t n) where
  one_trace : (k : Walker) → walk k s n ≡ walk k t n
  one_trace k = go same
    where
      go : Alike s t n → walk k s n ≡ walk k t n
      go (both_hold h) = outside_alters_nothing k s t n h.first h.second h.same_bits
      go (both_fewer a b) = past_alike k s t n a b

  module _ (k : Walker) (levels : ℕ) (b : Lent) where
    -- The answer's definition is the same.
    pub same_answer : answer (call_of k levels s n) b ≡ answer (call_of k levels t n) b
    unfolding answer
    same_answer = ap (λ (u : Trace). decided n (laid k levels) u no_room_lem (needed u) (within (needed u) (room_of b))) (one_trace k)

    -- So is what the buffers hold at the exit.
    pub same_final : final (call_of k levels s n) b ≡ final (call_of k levels t n) b
    unfolding final_leaves final_paths final_payloads
    same_final = λ i.
        record {
          leaves = at_exit (same_answer i) (leaf_records 0 0 (leaves (one_trace k i))) b.leaves;
          paths = at_exit (same_answer i) (path_bytes_lem (leaves (one_trace k i))) b.paths;
          payloads = at_exit (same_answer i) (payload_bytes_lem (leaves (one_trace k i))) b.payloads;
        }

    -- a run over t is a run over s
    over_other : (r : StructArray) (y : Lent) → Decodes (call_of k levels t n) b r y → Decodes (call_of k levels s n) b r y
    over_other r y f =
        let a = f.answered in
        let e = sym same_final in
        record {
          answered = record {
            says = a.says ∙ sym same_answer;
            leaves = a.leaves ∙ ap (λ (v : Lent). v.leaves) e;
            paths = a.paths ∙ ap (λ (v : Lent). v.paths) e;
            payloads = a.payloads ∙ ap (λ (v : Lent). v.payloads) e;
          };
          judged = f.judged;
        }

    longer_walk : (r q : StructArray) (x y : Lent) → Decodes (call_of k levels s n) b r x → Decodes (call_of k levels t n) b q y → (r ≡ q) × (x ≡ y)
    longer_walk r q x y f g = one_struct (call_of k levels s n) b r q x y f (over_other q y g)

  -- A struct walk answers the same and leaves the same buffers, under any tables.
  pub longer_decode_struct_array : (tables : Tables) (levels root : ℕ) (b : Lent) (r q : StructArray) (x y : Lent)
      → Decodes (struct_call s n tables levels root) b r x → Decodes (struct_call t n tables levels root) b q y → (r ≡ q) × (x ≡ y)
  longer_decode_struct_array tables levels root = longer_walk (struct tables root) levels

  -- An exact walk answers the same and leaves the same buffers.
  pub longer_decode_struct_array_exact : (declared declared_names_lem : List ℕ) (b : Lent) (r q : StructArray) (x y : Lent)
      → Decodes (exact_call s n declared declared_names_lem) b r x → Decodes (exact_call t n declared declared_names_lem) b q y → (r ≡ q) × (x ≡ y)
  longer_decode_struct_array_exact declared declared_names_lem = longer_walk (exact declared declared_names_lem) 0

  -- So are an object walk's answer and pairs.
  pub same_pairs : (b : List ℕ) → (pair_answer s n b ≡ pair_answer t n b) × (final_pairs s n b ≡ final_pairs t n b)
  unfolding pair_answer final_pairs
  same_pairs b =
      let u = one_trace object in
      let e : pair_answer s n b ≡ pair_answer t n b
      = ap (λ (z : Trace). decided n true z 0 (length (pairs z)) (leb (length (pairs z)) (length b / pair_words))) u in
      (e, ap₂ (λ a (z : Trace). at_exit a (pair_records (pairs z)) b) e u)

  -- An object walk answers the same and leaves the same pairs.
  pub longer_decode_object_ref_array : (b : List ℕ) (r q : ObjectArray) (x y : List ℕ)
      → DecodesPairs s n b r x → DecodesPairs t n b q y → (r ≡ q) × (x ≡ y)
  longer_decode_object_ref_array b r q x y f g =
      one_object s n b r q x y f
      (record {
        answered = record { says = g.answered.says ∙ sym (same_pairs b).0; pairs = g.answered.pairs ∙ sym (same_pairs b).1 };
        judged = g.judged;
      })

-- ---- the fast array

-- The answer's and the buffers' definitions are the same where the same body is found.
pub same_body : (s t : List ℕ) (n : ℕ) (mode : ChecksumMode) → F.found (F.call s n mode) ≡ F.found (F.call t n mode) → (l : F.Lent)
    → (F.answer (F.call s n mode) l ≡ F.answer (F.call t n mode) l)
    × (F.final_deleted (F.call s n mode) l ≡ F.final_deleted (F.call t n mode) l)
    × (F.final_items (F.call s n mode) l ≡ F.final_items (F.call t n mode) l)
    × (F.final_fields (F.call s n mode) l ≡ F.final_fields (F.call t n mode) l)
same_body s t n mode same l =
    let b = fast.outside_buffers s t n mode same l in
    (fast.outside_answer s t n mode same l, b.0, b.1, b.2)

-- Two runs that find the same body answer the same and leave the same buffers.
pub one_run : (s t : List ℕ) (n : ℕ) (mode : ChecksumMode) → F.found (F.call s n mode) ≡ F.found (F.call t n mode)
    → (l : F.Lent) (r q : Result Delta Refusal) (x y : F.Lent) → F.Answered (F.call s n mode) l r x → F.Answered (F.call t n mode) l q y → (r ≡ q) × (x ≡ y)
one_run s t n mode same l r q x y f g =
    let e = same_body s t n mode same l in
    one_answer (F.call s n mode) l r q x y f
    (record {
      says = g.says ∙ sym e.0;
      deleted = g.deleted ∙ sym e.1;
      items = g.items ∙ sym e.2;
      fields = g.fields ∙ sym e.3;
    })

-- Two payloads that both have a body's bytes find the same body; so do two that both haven't.
pub same_found : (s t : List ℕ) (n : ℕ) (mode : ChecksumMode) → AlikeBodies s t n → F.found (F.call s n mode) ≡ F.found (F.call t n mode)
same_found s t n mode (both_whole hs ht bits) = fast.outside_found s t n mode (hs ∙ sym ht) bits
same_found s t n mode (neither_whole hs ht) = fast.none_found s t n mode hs ht

-- A fast-array call answers the same and leaves the same buffers.
pub longer_decode_fast_array_delta : (s t : List ℕ) (n : ℕ) (mode : ChecksumMode) → AlikeBodies s t n → (l : F.Lent) (r q : Result Delta Refusal) (x y : F.Lent)
    → F.Answered (F.call s n mode) l r x → F.Answered (F.call t n mode) l q y → (r ≡ q) × (x ≡ y)
longer_decode_fast_array_delta s t n mode same = one_run s t n mode (same_found s t n mode same)
