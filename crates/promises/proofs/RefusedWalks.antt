-- Each walk, a merge, the tables, the schema and the fast array are refused exactly when, and in the order that, document 01 says: their
-- definitions decide by the same tests in the same order. The theorem on a call is `refused_` and the call's name.
use Rattle.std.specs.Prelude.{Result}
use Prim.Native.Nat.{ℕ, ◌/◌}
use mathlib.Core.Path.{◌≡◌, refl, ap, ◌∙◌}
use mathlib.Core.Bool.{Bool, false}
use mathlib.Core.List.{List}
use mathlib.Core.Option.{Option, none, some}
use lib.Dec.{leb, ltb, eqb}
use lib.ListN.{length}
use Rattle.bits.specs.Refusals.{Numbered, refusal, first_of}
use Rattle.bits.proofs.ChoiceLaws.{by_cases}
use Rattle.bits.specs.Sizes.{longest_window}
use Rattle.schema.specs.Layout.{laid_out}
use Rattle.schema.specs.Tables.{Tables, tables}
use Rattle.schema.specs.TwelveLevels.{enough, fill_answer, FillsSchema}
use Rattle.schema.specs.declared.Short.{Short}
use Rattle.framing.specs.Counters.{Counters, counters, padded_in, sums}
use Rattle.framing.specs.Events.{pairs}
use Rattle.framing.specs.Records.{pair_words}
use Rattle.framing.specs.Refusing.{Room, no_room_lem, needed, within, Answer, refused, accepted, decided}
use Rattle.outputs.specs.Answers.{Call, Lent, laid, trace_of, room_of, answer, pair_trace, pair_answer}
use Rattle.array.specs.Calls.{struct_call, exact_call, Adds, Decodes, DecodesPairs}
use Rattle.array.specs.Merges.{bounded, merge}
use Rattle.array.specs.Refusals.{StructArray, ObjectArray, Merged, counters_of_lem, answer_of, pairs_of, sums_of}
use Rattle.array.specs.declared.ArrayDecodeStats.{ArrayDecodeStats}
use Rattle.fastarray.specs.Answers as F
use Rattle.fastarray.specs.Order.{rules}
use Rattle.fastarray.specs.Refusals.{numbered}
use Rattle.fastarray.proofs.RefusalOrder.{refusal_order}
use Rattle.fastarray.specs.declared.ChecksumMode.{ChecksumMode}
use Rattle.std.specs.Prelude.{Result}
use Rattle.fastarray.specs.declared.Delta.{Delta}
use Rattle.fastarray.specs.declared.Refusal.{Refusal}
use Rattle.promises.proofs.TestLaws.{reached, missed}
use Rattle.promises.specs.WalkOrders.{needing, of_walk, of_pairs, walk_rules, pair_rules, of_sums, merge_rules, table_rules, fill_rules}
use Rattle.schema.specs.Refusals.{tables_numbered, filled_numbered}

-- ---- struct and exact walks: 1, 2, 3

-- Of an answer that is accepted, or refused with a number, and that `of` tells by it.
pub walk_order : (of : Answer Room → Option Numbered) → ((k : Counters) (p : ℕ) (n : Room) → of (accepted k p n) ≡ none)
    → ((k : ℕ) (n : Room) → eqb k 0 ≡ false → of (refused k n) ≡ some (needing k n)) → (c : Call) (b : Lent) → of (answer c b) ≡ first_of (walk_rules c b)
unfolding answer decided first_of
walk_order of none_of Some-of c b =
    by_cases (ltb longest_window c.bits)
    (λ long. simp long (Some-of 1 no_room_lem refl))
    (λ long. by_cases (laid c.how c.levels)
    (λ ok. by_cases (within (needed (trace_of c)) (room_of b))
    (λ room. simp (long, ok, room) (none_of (counters (trace_of c)) (padded_in (trace_of c)) (needed (trace_of c))))
    (λ room. simp (long, ok, room) (Some-of 3 (needed (trace_of c)) refl)))
    (λ ok. simp (long, ok) (Some-of 2 no_room_lem refl)))

-- A struct walk gives 1, 2, 3.
pub refused_decode_struct_array : (bytes : List ℕ) (bits : ℕ) (t : Tables) (levels root : ℕ) (b : Lent) (r : StructArray) (x : Lent)
    → Decodes (struct_call bytes bits t levels root) b r x → of_walk (answer_of r) ≡ first_of (walk_rules (struct_call bytes bits t levels root) b)
refused_decode_struct_array bytes bits t levels root b r x f =
    ap of_walk f.answered.says ∙ walk_order of_walk (λ k p n. refl) (λ k n e. refl) (struct_call bytes bits t levels root) b

-- An exact walk gives 1, 2, 3.
pub refused_decode_struct_array_exact : (bytes : List ℕ) (bits : ℕ) (declared declared_names_lem : List ℕ) (b : Lent) (r : StructArray) (x : Lent)
    → Decodes (exact_call bytes bits declared declared_names_lem) b r x → of_walk (answer_of r) ≡ first_of (walk_rules (exact_call bytes bits declared declared_names_lem) b)
refused_decode_struct_array_exact bytes bits declared declared_names_lem b r x f =
    ap of_walk f.answered.says ∙ walk_order of_walk (λ k p n. refl) (λ k n e. refl) (exact_call bytes bits declared declared_names_lem) b

-- ---- the object walk: 1, 3

-- Of an answer that is accepted, or refused with a number, and that `of` tells by it.
pub pair_order : (of : Answer ℕ → Option Numbered) → ((k : Counters) (p n : ℕ) → of (accepted k p n) ≡ none)
    → ((k n : ℕ) → eqb k 0 ≡ false → of (refused k n) ≡ some (refusal k n 0 0))
    → (bytes : List ℕ) (bits : ℕ) (lent : List ℕ) → of (pair_answer bytes bits lent) ≡ first_of (pair_rules bytes bits lent)
unfolding pair_answer decided first_of
pair_order of none_of Some-of bytes bits lent =
    let t = pair_trace bytes bits in
    by_cases (ltb longest_window bits)
    (λ long. simp long (Some-of 1 0 refl))
    (λ long. by_cases (leb (length (pairs t)) (length lent / pair_words))
    (λ room. simp (long, room, reached (length (pairs t)) (length lent / pair_words) room) (none_of (counters t) (padded_in t) (length (pairs t))))
    (λ room. simp (long, room, missed (length (pairs t)) (length lent / pair_words) room) (Some-of 3 (length (pairs t)) refl)))

-- An object walk gives 1, 3.
pub refused_decode_object_ref_array : (bytes : List ℕ) (bits : ℕ) (b : List ℕ) (r : ObjectArray) (x : List ℕ)
    → DecodesPairs bytes bits b r x → of_pairs (pairs_of r) ≡ first_of (pair_rules bytes bits b)
refused_decode_object_ref_array bytes bits b r x f = ap of_pairs f.answered.says ∙ pair_order of_pairs (λ k p n. refl) (λ k n e. refl) bytes bits b

-- ---- a merge: 4

-- Sums that pass the limit give 4.
pub merge_order : (a b : Counters) → of_sums (merge a b) ≡ first_of (merge_rules a b)
unfolding merge first_of
merge_order a b = by_cases (bounded (sums a b)) (λ e. simp e) (λ e. simp e)

-- A merge gives 4 with the left counters.
pub refused_merge_from : (left right : ArrayDecodeStats) (r : Merged) → Adds left right r
    → of_sums (sums_of r) ≡ first_of (merge_rules (counters_of_lem left) (counters_of_lem right))
refused_merge_from left right r f = ap of_sums f ∙ merge_order (counters_of_lem left) (counters_of_lem right)

-- ---- tables: 2; the twelve levels: 3

-- Tables that break their layout give 2.
pub refused_check_tables : (rows : List ℕ) (levels root : ℕ) (names declared declared_names_lem : List ℕ)
    → let t = tables rows names declared declared_names_lem in (r : Bool) → r ≡ laid_out t levels root → tables_numbered r ≡ first_of (table_rules t levels root)
unfolding first_of
refused_check_tables rows levels root names declared declared_names_lem r f =
    ap tables_numbered f ∙ by_cases (laid_out (tables rows names declared declared_names_lem) levels root) (λ e. simp e) (λ e. simp e)

-- Buffers that are too short give 3.
pub fill_order : (rows names : List ℕ) → filled_numbered (fill_answer rows names) ≡ first_of (fill_rules rows names)
unfolding fill_answer first_of
fill_order rows names = by_cases (enough rows names) (λ e. simp e) (λ e. simp e)

-- Filling the schema gives 3.
pub refused_fill_schema : (rows names : List ℕ) (r : Result Unit Short) (end : List ℕ × List ℕ) → FillsSchema rows names r end.0 end.1
    → filled_numbered r ≡ first_of (fill_rules rows names)
refused_fill_schema rows names r end f = ap filled_numbered f.0 ∙ fill_order rows names

-- ---- the fast array: 1, 6, 3

-- A fast-array body gives 1, 6, 3.
pub refused_decode_fast_array_delta : (payload : List ℕ) (bits : ℕ) (mode : ChecksumMode) (l : F.Lent) (r : Result Delta Refusal) (x : F.Lent)
    → F.Answered (F.call payload bits mode) l r x → numbered r ≡ first_of (rules (F.call payload bits mode) l)
refused_decode_fast_array_delta payload bits mode l r x f = ap numbered f.says ∙ refusal_order (F.call payload bits mode) l
