-- One law for each exit of the public calls: what the tests and both passes found is what the contract says.
use Rattle.std.specs.Prelude.{Result, Ok, Err, MatchResult, IsErrAnd}
use mathlib.Core.Path.{◌≡◌, refl, sym, ap, ◌∙◌, subst}
use mathlib.Core.Bool.{Bool, true, false, ◌&&◌}
use mathlib.Core.List.{List, []}
use Prim.Native.Nat.{ℕ, ◌^◌, ◌≤◌}
use native.Mathlib.Omega.{arith}
use lib.Dec.{leb, ltb}
use lib.ListN.{length}
use borrow.Author.Tests.{leb-true, leb-false, ltb-true, ltb-false, le-leb}
use Rattle.bits.specs.Sizes.{longest_window}
use Rattle.schema.specs.Tables.{Tables}
use Rattle.schema.specs.Layout.{laid_out}
use Rattle.framing.specs.declared.Walk.{Walk}
use Rattle.framing.specs.Sinks.{Walker, walker, object, gives_leaves_lem, walk}
use Rattle.framing.specs.Records.{leaf_words, pair_words, whole_records, path_bytes_lem, payload_bytes_lem}
use Rattle.framing.specs.Refusing.{Room, within, Answer, refused, accepted}
use Rattle.outputs.specs.World.{World, fresh}
use Rattle.outputs.specs.Answers.{Call, Lent, laid, room_over, room_of, measured_with, measured, held_by, Answered, PairsAnswered}
use Rattle.outputs.proofs.NoWrap.{word}
use Rattle.outputs.proofs.ShortPaths.{object_labelled}
use Rattle.outputs.proofs.Gives.{no_leaves}
use Rattle.outputs.proofs.Passes.{Walked, walked_paths, walked_payloads, too_long, bad_tables, no_room, wrote, pairs_too_long, pairs_no_room, pairs_wrote}
use Rattle.steps.specs.Tally.{played}
use Rattle.array.specs.Refusals.{StructArray, ObjectArray, counters_of_lem, room_in}
use Rattle.array.specs.Calls.{call_of, lent, Decodes, DecodesPairs}
use Rattle.array.specs.Passing.{words_of, measuring, Needs, writing, enough, TwoPasses, too_short, has_room}
use Rattle.array.specs.declared.Extent.{Extent}
use Rattle.array.specs.declared.Walked as W
use Rattle.array.specs.declared.Refusal.TheVariants.{TooLong, BrokenTables, Short}
use Rattle.array.specs.declared.PairRefusal.TheVariants as objects
use Rattle.array.proofs.PassLaws.{leafy_laid, leafy_words}

-- the code's numbers are u32
wide : word ≤ 2 ^ 32
wide = omega arith

-- what a pass left is a walk's
walked : (k : Walker) (bytes : List ℕ) (n : ℕ) (l p y : List ℕ) (v : World) → v ≡ played (walk k bytes n) (fresh l p y)
    → Walked (2 ^ 32) k bytes n l p y v
unfolding played
walked k bytes n l p y v f = f

-- ---- struct and exact walks

-- how the code answers by what both passes answered
abbrev pub leaves_answer : Result (W.Walked Extent) Extent → StructArray
leaves_answer (Ok w) = Ok w
leaves_answer (Err e) = Err (Short e)

leaves_told : (q : Result (W.Walked Extent) Extent) {r : StructArray} → MatchResult q (λ w. r ≡ Ok w) (λ e. IsErrAnd r (λ x. x ≡ Short e)) → r ≡ leaves_answer q
leaves_told (Ok w) m = m
leaves_told (Err e) {r = Ok w} m = absurd m
leaves_told (Err e) {r = Err x} m = ap Err m

module _ (s : Walk) (flat : gives_leaves_lem s ≡ true) (t : Tables) (levels root : ℕ) (bytes : List ℕ) (bits : ℕ) (b : Lent) where
  abbrev k : Walker
  k = walker s t root

  abbrev call : Call
  call = call_of k levels bytes bits

  pub leaves_long : ltb longest_window bits ≡ true → Decodes call b (Err TooLong) b
  leaves_long h = record { answered = too_long call b (ltb-true longest_window bits h); judged = tt }

  module _ (few : ltb longest_window bits ≡ false) where
    small : bits ≤ longest_window
    small = ltb-false longest_window bits few

    pub leaves_broken : laid_out t levels root ≡ false → Decodes call b (Err BrokenTables) b
    leaves_broken h = record { answered = bad_tables call b small (leafy_laid t root s levels flat ∙ h); judged = tt }

    module _ (good : laid_out t levels root ≡ true) where
      keeps_layout : laid k levels ≡ true
      keeps_layout = leafy_laid t root s levels flat ∙ good

      abbrev m : World
      m = measuring k bytes bits

      measured_by : Walked (2 ^ 32) k bytes bits [] [] [] m
      measured_by = walked k bytes bits [] [] [] m refl

      -- its records are leaves
      words : words_of k ≡ leaf_words
      words = leafy_words s flat

      need_is : (e : Extent) → Needs k bytes bits e → room_in e ≡ measured m
      need_is e n = n ∙ ap (λ (w : ℕ). measured_with w m) words

      fits_as : (e : Extent) → Needs k bytes bits e → (x : Bool) → enough k bytes bits b e ≡ x → within (measured m) (room_of b) ≡ x
      fits_as e n x h = sym (λ i. within (need_is e n i) (room_over (words i) b)) ∙ h

      -- whatever both passes answer is the call's answer
      answered : (r : Result (W.Walked Extent) Extent) (end : Lent) → TwoPasses k bytes bits b r end → Decodes call b (leaves_answer r) end
      answered r end (too_short {e = e} n h) =
          record {
            answered =
                subst (λ (x : Room). Answered call b (refused 3 x) b) (sym (need_is e n))
                (no_room call b small keeps_layout flat (2 ^ 32) wide m measured_by (fits_as e n false h));
            judged = tt;
          }
      answered r end (has_room {w = w} n h held counts judged pads) =
          let e = w.filled in
          let u = writing k bytes bits b in
          let a : Answered call b (accepted u.counters u.padded (measured m)) (held_by u) =
          wrote call b small keeps_layout flat (2 ^ 32) wide m measured_by (fits_as e n true h) u (walked k bytes bits b.leaves b.paths b.payloads u refl) in
          record {
            answered =
                subst (λ (x : Lent). Answered call b (accepted (counters_of_lem w.stats) w.padded (room_in e)) x) (sym held)
                (subst (λ (x : Answer Room). Answered call b x (held_by u)) (λ i. accepted (sym counts i) (sym pads i) (sym (need_is e n) i)) a);
            judged = judged;
          }

      pub leaves_answered : (q : Result (W.Walked Extent) Extent) {r : StructArray} (end : Lent) → TwoPasses k bytes bits b q end
          → MatchResult q (λ w. r ≡ Ok w) (λ e. IsErrAnd r (λ x. x ≡ Short e)) → Decodes call b r end
      leaves_answered q end f m = subst (λ (r : StructArray). Decodes call b r end) (sym (leaves_told q m)) (answered q end f)

-- ---- the object walk

and_both : (x : Bool) → (x && true && true) ≡ x
and_both true = refl
and_both false = refl

-- a walk that needs pairs alone has room exactly if they do
pairs_fit : (need lent : Room) (x : Bool) → need.path_bytes_lem ≡ 0 → need.payload_bytes_lem ≡ 0 → within need lent ≡ x → leb need.leaves lent.leaves ≡ x
pairs_fit need lent x ep ey e =
    let p = le-leb need.path_bytes_lem lent.path_bytes_lem (omega arith) in
    let y = le-leb need.payload_bytes_lem lent.payload_bytes_lem (omega arith) in
    sym (rw (p, y) (and_both (leb need.leaves lent.leaves))) ∙ e

-- how the code answers by what the passes answered
abbrev pub pairs_answer : Result (W.Walked Extent) Extent → ObjectArray
pairs_answer (Ok w) = Ok (record { stats = w.stats; verdict = w.verdict; filled = w.filled.leaves; padded = w.padded })
pairs_answer (Err e) = Err (objects.Short e.leaves)

module _ (bytes : List ℕ) (bits : ℕ) (b : List ℕ) where
  pub objects_long : ltb longest_window bits ≡ true → DecodesPairs bytes bits b (Err objects.TooLong) b
  objects_long h = record { answered = pairs_too_long bytes bits b (ltb-true longest_window bits h); judged = tt }

  abbrev buffers : Lent
  buffers = lent b [] []

  abbrev found : World
  found = measuring object bytes bits

  module _ (few : ltb longest_window bits ≡ false) where
    small_window : bits ≤ longest_window
    small_window = ltb-false longest_window bits few

    found_by : Walked (2 ^ 32) object bytes bits [] [] [] found
    found_by = walked object bytes bits [] [] [] found refl

    module _ (e : Extent) (n : Needs object bytes bits e) where
      pairs_are : e.leaves ≡ whole_records pair_words found.records.at
      pairs_are = ap (λ (r : Room). r.leaves) n

      no_paths : e.path_bytes ≡ 0
      unfolding path_bytes_lem
      no_paths =
          ap (λ (r : Room). r.path_bytes_lem) n
          ∙ walked_paths (2 ^ 32) wide object object_labelled bytes bits small_window [] [] [] found found_by
          ∙ ap (λ (l : _). length (path_bytes_lem l)) (no_leaves bytes bits)

      no_payloads : e.payload_bytes ≡ 0
      unfolding payload_bytes_lem
      no_payloads =
          ap (λ (r : Room). r.payload_bytes_lem) n
          ∙ walked_payloads (2 ^ 32) wide object object_labelled bytes bits small_window [] [] [] found found_by
          ∙ ap (λ (l : _). length (payload_bytes_lem l)) (no_leaves bytes bits)

      pairs_as : (x : Bool) → enough object bytes bits buffers e ≡ x → leb e.leaves (whole_records pair_words (length b)) ≡ x
      pairs_as x h = pairs_fit (room_in e) (room_over pair_words buffers) x no_paths no_payloads h

    -- whatever both passes answer is the call's answer, a leaf of it being a pair
    pub objects_answered : (r : Result (W.Walked Extent) Extent) (end : Lent) → TwoPasses object bytes bits buffers r end → DecodesPairs bytes bits b (pairs_answer r) end.leaves
    objects_answered r end (too_short {e = e} n h) =
        let f = pairs_are e n in
        let few = leb-false e.leaves (whole_records pair_words (length b)) (pairs_as e n false h) in
        record {
          answered =
              subst (λ (k : ℕ). PairsAnswered bytes bits b (refused 3 k) b) (sym f)
              (pairs_no_room bytes bits b small_window (2 ^ 32) wide found found_by (omega arith));
          judged = tt;
        }
    objects_answered r end (has_room {w = w} n h held counts judged pads) =
        let e = w.filled in
        let f = pairs_are e n in
        let fits = leb-true e.leaves (whole_records pair_words (length b)) (pairs_as e n true h) in
        let u = writing object bytes bits buffers in
        let a : PairsAnswered bytes bits b (accepted u.counters u.padded (whole_records pair_words found.records.at)) u.records.held =
        pairs_wrote bytes bits b small_window (2 ^ 32) wide found found_by (omega arith) u (walked object bytes bits b [] [] u refl) in
        record {
          answered =
              subst (λ (x : List ℕ). PairsAnswered bytes bits b (accepted (counters_of_lem w.stats) w.padded e.leaves) x) (sym (ap (λ (x : Lent). x.leaves) held))
              (subst (λ (x : Answer ℕ). PairsAnswered bytes bits b x u.records.held) (λ i. accepted (sym counts i) (sym pads i) (sym f i)) a);
          judged = judged;
        }
