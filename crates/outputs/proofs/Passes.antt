-- Two passes over the same walk give the public answer and the final buffers: one law for each exit of the code. The first pass, lent nothing,
-- leaves the counters and needs of the trace, by which `decided` decides; the second leaves the trace's records where there is room for them.
use mathlib.Core.Path.{◌≡◌, refl, sym, ap, ◌∙◌, subst}
use mathlib.Core.Bool.{true, false, ◌&&◌}
use mathlib.Core.List.{List, []}
use Prim.Native.Nat.{ℕ, ◌+◌, ◌*◌, ◌/◌, ◌≤◌, ◌<◌}
use native.Mathlib.Nat.{zero-add}
use native.Mathlib.Omega.{arith}
use lib.Dec.{leb}
use lib.ListN.{length}
use borrow.Author.Tests.{leb-true, le-leb, lt-leb}
use Rattle.bits.specs.Runs.{filled}
use Rattle.bits.specs.Sizes.{longest_window}
use Rattle.framing.specs.Events.{leaves, pairs}
use Rattle.framing.specs.Counters.{Counters, counters, padded_in}
use Rattle.framing.specs.Sinks.{Walker, object, Leafy, walk}
use Rattle.framing.specs.Records.{leaf_words, pair_words, path_bytes_lem, payload_bytes_lem, leaf_records}
use Rattle.framing.specs.Refusing.{Room, no_room_lem, needed, within, Answer, refused, accepted}
use Rattle.bits.proofs.ChoiceLaws.{and_true}
use Rattle.framing.proofs.RefusingLaws.{decided_long, decided_broken, decided_short, decided_fine}
use Rattle.outputs.specs.World.{wrapping, plain, World, apply, fresh, trace_records}
use Rattle.outputs.specs.Answers.{Call, Lent, laid, trace_of, room_of, answer, final_leaves, final_paths, final_payloads, Answered, measured, held_by, final, pair_trace, pair_answer, final_pairs, PairsAnswered}
use Rattle.outputs.proofs.After.{counters_fresh, padded_fresh, records_at, paths_at, payloads_at, records_length, records_filled, paths_filled, payloads_filled, records_leaves, records_pairs}
use Rattle.outputs.proofs.Gives.{no_pairs, no_leaves}
use Rattle.framing.proofs.LongestPath.{Labelled}
use Rattle.outputs.proofs.ShortPaths.{laid_labelled, object_labelled}
use Rattle.outputs.proofs.NoWrap.{word, walk_exact}

-- ---- any walk

-- the walker's contract, from a fresh world, on words of m numbers
abbrev pub Walked : (m : ℕ) → Walker → (bytes : List ℕ) (n : ℕ) → (l p y : List ℕ) → World → Type 0
Walked m k bytes n l p y v = v ≡ apply (wrapping m) (walk k bytes n) (fresh l p y)

module _ (m : ℕ) (wide : word ≤ m) (k : Walker) (labels : Labelled k) (bytes : List ℕ) (n : ℕ) (small : n ≤ longest_window) (l p y : List ℕ) (v : World)
    (e : Walked m k bytes n l p y v) where
  walked : v ≡ apply plain (walk k bytes n) (fresh l p y)
  walked = e ∙ walk_exact k labels bytes n small l p y m wide

  pub walked_counters : v.counters ≡ counters (walk k bytes n)
  walked_counters = ap (λ (w : World). w.counters) walked ∙ counters_fresh (walk k bytes n) l p y

  pub walked_padded : v.padded ≡ padded_in (walk k bytes n)
  walked_padded = ap (λ (w : World). w.padded) walked ∙ padded_fresh (walk k bytes n) l p y

  pub walked_records : v.records.at ≡ leaf_words * length (leaves (walk k bytes n)) + pair_words * length (pairs (walk k bytes n))
  walked_records =
      ap (λ (w : World). w.records.at) walked ∙ records_at (walk k bytes n) (fresh l p y) ∙ zero-add (length (trace_records 0 0 (walk k bytes n))) ∙ records_length 0 0 (walk k bytes n)

  pub walked_paths : v.paths.at ≡ length (path_bytes_lem (leaves (walk k bytes n)))
  walked_paths = ap (λ (w : World). w.paths.at) walked ∙ paths_at (walk k bytes n) (fresh l p y) ∙ zero-add (length (path_bytes_lem (leaves (walk k bytes n))))

  pub walked_payloads : v.payloads.at ≡ length (payload_bytes_lem (leaves (walk k bytes n)))
  walked_payloads = ap (λ (w : World). w.payloads.at) walked ∙ payloads_at (walk k bytes n) (fresh l p y) ∙ zero-add (length (payload_bytes_lem (leaves (walk k bytes n))))

  -- the pass that measures: it may be lent anything, as nothing
  pub measured_needs : Leafy k → measured v ≡ needed (walk k bytes n)
  unfolding needed
  measured_needs leafy =
      let z : length (pairs (walk k bytes n)) ≡ 0 = ap length (no_pairs k leafy bytes n) in
      let w = walked_records in
      let a : v.records.at / leaf_words ≡ length (leaves (walk k bytes n)) = omega arith in
      let b = walked_paths in
      let c = walked_payloads in
      λ i. record { leaves = a i; path_bytes_lem = b i; payload_bytes_lem = c i }

  -- the pass that writes
  pub wrote_records : leaf_words * length (leaves (walk k bytes n)) + pair_words * length (pairs (walk k bytes n)) ≤ length l
      → v.records.held ≡ filled (trace_records 0 0 (walk k bytes n)) l
  wrote_records h =
      let z = records_length 0 0 (walk k bytes n) in
      ap (λ (w : World). w.records.held) walked ∙ records_filled (walk k bytes n) l p y (omega arith)

  pub wrote_paths : length (path_bytes_lem (leaves (walk k bytes n))) ≤ length p → v.paths.held ≡ filled (path_bytes_lem (leaves (walk k bytes n))) p
  wrote_paths h = ap (λ (w : World). w.paths.held) walked ∙ paths_filled (walk k bytes n) l p y h

  pub wrote_payloads : length (payload_bytes_lem (leaves (walk k bytes n))) ≤ length y → v.payloads.held ≡ filled (payload_bytes_lem (leaves (walk k bytes n))) y
  wrote_payloads h = ap (λ (w : World). w.payloads.held) walked ∙ payloads_filled (walk k bytes n) l p y h

-- ---- struct and exact walks

within_each : (need lent : Room) → within need lent ≡ true → (need.leaves ≤ lent.leaves) × (need.path_bytes_lem ≤ lent.path_bytes_lem) × (need.payload_bytes_lem ≤ lent.payload_bytes_lem)
within_each need lent h =
    let ab = and_true (leb need.leaves lent.leaves && leb need.path_bytes_lem lent.path_bytes_lem) (leb need.payload_bytes_lem lent.payload_bytes_lem) h in
    let a = and_true (leb need.leaves lent.leaves) (leb need.path_bytes_lem lent.path_bytes_lem) ab.0 in
    (leb-true need.leaves lent.leaves a.0, leb-true need.path_bytes_lem lent.path_bytes_lem a.1, leb-true need.payload_bytes_lem lent.payload_bytes_lem ab.1)

module _ (c : Call) (b : Lent) where
  -- refusals: the buffers are as lent
  pub refused_by : (k : ℕ) (n : Room) → answer c b ≡ refused k n → Answered c b (refused k n) b
  unfolding final_leaves final_paths final_payloads
  refused_by k n e = record { says = sym e; leaves = rw e; paths = rw e; payloads = rw e }

  -- acceptance: the buffers are filled
  pub accepted_by : (k : Counters) (padded : ℕ) (n : Room) (end : Lent) → answer c b ≡ accepted k padded n
      → end.leaves ≡ filled (leaf_records 0 0 (leaves (trace_of c))) b.leaves
      → end.paths ≡ filled (path_bytes_lem (leaves (trace_of c))) b.paths
      → end.payloads ≡ filled (payload_bytes_lem (leaves (trace_of c))) b.payloads → Answered c b (accepted k padded n) end
  unfolding final_leaves final_paths final_payloads
  accepted_by k padded n end e f g h = record { says = sym e; leaves = rw e f; paths = rw e g; payloads = rw e h }

  pub too_long : longest_window < c.bits → Answered c b (refused 1 no_room_lem) b
  unfolding answer
  too_long h = refused_by 1 no_room_lem (decided_long _ _ _ _ _ _ h)

  module _ (small : c.bits ≤ longest_window) where
    pub bad_tables : laid c.how c.levels ≡ false → Answered c b (refused 2 no_room_lem) b
    unfolding answer
    bad_tables h = refused_by 2 no_room_lem (decided_broken _ _ _ _ _ _ small h)

    module _ (good : laid c.how c.levels ≡ true) (leafy : Leafy c.how) (m : ℕ) (wide : word ≤ m) (v : World)
        (pass : Walked m c.how c.bytes c.bits [] [] [] v) where
      labels : Labelled c.how
      labels = laid_labelled c.how c.levels good

      needs_found : measured v ≡ needed (trace_of c)
      needs_found = measured_needs m wide c.how labels c.bytes c.bits small [] [] [] v pass leafy

      -- it found too little room
      pub no_room : within (measured v) (room_of b) ≡ false → Answered c b (refused 3 (measured v)) b
      unfolding answer
      no_room h =
          let h' : within (needed (trace_of c)) (room_of b) ≡ false = subst (λ (r : Room). within r (room_of b) ≡ false) needs_found h in
          refused_by 3 (measured v) (decided_short _ _ _ _ _ _ small good h' ∙ ap (refused 3) (sym needs_found))

      -- it found room, and the writing pass came to u
      pub wrote : within (measured v) (room_of b) ≡ true → (u : World) → Walked m c.how c.bytes c.bits b.leaves b.paths b.payloads u
          → Answered c b (accepted u.counters u.padded (measured v)) (held_by u)
      unfolding answer needed
      wrote h u again =
          let h' : within (needed (trace_of c)) (room_of b) ≡ true = subst (λ (r : Room). within r (room_of b) ≡ true) needs_found h in
          let t = trace_of c in
          let says : answer c b ≡ accepted (counters t) (padded_in t) (needed t) = decided_fine _ _ _ _ _ _ small good h' in
          let counts = walked_counters m wide c.how labels c.bytes c.bits small b.leaves b.paths b.payloads u again in
          let pads = walked_padded m wide c.how labels c.bytes c.bits small b.leaves b.paths b.payloads u again in
          let fits = within_each (needed t) (room_of b) h' in
          let r1 = fits.0 in
          let lone : pairs t ≡ [] = no_pairs c.how leafy c.bytes c.bits in
          let z : length (pairs t) ≡ 0 = ap length lone in
          accepted_by u.counters u.padded (measured v) (held_by u) (says ∙ (λ i. accepted (sym counts i) (sym pads i) (sym needs_found i)))
          (wrote_records m wide c.how labels c.bytes c.bits small b.leaves b.paths b.payloads u again (omega arith)
          ∙ ap (λ (x : List ℕ). filled x b.leaves) (records_leaves 0 0 t lone))
          (wrote_paths m wide c.how labels c.bytes c.bits small b.leaves b.paths b.payloads u again fits.1)
          (wrote_payloads m wide c.how labels c.bytes c.bits small b.leaves b.paths b.payloads u again fits.2)

  -- a refused call leaves the buffers as lent
  pub refusal_keeps : (k : ℕ) (n : Room) → answer c b ≡ refused k n → final c b ≡ b
  refusal_keeps k n e =
      let r = refused_by k n e in
      let l = sym r.leaves in
      let p = sym r.paths in
      let y = sym r.payloads in
      λ i. record { leaves = l i; paths = p i; payloads = y i }

  -- two answers that meet the contract coincide, and so do the buffers
  pub determined : (r s : Answer Room) (x y : Lent) → Answered c b r x → Answered c b s y → (r ≡ s) × (x ≡ y)
  determined r s x y f g =
      let l = f.leaves ∙ sym g.leaves in
      let p = f.paths ∙ sym g.paths in
      let q = f.payloads ∙ sym g.payloads in
      (f.says ∙ sym g.says, λ i. record { leaves = l i; paths = p i; payloads = q i })

-- ---- the object walk

module _ (bytes : List ℕ) (bits : ℕ) (lent : List ℕ) where
  pub pairs_refused : (k n : ℕ) → pair_answer bytes bits lent ≡ refused k n → PairsAnswered bytes bits lent (refused k n) lent
  unfolding final_pairs
  pairs_refused k n e = record { says = sym e; pairs = rw e }

  pub pairs_too_long : longest_window < bits → PairsAnswered bytes bits lent (refused 1 0) lent
  unfolding pair_answer
  pairs_too_long h = pairs_refused 1 0 (decided_long _ _ _ _ _ _ h)

  module _ (small : bits ≤ longest_window) (m : ℕ) (wide : word ≤ m) where
    pairs_found : (l : List ℕ) (v : World) → Walked m object bytes bits l [] [] v → v.records.at / pair_words ≡ length (pairs (pair_trace bytes bits))
    pairs_found l v e =
        let w = walked_records m wide object object_labelled bytes bits small l [] [] v e in
        let z : length (leaves (walk object bytes bits)) ≡ 0 = ap length (no_leaves bytes bits) in
        omega arith

    module _ (v : World) (pass : Walked m object bytes bits [] [] [] v) where
      pub pairs_no_room : length lent / pair_words < v.records.at / pair_words → PairsAnswered bytes bits lent (refused 3 (v.records.at / pair_words)) lent
      unfolding pair_answer
      pairs_no_room h =
          let f = pairs_found [] v pass in
          let says : pair_answer bytes bits lent ≡ refused 3 (length (pairs (pair_trace bytes bits))) =
          decided_short _ _ _ _ _ _ small refl (lt-leb (length (pairs (pair_trace bytes bits))) (length lent / pair_words) (omega arith)) in
          pairs_refused 3 (v.records.at / pair_words) (says ∙ ap (refused 3) (sym f))

      pub pairs_wrote : v.records.at / pair_words ≤ length lent / pair_words → (u : World) → Walked m object bytes bits lent [] [] u
          → PairsAnswered bytes bits lent (accepted u.counters u.padded (v.records.at / pair_words)) u.records.held
      unfolding pair_answer final_pairs
      pairs_wrote h u again =
          let t = pair_trace bytes bits in
          let f = pairs_found [] v pass in
          let says : pair_answer bytes bits lent ≡ accepted (counters t) (padded_in t) (length (pairs t)) =
          decided_fine _ _ _ _ _ _ small refl (le-leb (length (pairs t)) (length lent / pair_words) (omega arith)) in
          let counts = walked_counters m wide object object_labelled bytes bits small lent [] [] u again in
          let pads = walked_padded m wide object object_labelled bytes bits small lent [] [] u again in
          let lone : leaves t ≡ [] = no_leaves bytes bits in
          let z : length (leaves t) ≡ 0 = ap length lone in
          let held = wrote_records m wide object object_labelled bytes bits small lent [] [] u again (omega arith) ∙ ap (λ (x : List ℕ). filled x lent) (records_pairs 0 0 t lone) in
          record { says = (λ i. accepted (counts i) (pads i) (f i)) ∙ sym says; pairs = rw says held }

  pub pairs_determined : (r s : Answer ℕ) (x y : List ℕ) → PairsAnswered bytes bits lent r x → PairsAnswered bytes bits lent s y → (r ≡ s) × (x ≡ y)
  pairs_determined r s x y f g = (f.says ∙ sym g.says, f.pairs ∙ sym g.pairs)

  pub pairs_refusal_keeps : (k n : ℕ) → pair_answer bytes bits lent ≡ refused k n → final_pairs bytes bits lent ≡ lent
  pairs_refusal_keeps k n e = sym (pairs_refused k n e).pairs
