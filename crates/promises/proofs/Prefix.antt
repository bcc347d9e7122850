-- Demand 3 of accepted answers and of lent buffers. It holds because an accepted answer tells its walk's counters and needs (Ran), its buffers
-- begin with the walk's leaves or pairs, and demand 3 holds of the walks. The theorem on a call is `prefix_` and the call's name.
use Rattle.std.specs.Prelude.{Ok}
use mathlib.Core.Path.{◌≡◌, refl, sym, ap, ◌∙◌, subst}
use mathlib.Core.Bool.{true}
use mathlib.Core.List.{List, [], ◌∷◌, ◌++◌}
use Prim.Native.Nat.{ℕ, ◌*◌, ◌≤◌, ◌<◌}
use native.Mathlib.Omega.{arith}
use lib.ListN.{length, get_or, length-append}
use borrow.Author.Tests.{le-leb}
use Rattle.bits.specs.Bits.{num, field}
use Rattle.bits.specs.Runs.{filled}
use Rattle.bits.proofs.FieldLaws.{field_same}
use Rattle.bits.proofs.Never.{never}
use Rattle.schema.specs.Tables.{Tables}
use Rattle.framing.specs.Windows.{Window, window_of}
use Rattle.framing.specs.Events.{Leaf, leaves, pairs}
use Rattle.framing.specs.Counters.{Counters, counters, padded_in}
use Rattle.framing.specs.Sinks.{struct_sink, Walker, struct, exact, object, sink_of, walk}
use Rattle.framing.specs.Verdicts as F
use Rattle.framing.specs.Verdicts.{verdict_of}
use Rattle.framing.specs.Records.{leaf_words, path_start_at, handle_at, payload_start_at, pair_words, leaf_record, path_bytes_lem, payload_bytes_lem, pair_records}
use Rattle.framing.specs.Refusing.{Room, within, needed}
use Rattle.framing.specs.Demand.{Opens, LacksTrailer, CutOf}
use Rattle.framing.proofs.RecordLaws.{records_size, pairs_size}
use Rattle.framing.proofs.Demand3.{demand3}
use Rattle.outputs.specs.Records.{leaf_number}
use Rattle.outputs.specs.Answers.{Call, Lent, trace_of, pair_trace, final_pairs, shared, Front, was_accepted}
use Rattle.outputs.proofs.Fronts.{CutCall, demand3_buffers, demand3_pairs, opens_filled, opens_paths, opens_payloads}
use Rattle.array.specs.Calls.{call_of, struct_call, exact_call, verdict_named, Decodes, DecodesPairs}
use Rattle.array.specs.Refusals.{room_in}
use Rattle.array.specs.declared.Extent.{Extent}
use Rattle.array.specs.declared.Walked.{Walked}
use Rattle.exports.specs.WalkResults.{verdict_number_lem, Walks, WalksPairs}
use Rattle.exports.specs.declared.VrfWalk.{VrfWalk}
use Rattle.exports.specs.declared.VrfObjects.{VrfObjects}
use Rattle.promises.specs.Prefix as P
use Rattle.promises.specs.Prefix.{FirstBits, BeforeTail, tail_off, Begins, PairsBegin, BeginsInC, PairsBeginInC}
use Rattle.promises.proofs.VerdictForms.{Apart, named_apart, number_apart}
use Rattle.promises.proofs.Ran.{Ran, ran_tells, ran_fills, ran_decodes, ran_walks, RanPairs, pairs_tell, ran_pairs, ran_objects}
use Rattle.promises.proofs.FrontLaws.{same_front, opens_length, number_at, Tailed, no_tail, one_tail, tailed}

-- an accepted answer that says clean has the counters of a clean walk
judged_clean : {A : Type 0} (form : F.Verdict → A) → Apart form → (k : Walker) (bits : ℕ) (c d : Counters) (v : A) → v ≡ form (verdict_of k bits c)
    → c ≡ d → v ≡ form F.clean → verdict_of k bits d ≡ F.clean
judged_clean form apart k bits c d v j e h = ap (verdict_of k bits) (sym e) ∙ apart _ _ (sym j ∙ h)

-- ---- struct and exact walks

module _ (short long : Call) (cut : CutCall short long) where
  -- demand 3 of their walks
  walks_cut : CutOf long.how (window_of long.bytes long.bits) short.bits (trace_of short) (trace_of long)
  walks_cut =
      subst (λ (k : Walker). CutOf long.how (window_of long.bytes long.bits) short.bits (walk k short.bytes short.bits) (trace_of long))
      (sym cut.how)
      (demand3 long.how long.bytes short.bytes long.bits short.bits cut.shorter cut.inside_long cut.inside_short cut.bits)

  module _ {A : Type 0} (form : F.Verdict → A) (apart : Apart form) (b d x y : Lent) (st su : Counters) (v w : A) (e f : Room)
      {i j : ℕ} (p : Ran form short b st v e x i) (q : Ran form long d su w f y j) where
    same_leaves : Opens (shared short) (leaves (trace_of long))
    same_leaves = walks_cut.same_leaves

    shared_room : Room
    shared_room = record { leaves = length (shared short); path_bytes_lem = length (path_bytes_lem (shared short)); payload_bytes_lem = length (payload_bytes_lem (shared short)) }

    short_tells : (st ≡ counters (trace_of short)) × (e ≡ needed (trace_of short)) × (i ≡ padded_in (trace_of short))
    short_tells = ran_tells p

    long_tells : (su ≡ counters (trace_of long)) × (f ≡ needed (trace_of long)) × (j ≡ padded_in (trace_of long))
    long_tells = ran_tells q

    fronts : Front (shared short) x × Front (shared short) y
    fronts =
        let g = demand3_buffers short long cut b d (subst was_accepted p.says tt) (subst was_accepted q.says tt) in
        (subst (Front (shared short)) (sym p.left) g.0, subst (Front (shared short)) (sym q.left) g.1)

    -- what is shared is the longer's own
    filled_too : within shared_room f ≡ true
    unfolding needed shared_room
    filled_too =
        let a : length (shared short) ≤ length (leaves (trace_of long)) = opens_length same_leaves in
        let b = opens_length (opens_paths same_leaves) in
        let c = opens_length (opens_payloads same_leaves) in
        subst (λ (r : Room). within shared_room r ≡ true) (sym long_tells.1) (rw (le-leb _ _ a, le-leb _ _ b, le-leb _ _ c))

    -- the number j of a kept tail's record
    tail_number : (t : Leaf) → shared short ++ (t ∷ []) ≡ leaves (trace_of short) → (j : ℕ) → j < leaf_words
        → leaf_number x.leaves (length (shared short)) j ≡ get_or (leaf_record (length (path_bytes_lem (shared short))) (length (payload_bytes_lem (shared short))) t) j 0
    tail_number t h =
        number_at (leaves (trace_of short)) x (ran_fills p).front t (length (shared short))
        (record { before = shared short; after = []; whole = sym h; many = refl })

    before_tail : BeforeTail e x.leaves shared_room
    unfolding needed shared_room
    before_tail = go (tailed (leaves (trace_of short)))
      where
        go : Tailed (leaves (trace_of short)) → BeforeTail e x.leaves shared_room
        go (no_tail h) =
            let same : shared_room ≡ e
            = ap (λ (l : List Leaf). record { leaves = length l; path_bytes_lem = length (path_bytes_lem l); payload_bytes_lem = length (payload_bytes_lem l) }) h ∙ sym short_tells.1 in
            subst (BeforeTail e x.leaves) (sym same) P.all_shared
        go (one_tail t h raw) =
            let n = ap (λ (r : Room). r.leaves) short_tells.1 in
            let m = length-append (shared short) (t ∷ []) in
            let k = ap length h in
            tail_off {n = shared_room} (omega (arith, n, m, k)) (tail_number t h handle_at (omega arith) ∙ raw)
            (tail_number t h path_start_at (omega arith)) (tail_number t h payload_start_at (omega arith))

    leaves_begin : Begins form short long v w e f x y
    unfolding shared_room
    leaves_begin =
        let g = fronts in
        record {
          shared = shared_room;
          before_tail = before_tail;
          filled_too = filled_too;
          records = same_front _ (records_size 0 0 (shared short)) g.0.leaves g.1.leaves;
          paths = same_front _ refl g.0.paths g.1.paths;
          payloads = same_front _ refl g.0.payloads g.1.payloads;
          not_clean = λ clean fewer also.
              walks_cut.not_clean (judged_clean form apart _ _ _ _ w q.judged long_tells.0 clean) fewer
              (subst (λ (k : Walker). verdict_of k short.bits (counters (trace_of short)) ≡ F.clean) cut.how (judged_clean form apart _ _ _ _ v p.judged short_tells.0 also));
        }

-- The opening's bits, as a number.
one_opening : (longer shorter : List ℕ) (n m : ℕ) → FirstBits longer shorter n m → field (num shorter) 0 m ≡ field (num longer) 0 m
one_opening longer shorter n m first = field_same (num shorter) (num longer) 0 0 m first.same_bits

module _ (longer shorter : List ℕ) (n m : ℕ) (first : FirstBits longer shorter n m) where
  cut_call : (k : Walker) (levels : ℕ) → CutCall (call_of k levels shorter m) (call_of k levels longer n)
  cut_call k levels =
      record {
        how = refl;
        shorter = first.fewer;
        inside_short = first.inside_short;
        inside_long = first.inside_long;
        bits = one_opening longer shorter n m first;
      }

  begin : {A : Type 0} (form : F.Verdict → A) → Apart form → (k : Walker) (levels : ℕ) (b d x y : Lent) (st su : Counters) (v w : A) (e f : Room)
      → {i j : ℕ} → Ran form (call_of k levels shorter m) b st v e x i → Ran form (call_of k levels longer n) d su w f y j
      → Begins form (call_of k levels shorter m) (call_of k levels longer n) v w e f x y
  begin form apart k levels = leaves_begin (call_of k levels shorter m) (call_of k levels longer n) (cut_call k levels) form apart

  module _ (b d x y : Lent) (u w : Walked Extent) where
    -- DEMAND 3 OF THE STRUCT WALK: neither of two calls with the same tables is refused, and the shorter's bits are the longer's first. The
    -- shorter's records, path bytes and payload bytes, but for a kept tail's, stand unchanged at the front of the longer's buffers; and if the
    -- longer's verdict is clean and the shorter has fewer bits, its verdict is not clean, but where it lacks exactly a zero trailer.
    pub prefix_decode_struct_array : (t : Tables) (levels root : ℕ) → Decodes (struct_call shorter m t levels root) b (Ok u) x
        → Decodes (struct_call longer n t levels root) d (Ok w) y
        → Begins verdict_named (struct_call shorter m t levels root) (struct_call longer n t levels root) u.verdict w.verdict (room_in u.filled) (room_in w.filled) x y
    prefix_decode_struct_array t levels root p q =
        begin verdict_named named_apart (struct t root) levels b d x y _ _ u.verdict w.verdict _ _ (ran_decodes _ b u x p) (ran_decodes _ d w y q)

    -- DEMAND 3 OF THE EXACT WALK: the same.
    pub prefix_decode_struct_array_exact : (declared declared_names_lem : List ℕ) → Decodes (exact_call shorter m declared declared_names_lem) b (Ok u) x
        → Decodes (exact_call longer n declared declared_names_lem) d (Ok w) y
        → Begins verdict_named (exact_call shorter m declared declared_names_lem) (exact_call longer n declared declared_names_lem) u.verdict w.verdict (room_in u.filled) (room_in w.filled) x y
    prefix_decode_struct_array_exact declared declared_names_lem p q =
        begin verdict_named named_apart (exact declared declared_names_lem) 0 b d x y _ _ u.verdict w.verdict _ _ (ran_decodes _ b u x p) (ran_decodes _ d w y q)

  module _ (b d x y : Lent) (r q : VrfWalk) where
    -- DEMAND 3 OF `vrf_struct_array`: the same of two structs, of which neither is refused.
    pub prefix_vrf_struct_array : (t : Tables) (levels root : ℕ) → Walks (struct_call shorter m t levels root) b r x
        → Walks (struct_call longer n t levels root) d q y → BeginsInC (struct_call shorter m t levels root) (struct_call longer n t levels root) r q x y
    prefix_vrf_struct_array t levels root f g h k =
        begin verdict_number_lem number_apart (struct t root) levels b d x y _ _ _ _ _ _ (ran_walks _ b r x f h) (ran_walks _ d q y g k)

    -- DEMAND 3 OF `vrf_struct_array_exact`: the same.
    pub prefix_vrf_struct_array_exact : (declared declared_names_lem : List ℕ) → Walks (exact_call shorter m declared declared_names_lem) b r x
        → Walks (exact_call longer n declared declared_names_lem) d q y
        → BeginsInC (exact_call shorter m declared declared_names_lem) (exact_call longer n declared declared_names_lem) r q x y
    prefix_vrf_struct_array_exact declared declared_names_lem f g h k =
        begin verdict_number_lem number_apart (exact declared declared_names_lem) 0 b d x y _ _ _ _ _ _ (ran_walks _ b r x f h) (ran_walks _ d q y g k)

-- ---- the object walk

module _ (longer shorter : List ℕ) (n m : ℕ) (first : FirstBits longer shorter n m) where
  pairs_cut : CutOf object (window_of longer n) m (pair_trace shorter m) (pair_trace longer n)
  pairs_cut = demand3 object longer shorter n m first.fewer first.inside_long first.inside_short (one_opening longer shorter n m first)

  pairs_begin : {A : Type 0} (form : F.Verdict → A) → Apart form → (b d x y : List ℕ) (st su : Counters) (v w : A) (e f : ℕ)
      → {i j : ℕ} → RanPairs form shorter m b st v e x i → RanPairs form longer n d su w f y j → PairsBegin form longer n m v w e f x y
  unfolding final_pairs
  pairs_begin form apart b d x y st su v w e f p q =
      let run = pair_records (pairs (pair_trace shorter m)) in
      let short = pairs_tell p in
      let long = pairs_tell q in
      let size : length run ≡ pair_words * e = pairs_size (pairs (pair_trace shorter m)) ∙ ap (λ (k : ℕ). pair_words * k) (sym short.1) in
      let held : final_pairs shorter m b ≡ filled run b = rw (← p.says) in
      let front : Opens run x = subst (Opens run) (sym (p.left ∙ held)) (opens_filled run b) in
      let other : Opens run y
      = subst (Opens run) (sym q.left)
      (demand3_pairs longer shorter n m first.fewer first.inside_long first.inside_short (one_opening longer shorter n m first) d (subst was_accepted q.says tt)) in
      let few : length (pairs (pair_trace shorter m)) ≤ length (pairs (pair_trace longer n)) = opens_length pairs_cut.same_pairs in
      record {
        filled_too = omega (arith, few, short.1, long.1);
        pairs = same_front _ size front other;
        not_clean = λ clean fewer also.
            pairs_cut.not_clean (judged_clean form apart _ _ _ _ w q.judged long.0 clean) fewer (judged_clean form apart _ _ _ _ v p.judged short.0 also);
      }

  -- DEMAND 3 OF THE OBJECT WALK: neither of two calls is refused, and the shorter's bits are the longer's first. All of the shorter's pairs stand
  -- unchanged at the front of the longer's; and if the longer's verdict is clean and the shorter has fewer bits, its verdict is not clean, but
  -- where it lacks exactly a zero trailer.
  pub prefix_decode_object_ref_array : (b d x y : List ℕ) (u w : Walked ℕ)
      → DecodesPairs shorter m b (Ok u) x → DecodesPairs longer n d (Ok w) y
      → PairsBegin verdict_named longer n m u.verdict w.verdict u.filled w.filled x y
  prefix_decode_object_ref_array b d x y u w p q =
      pairs_begin verdict_named named_apart b d x y _ _ u.verdict w.verdict u.filled w.filled (ran_pairs shorter m b u x p) (ran_pairs longer n d w y q)

  -- DEMAND 3 OF `vrf_object_array`: the same of two structs, of which neither is refused.
  pub prefix_vrf_object_array : (b d x y : List ℕ) (r q : VrfObjects) → WalksPairs shorter m b r x → WalksPairs longer n d q y
      → PairsBeginInC longer n m r q x y
  prefix_vrf_object_array b d x y r q f g h k =
      pairs_begin verdict_number_lem number_apart b d x y _ _ _ _ _ _ (ran_objects shorter m b r x f h) (ran_objects longer n d q y g k)

-- ---- the exception, by walk

-- The exact walk takes no trailer, so demand 3 has no exception for it.
pub exact_lacks_none : (declared declared_names_lem : List ℕ) (w : Window) (m : ℕ) → LacksTrailer (sink_of (exact declared declared_names_lem)) w m → ⊥
unfolding sink_of struct_sink
exact_lacks_none declared declared_names_lem w m l = let t = l.takes_one in let z : ◌≡◌ {A = ℕ} 0 1 = cc in never z
