-- Demand 3 of lent buffers: what a cut window's walk leaves, but for a kept tail, stands unchanged at the front of what the whole window's walk
-- leaves. Its leaves open the whole's list, and records, paths and payloads follow one another in that order.
use mathlib.Core.Path.{◌≡◌, refl, sym, ap, ◌∙◌, subst}
use mathlib.Core.Bool.{Bool, true, false}
use mathlib.Core.List.{List, [], ◌∷◌, ◌++◌, append_assoc}
use Prim.Native.Nat.{ℕ, ◌+◌, ◌*◌, ◌≤◌}
use lib.Dec.{eqb}
use lib.ListN.{length, drop}
use Rattle.bits.specs.Bits.{num, field}
use Rattle.bits.specs.Runs.{filled}
use Rattle.framing.specs.Events.{Leaf, Pair, raw_handle, leaves, pairs, Trace}
use Rattle.framing.specs.Sinks.{Walker, object, walk}
use Rattle.framing.specs.Records.{path_bytes_lem, payload_bytes_lem, leaf_records, pair_records}
use Rattle.framing.specs.Refusing.{Answer, refused, accepted}
use Rattle.framing.specs.Demand.{drop_tail, Opens}
use Rattle.framing.proofs.RecordLaws.{path_append, payload_append, records_append}
use Rattle.framing.proofs.Demand3.{demand3}
use Rattle.outputs.specs.Answers.{at_exit, Call, Lent, trace_of, answer, final_leaves, final_paths, final_payloads, final, pair_trace, pair_answer, final_pairs, was_accepted, shared, Front}

-- ---- how a list begins

pub opens_trans : {A : Type 0} {xs ys zs : List A} → Opens xs ys → Opens ys zs → Opens xs zs
opens_trans {xs = xs} f g = record { rest = f.rest ++ g.rest; whole = sym (append_assoc xs f.rest g.rest) ∙ ap (λ l. l ++ g.rest) f.whole ∙ g.whole }

pub opens_filled : (new old : List ℕ) → Opens new (filled new old)
opens_filled new old = record { rest = drop (length new) old; whole = refl }

pub opens_paths : {xs ys : List Leaf} → Opens xs ys → Opens (path_bytes_lem xs) (path_bytes_lem ys)
opens_paths {xs} f = record { rest = path_bytes_lem f.rest; whole = sym (path_append xs f.rest) ∙ ap path_bytes_lem f.whole }

pub opens_payloads : {xs ys : List Leaf} → Opens xs ys → Opens (payload_bytes_lem xs) (payload_bytes_lem ys)
opens_payloads {xs} f = record { rest = payload_bytes_lem f.rest; whole = sym (payload_append xs f.rest) ∙ ap payload_bytes_lem f.whole }

pub opens_records : (a b : ℕ) {xs ys : List Leaf} → Opens xs ys → Opens (leaf_records a b xs) (leaf_records a b ys)
opens_records a b {xs} f =
    record {
      rest = leaf_records (a + length (path_bytes_lem xs)) (b + length (payload_bytes_lem xs)) f.rest;
      whole = sym (records_append a b xs f.rest) ∙ ap (leaf_records a b) f.whole;
    }

pair_append : (l m : List Pair) → pair_records (l ++ m) ≡ pair_records l ++ pair_records m
unfolding pair_records
pair_append [] m = refl
pair_append (x ∷ l) m = ap (λ r. x.index ∷ x.guid ∷ r) (pair_append l m)

pub opens_pairs : {xs ys : List Pair} → Opens xs ys → Opens (pair_records xs) (pair_records ys)
opens_pairs {xs} f = record { rest = pair_records f.rest; whole = sym (pair_append xs f.rest) ∙ ap pair_records f.whole }

-- all leaves but a kept tail
pub drop_tail_opens : (l : List Leaf) → Opens (drop_tail l) l
unfolding drop_tail
drop_tail_opens [] = record { rest = []; whole = refl }
drop_tail_opens (x ∷ []) = go (eqb x.handle raw_handle) refl
  where
    go : (b : Bool) → eqb x.handle raw_handle ≡ b → Opens (drop_tail (x ∷ [])) (x ∷ [])
    go true e = rw e (record { rest = x ∷ []; whole = refl })
    go false e = rw e (record { rest = []; whole = refl })
drop_tail_opens (x ∷ y ∷ l) = let f = drop_tail_opens (y ∷ l) in record { rest = f.rest; whole = ap (λ r. x ∷ r) f.whole }

-- ---- an accepted call's buffers begin with what any leaves do that its leaves begin with

left_opens : {N : Type 0} (a : Answer N) → was_accepted a → {xs : List ℕ} (new old : List ℕ) → Opens xs new → Opens xs (at_exit a new old)
left_opens (accepted k p n) yes' new old f = opens_trans f (opens_filled new old)
left_opens (refused k n) yes' new old f = absurd yes'

pub front : (c : Call) (b : Lent) → was_accepted (answer c b) → (l : List Leaf) → Opens l (leaves (trace_of c)) → Front l (final c b)
unfolding final_leaves final_paths final_payloads
front c b ok l f =
    record {
      leaves = left_opens (answer c b) ok (leaf_records 0 0 (leaves (trace_of c))) b.leaves (opens_records 0 0 f);
      paths = left_opens (answer c b) ok (path_bytes_lem (leaves (trace_of c))) b.paths (opens_paths f);
      payloads = left_opens (answer c b) ok (payload_bytes_lem (leaves (trace_of c))) b.payloads (opens_payloads f);
    }

-- the two calls differ in their windows alone, and the shorter's bits are the longer's first
pub record CutCall (short long : Call) : Type 0 where
  pub how : short.how ≡ long.how
  pub shorter : short.bits ≤ long.bits
  pub inside_short : short.bits ≤ 8 * length short.bytes
  pub inside_long : long.bits ≤ 8 * length long.bytes
  pub bits : field (num short.bytes) 0 short.bits ≡ field (num long.bytes) 0 short.bits

-- DEMAND 3 OF BUFFERS: both calls' buffers begin with the records, path bytes and payload bytes of the leaves that they share.
pub demand3_buffers : (short long : Call) → CutCall short long → (b d : Lent) → was_accepted (answer short b) → was_accepted (answer long d)
    → Front (shared short) (final short b) × Front (shared short) (final long d)
demand3_buffers short long cut b d ok ok' =
    let e : walk long.how short.bytes short.bits ≡ trace_of short = ap (λ (k : Walker). walk k short.bytes short.bits) (sym cut.how) in
    let same : Opens (drop_tail (leaves (walk long.how short.bytes short.bits))) (leaves (trace_of long)) =
    (demand3 long.how long.bytes short.bytes long.bits short.bits cut.shorter cut.inside_long cut.inside_short cut.bits).same_leaves in (
      front short b ok (shared short) (drop_tail_opens (leaves (trace_of short))),
      front long d ok' (shared short) (subst (λ (t : Trace). Opens (drop_tail (leaves t)) (leaves (trace_of long))) e same),
    )

-- the object walk: all pairs of the shorter stand at the front of the longer's
pub demand3_pairs : (longer shorter : List ℕ) (n m : ℕ) → m ≤ n → n ≤ 8 * length longer → m ≤ 8 * length shorter
    → field (num shorter) 0 m ≡ field (num longer) 0 m → (d : List ℕ) → was_accepted (pair_answer longer n d)
    → Opens (pair_records (pairs (pair_trace shorter m))) (final_pairs longer n d)
unfolding final_pairs
demand3_pairs longer shorter n m mn fl fs e d ok =
    left_opens (pair_answer longer n d) ok (pair_records (pairs (pair_trace longer n))) d (opens_pairs (demand3 object longer shorter n m mn fl fs e).same_pairs)
