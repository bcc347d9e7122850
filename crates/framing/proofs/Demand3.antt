-- Demand 3, of the definitions. The two traces agree until the shorter breaks off or both are behind their index terminator (Cut): a trace that
-- broke off has a fault, and behind both terminators a clean end means that nothing but a zero trailer is missing. A struct or exact walk of no
-- bits gives nothing, and its verdict is empty, not clean.
use mathlib.Core.Path.{◌≡◌, refl, sym, ap, ◌∙◌}
use mathlib.Core.Bool.{Bool, true, false, ◌&&◌}
use mathlib.Core.List.{List, [], ◌∷◌}
use Prim.Native.Nat.{ℕ, ◌+◌, ◌-◌, ◌*◌, ◌%◌, ◌^◌, ◌≤◌, ◌<◌}
use native.Mathlib.Omega.{arith}
use lib.Dec.{eqb}
use lib.ListN.{length}
use borrow.Author.Tests.{lt-ltb, le-ltb, eqb-true, eqb-false, eq-eqb, ne_eqb}
use Rattle.bits.proofs.ChoiceLaws.{and_true}
use Rattle.bits.proofs.Never.{never}
use Rattle.bits.specs.Bits.{num, field}
use Rattle.bits.specs.Packed.{Packed, packed}
use Rattle.bits.proofs.FieldLaws.{field_low, field_same}
use Rattle.bits.proofs.PackedWindows as PW
use Rattle.std.specs.Prelude.{Ok, Err}
use Rattle.bits.specs.Sizes.{trailer_bits}
use Rattle.framing.specs.Windows.{Window, window_of, opening, Reading, got, failed, reading_of, reading}
use Rattle.framing.specs.Events.{Leaf, raw_handle, Event, number, element, array, leaf, pair, truncation, error, implicit, nested, root, leaves, pairs, Trace}
use Rattle.framing.specs.Counters.{Counters, counters, faults, is_clean}
use Rattle.framing.specs.Walk.{Sink, trailer_of, closing}
use Rattle.framing.specs.declared.Walk.TheVariants as how
use Rattle.framing.specs.Sinks.{struct_sink, object_sink, Walker, walker, sink_of, silent, walk_window, walk}
use Rattle.framing.specs.Verdicts.{Verdict, clean, empty, verdict_of}
use Rattle.framing.specs.Demand.{drop_tail, Opens, LacksTrailer, CutOf}
use Rattle.framing.proofs.VerdictLaws.{silent_empty, says_clean}
use Rattle.framing.proofs.Shorter.{Reads, agree, short, reads}
use Rattle.framing.proofs.Cut as Cuts
use Rattle.framing.proofs.Cut.{Tail, skipped, kept, Broken, read, at_implicit, at_error, at_truncation, breaks, ending, same, level_cut}

-- ---- leaves and pairs

opens_cons : {A : Type 0} (x : A) {xs ys : List A} → Opens xs ys → Opens (x ∷ xs) (x ∷ ys)
opens_cons x o = record { rest = o.rest; whole = ap (λ l. x ∷ l) o.whole }

opens_nil : {A : Type 0} (ys : List A) → Opens [] ys
opens_nil ys = record { rest = ys; whole = refl }

opens_drop : (x : Leaf) (xs : List Leaf) {ys : List Leaf} → Opens (drop_tail xs) ys → Opens (drop_tail (x ∷ xs)) (x ∷ ys)
unfolding drop_tail
opens_drop x [] {ys} o = go (eqb x.handle raw_handle) refl
  where
    go : (b : Bool) → eqb x.handle raw_handle ≡ b → Opens (drop_tail (x ∷ [])) (x ∷ ys)
    go true e = rw e (opens_nil (x ∷ ys))
    go false e = rw e (record { rest = ys; whole = refl })
opens_drop x (y ∷ xs) o = opens_cons x o

tail_leaves : {t : Trace} → Tail t → drop_tail (leaves t) ≡ []
unfolding drop_tail
tail_leaves skipped = refl
tail_leaves (kept {x = x} e) = rw (eq-eqb x.handle raw_handle e)

broken_leaves : {t : Trace} → Broken t → drop_tail (leaves t) ≡ []
unfolding drop_tail
broken_leaves (read h) = broken_leaves h
broken_leaves at_implicit = refl
broken_leaves at_error = refl
broken_leaves (at_truncation h) = tail_leaves h

broken_pairs : {t : Trace} → Broken t → pairs t ≡ []
broken_pairs (read h) = broken_pairs h
broken_pairs at_implicit = refl
broken_pairs at_error = refl
broken_pairs (at_truncation skipped) = refl
broken_pairs (at_truncation (kept e)) = refl

-- ---- faults

pub clean_rest : (e : Event) (t : Trace) → is_clean (counters (e ∷ t)) ≡ true → is_clean (counters t) ≡ true
clean_rest e t h = eq-eqb (faults (counters t)) 0 (let f = eqb-true (faults (counters (e ∷ t))) 0 h in omega arith)

pub broken_unclean : {t : Trace} → Broken t → is_clean (counters t) ≡ true → ⊥
broken_unclean (read {x = x} {t = t} h) c = broken_unclean h (clean_rest (number x) t c)
broken_unclean at_implicit c = let f = eqb-true (faults (counters (implicit ∷ []))) 0 c in omega arith
broken_unclean at_error c = let f = eqb-true (faults (counters (error ∷ []))) 0 c in omega arith
broken_unclean (at_truncation {t = t} h) c = let f = eqb-true (faults (counters (truncation ∷ t))) 0 c in omega arith

root_clean : (n : ℕ) → is_clean (counters (root n ∷ [])) ≡ true → n ≡ 0
root_clean n c = let f = eqb-true (faults (counters (root n ∷ []))) 0 c in omega arith

-- ---- behind both terminators

record Ends (s : Sink) (w : Window) (m : ℕ) (a b : Trace) : Type 0 where
  no_leaves : leaves a ≡ []
  no_pairs : pairs a ≡ []
  faultless : is_clean (counters b) ≡ true → m < w.size → is_clean (counters a) ≡ true
      → LacksTrailer s w m

-- with the trailer's bits left, a number that is zero is a zero byte
pub zero_byte : (w : Window) (q v b : ℕ) → q + trailer_bits ≡ w.size → reading w q ≡ got v b → v ≡ 0 → field w.bits q trailer_bits ≡ 0
unfolding reading
zero_byte w q v b fit e z = go (packed w.bits w.size q) refl e
  where
    go : (r : Packed) → packed w.bits w.size q ≡ r → reading_of r ≡ got v b → field w.bits q trailer_bits ≡ 0
    go (Ok x) p f =
        let val : x.value ≡ 0 = (let f' : x.value ≡ v = cc in f' ∙ z) in PW.zero_byte w.bits w.size q x.value x.bytes fit p val
    go (Err why) p f = let no_way : ◌≡◌ {A = ℕ} 0 1 = cc in omega arith

-- the shorter's end took a trailer, or left bits; the sink counts them at the root
module _ (s : Sink) (w : Window) (m : ℕ) (mn : m ≤ w.size) (tells : (n : ℕ) → s.leftover n ≡ root n) where
  left_over : (v : Window) (q : ℕ) → s.trailer && eqb (v.size - q) trailer_bits ≡ false → closing s v q ≡ root (v.size - q) ∷ []
  unfolding closing
  left_over v q e = rw (e, tells (v.size - q))

  taken : (v : Window) (q : ℕ) → s.trailer && eqb (v.size - q) trailer_bits ≡ true → closing s v q ≡ trailer_of s v q (reading v q)
  unfolding closing
  taken v q e = rw e

  -- a clean end with eight bits left is a zero byte
  trailer_zero : (q : ℕ) → q + trailer_bits ≡ w.size → (r : Reading) → reading w q ≡ r → is_clean (counters (trailer_of s w q r)) ≡ true → field w.bits q trailer_bits ≡ 0
  trailer_zero q fit failed e c = absurd (broken_unclean at_error c)
  trailer_zero q fit (got v b) e c = go (eqb v 0) refl c
    where
      go : (x : Bool) → eqb v 0 ≡ x → is_clean (counters (trailer_of s w q (got v b))) ≡ true → field w.bits q trailer_bits ≡ 0
      go true t c = zero_byte w q v b fit e (eqb-true v 0 t)
      go false t c =
          let c' : is_clean (counters (root trailer_bits ∷ [])) ≡ true = rw (t, tells trailer_bits) at c in
          let f = root_clean trailer_bits c' in
          omega arith

  -- the shorter ends with nothing left at q, which is m
  at_q : (q : ℕ) → q ≡ m → m < w.size → is_clean (counters (closing s w q)) ≡ true
      → LacksTrailer s w q
  unfolding closing
  at_q q e lt c = go (s.trailer && eqb (w.size - q) trailer_bits) refl
    where
      go : (x : Bool) → s.trailer && eqb (w.size - q) trailer_bits ≡ x → LacksTrailer s w q
      go true t =
          let ts = and_true s.trailer (eqb (w.size - q) trailer_bits) t in
          let d = eqb-true (w.size - q) trailer_bits ts.1 in
          let fit : q + trailer_bits ≡ w.size = omega arith in
          record { takes_one = ts.0; lacks_one = fit; zero = trailer_zero q fit (reading w q) refl (rw t at c) }
      go false t =
          let f = root_clean (w.size - q) (rw (left_over w q t) at c) in
          absurd (omega arith)

  -- the shorter took its last eight bits, so the longer leaves more than eight
  past_q : (q : ℕ) → m - q ≡ trailer_bits → m < w.size → is_clean (counters (closing s w q)) ≡ true → ⊥
  past_q q d lt c = go (s.trailer && eqb (w.size - q) trailer_bits) refl
    where
      go : (x : Bool) → s.trailer && eqb (w.size - q) trailer_bits ≡ x → ⊥
      go true t = let d' = eqb-true (w.size - q) trailer_bits (and_true s.trailer (eqb (w.size - q) trailer_bits) t).1 in omega arith
      go false t = let f = root_clean (w.size - q) (rw (left_over w q t) at c) in omega arith

  took : (q : ℕ) → m - q ≡ trailer_bits → {r t : Reading} → Reads m q r t → Cuts.Cut (Ends s w m) (trailer_of s (opening m w) q r) (closing s w q)
  took q d short = breaks at_error
  took q d (agree {v = v} {b = b} h) = go (eqb v 0) refl
    where
      go : (x : Bool) → eqb v 0 ≡ x → Cuts.Cut (Ends s w m) (trailer_of s (opening m w) q (got v b)) (closing s w q)
      go true e =
          rw (e, tells 0)
          (ending (record { no_leaves = refl; no_pairs = refl; faultless = λ c lt c'. absurd (past_q q d lt c) }))
      go false e =
          rw (e, tells trailer_bits)
          (ending {a = root trailer_bits ∷ []} {b = closing s w q} (record { no_leaves = refl; no_pairs = refl; faultless = λ c lt c'. let f = root_clean trailer_bits c' in absurd (omega arith) }))

  closing_cut : (q : ℕ) → q ≤ m → Cuts.Cut (Ends s w m) (closing s (opening m w) q) (closing s w q)
  closing_cut q h = go (s.trailer && eqb (m - q) trailer_bits) refl
    where
      go : (x : Bool) → s.trailer && eqb (m - q) trailer_bits ≡ x → Cuts.Cut (Ends s w m) (closing s (opening m w) q) (closing s w q)
      go true t =
          rw (taken (opening m w) q t)
          (took q (eqb-true (m - q) trailer_bits (and_true s.trailer (eqb (m - q) trailer_bits) t).1) (reads w m mn q))
      go false t =
          rw (left_over (opening m w) q t)
          (ending {a = root (m - q) ∷ []} {b = closing s w q} (record { no_leaves = refl; no_pairs = refl; faultless = λ c lt c'. let e : q ≡ m = (let f = root_clean (m - q) c' in omega arith) in rw e at (at_q q e lt c) }))

-- ---- the projections of two traces that agree until the shorter breaks off or both end

module _ (s : Sink) (w : Window) (m : ℕ) where
  cut_leaves : {a b : Trace} → Cuts.Cut (Ends s w m) a b → Opens (drop_tail (leaves a)) (leaves b)
  unfolding drop_tail
  cut_leaves {a} {b} (breaks h) = rw (broken_leaves h) (opens_nil (leaves b))
  cut_leaves {a} {b} (ending e) = rw e.no_leaves (opens_nil (leaves b))
  cut_leaves (same {e = number x} c) = cut_leaves c
  cut_leaves (same {e = element p} c) = cut_leaves c
  cut_leaves (same {e = array p} c) = cut_leaves c
  cut_leaves (same {e = leaf x} {a = a} c) = opens_drop x (leaves a) (cut_leaves c)
  cut_leaves (same {e = pair x} c) = cut_leaves c
  cut_leaves (same {e = truncation} c) = cut_leaves c
  cut_leaves (same {e = error} c) = cut_leaves c
  cut_leaves (same {e = implicit} c) = cut_leaves c
  cut_leaves (same {e = nested n} c) = cut_leaves c
  cut_leaves (same {e = root n} c) = cut_leaves c

  cut_pairs : {a b : Trace} → Cuts.Cut (Ends s w m) a b → Opens (pairs a) (pairs b)
  cut_pairs {a} {b} (breaks h) = rw (broken_pairs h) (opens_nil (pairs b))
  cut_pairs {a} {b} (ending e) = rw e.no_pairs (opens_nil (pairs b))
  cut_pairs (same {e = number x} c) = cut_pairs c
  cut_pairs (same {e = element p} c) = cut_pairs c
  cut_pairs (same {e = array p} c) = cut_pairs c
  cut_pairs (same {e = leaf x} c) = cut_pairs c
  cut_pairs (same {e = pair x} c) = opens_cons x (cut_pairs c)
  cut_pairs (same {e = truncation} c) = cut_pairs c
  cut_pairs (same {e = error} c) = cut_pairs c
  cut_pairs (same {e = implicit} c) = cut_pairs c
  cut_pairs (same {e = nested n} c) = cut_pairs c
  cut_pairs (same {e = root n} c) = cut_pairs c

  cut_faultless : {a b : Trace} → Cuts.Cut (Ends s w m) a b → is_clean (counters b) ≡ true → m < w.size → is_clean (counters a) ≡ true
      → LacksTrailer s w m
  cut_faultless (breaks h) l lt c = absurd (broken_unclean h c)
  cut_faultless (ending e) l lt c = e.faultless l lt c
  cut_faultless (same {e = e} {a = a} {b = b} k) l lt c = cut_faultless k (clean_rest e b l) lt (clean_rest e a c)

-- ---- the walks

root_told : (k : Walker) (n : ℕ) → (sink_of k).leftover n ≡ root n
unfolding sink_of struct_sink object_sink
root_told (walker how.Struct t l) n = refl
root_told (walker how.Exact t lvl) n = refl
root_told (walker how.Object t lvl) n = refl

loud_mono : (k : Walker) (m n : ℕ) → m ≤ n → silent k m ≡ false → silent k n ≡ false
loud_mono (walker how.Struct t l) m n h e = let f = eqb-false m 0 e in ne_eqb n 0 (λ z. f (omega arith))
loud_mono (walker how.Exact t lvl) m n h e = let f = eqb-false m 0 e in ne_eqb n 0 (λ z. f (omega arith))
loud_mono (walker how.Object t lvl) m n h e = refl

-- a silent walk is empty, not clean
never_clean : (k : Walker) (m : ℕ) (c : Counters) → silent k m ≡ true → verdict_of k m c ≡ clean → ⊥
never_clean k m c e h = let z : ◌≡◌ {A = Verdict} empty clean = sym (silent_empty k m c e) ∙ h in never cc

-- Demand 3 of a window and its first m bits.
pub demand3_window : (k : Walker) (w : Window) (m : ℕ) → m ≤ w.size → CutOf k w m (walk_window k (opening m w)) (walk_window k w)
unfolding walk_window drop_tail
demand3_window k w m mn = go (silent k m) refl
  where
    go : (x : Bool) → silent k m ≡ x → CutOf k w m (walk_window k (opening m w)) (walk_window k w)
    go true e =
        rw e
        (record {
          same_leaves = opens_nil (leaves (walk_window k w));
          same_pairs = opens_nil (pairs (walk_window k w));
          not_clean = λ l lt c. absurd (never_clean k m _ e c);
        })
    go false e =
        let s = sink_of k in
        let c = level_cut s w m mn (Ends s w m) (closing_cut s w m mn (root_told k)) [] in
        rw (e, loud_mono k m w.size mn e)
        (record {
          same_leaves = cut_leaves s w m c;
          same_pairs = cut_pairs s w m c;
          not_clean = λ l lt d.
              cut_faultless s w m c (says_clean k _ _ l).no_faults lt (says_clean k _ _ d).no_faults;
        })

-- a window inside its bytes
pub walk_inside : (k : Walker) (bytes : List ℕ) (n : ℕ) → n ≤ 8 * length bytes → walk k bytes n ≡ walk_window k (window_of bytes n)
unfolding walk walk_window
walk_inside k bytes n h = go (silent k n) refl
  where
    go : (x : Bool) → silent k n ≡ x → walk k bytes n ≡ walk_window k (window_of bytes n)
    go true e = rw e
    go false e = rw (e, le-ltb (8 * length bytes) n h)

opening_of : (longer shorter : List ℕ) (n m : ℕ) → m ≤ n → field (num shorter) 0 m ≡ field (num longer) 0 m
    → window_of shorter m ≡ opening m (window_of longer n)
opening_of longer shorter n m mn e =
    let bits : field (num shorter) 0 m ≡ field (num longer) 0 n % 2 ^ m = e ∙ sym (field_low (num longer) 0 m n mn) in
    λ i. record { bits = bits i; size = m; origin = 0 }

-- Demand 3 of two slices whose first m bits are the same, walked the same way: without a last kept tail the shorter's leaves open the longer's
-- list unchanged, and so do pairs; and if the longer is clean and the shorter strictly shorter, the shorter is not clean, but for the window that
-- lacks exactly the zero trailer.
pub demand3 : (k : Walker) (longer shorter : List ℕ) (n m : ℕ) → m ≤ n → n ≤ 8 * length longer → m ≤ 8 * length shorter
    → field (num shorter) 0 m ≡ field (num longer) 0 m → CutOf k (window_of longer n) m (walk k shorter m) (walk k longer n)
demand3 k longer shorter n m mn fits-longer fits-shorter e =
    rw (walk_inside k longer n fits-longer, walk_inside k shorter m fits-shorter, opening_of longer shorter n m mn e)
    (demand3_window k (window_of longer n) m mn)

-- Bits outside the window alter nothing: two slices that hold it and have its bits give the same trace.
pub outside_alters_nothing : (k : Walker) (a b : List ℕ) (n : ℕ) → n ≤ 8 * length a → n ≤ 8 * length b
    → ((i : ℕ) → i < n → field (num a) (0 + i) 1 ≡ field (num b) (0 + i) 1) → walk k a n ≡ walk k b n
outside_alters_nothing k a b n ha hb h =
    walk_inside k a n ha
    ∙ ap (λ (x : ℕ). walk_window k (record { bits = x; size = n; origin = 0 })) (field_same (num a) (num b) 0 0 n h)
    ∙ sym (walk_inside k b n hb)

-- Two windows that pass their bytes give the same trace, whatever the bytes are: one error.
pub past_alike : (k : Walker) (a b : List ℕ) (n : ℕ) → 8 * length a < n → 8 * length b < n → walk k a n ≡ walk k b n
unfolding walk
past_alike k a b n ha hb = rw (lt-ltb (8 * length a) n ha, lt-ltb (8 * length b) n hb) refl
