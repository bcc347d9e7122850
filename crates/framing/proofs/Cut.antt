-- The trace of the first m bits against the trace of the whole window: they agree event by event until the shorter breaks off, or until both
-- are behind their index terminator.
use mathlib.Core.Path.{◌≡◌, refl}
use mathlib.Core.Bool.{Bool, true, false, ◌&&◌}
use mathlib.Core.List.{List, [], ◌∷◌, ◌++◌}
use Prim.Native.Nat.{ℕ, zero, suc, ◌+◌, ◌*◌, ◌≤◌}
use lib.Dec.{ltb, eqb}
use Rattle.bits.specs.Packed.{Number}
use Rattle.bits.specs.Sizes.{max_fields, max_elements}
use Rattle.framing.specs.Windows.{Window, part, opening, Reading, got}
use Rattle.framing.specs.Events.{Leaf, raw_handle, numbers, Event, number, leaf, truncation, error, implicit, Trace}
use Rattle.framing.specs.Walk.{Sink, Lead, opens, Due, tail, Run, done, stopped, prepend, on_field, on_last_field, fields, closing, in_item, behind, beyond, on_index, on_last_index, elements, too_many, on_count, level}
use Rattle.framing.proofs.Shorter.{part_opening, Reads, agree, short, reads, Leads, at_end, unread, at_zero, at_more, leads, Dues, at_field, dues}

-- what may stand behind a truncation
pub data Tail : Trace → Type 0 where
  skipped : Tail []
  kept : {x : Leaf} → x.handle ≡ raw_handle → Tail (leaf x ∷ [])

-- how a walk breaks off
pub data Broken : Trace → Type 0 where
  read : {x : Number} {t : Trace} → Broken t → Broken (number x ∷ t)
  at_implicit : Broken (implicit ∷ [])
  at_error : Broken (error ∷ [])
  at_truncation : {t : Trace} → Tail t → Broken (truncation ∷ t)

-- The shorter trace and the longer one; Ending relates them behind both terminators.
pub data Cut (Ending : Trace → Trace → Type 0) : Trace → Trace → Type 0 where
  breaks : {a b : Trace} → Broken a → Cut Ending a b
  ending : {a b : Trace} → Ending a b → Cut Ending a b
  same : {e : Event} {a b : Trace} → Cut Ending a b → Cut Ending (e ∷ a) (e ∷ b)

pub Never : Trace → Trace → Type 0
Never a b = ⊥

module _ {Ending : Trace → Trace → Type 0} where
  -- the same events in front of both
  after : (t : Trace) {a b : Trace} → Cut Ending a b → Cut Ending (t ++ a) (t ++ b)
  after [] c = c
  after (e ∷ t) c = same (after t c)

  -- the longer goes on
  longer : {a b : Trace} (more : Trace) → Cut Never a b → Cut Ending a (b ++ more)
  unfolding Never
  longer more (breaks h) = breaks h
  longer more (ending e) = absurd e
  longer more (same c) = same (longer more c)

  loosen : {a b : Trace} → Cut Never a b → Cut Ending a b
  unfolding Never
  loosen (breaks h) = breaks h
  loosen (ending e) = absurd e
  loosen (same c) = same (loosen c)

-- An element's fields: both close at the same bit, inside the first m; or the shorter breaks off.
abbrev pub trace_of : Run → Trace
trace_of (done t q) = t
trace_of (stopped t) = t

pub data Runs (m : ℕ) : Run → Run → Type 0 where
  both : {t : Trace} {q : ℕ} → q ≤ m → Runs m (done t q) (done t q)
  lost : {t : Trace} {r : Run} → Cut Never t (trace_of r) → Runs m (stopped t) r

prepended : (m : ℕ) (t : Trace) {a b : Run} → Runs m a b → Runs m (prepend t a) (prepend t b)
prepended m t (both h) = both h
prepended m t (lost {r = done u q} c) = lost (after t c)
prepended m t (lost {r = stopped u} c) = lost (after t c)

pub numbers_error : (ns : List Number) → Broken (numbers ns ++ (error ∷ []))
numbers_error [] = at_error
numbers_error (x ∷ ns) = read (numbers_error ns)

pub tail_of : (s : Sink) (v : Window) (path : List ℕ) (p : ℕ) → Tail (tail s v path p)
unfolding tail
tail_of s v path p = go (s.flattens && ltb p v.size) refl
  where
    go : (x : Bool) → s.flattens && ltb p v.size ≡ x → Tail (tail s v path p)
    go true e = rw e (kept refl)
    go false e = rw e skipped

module _ (s : Sink) (w : Window) (m : ℕ) (mn : m ≤ w.size) where
  last_field : (path : List ℕ) (p : ℕ) {l k : Lead} → Leads m l k → Runs m (on_last_field s (opening m w) path p l) (on_last_field s w path p k)
  last_field path p at_end = lost (breaks at_implicit)
  last_field path p unread = lost (breaks at_error)
  last_field path p (at_zero h) = both h
  last_field path p (at_more h) = lost (breaks (at_truncation (tail_of s (opening m w) path p)))

  one_field : (i : ℕ) (path : List ℕ) (first : Bool) (f g : ℕ → Bool → Run) → ((q : ℕ) (b : Bool) → Runs m (f q b) (g q b))
      → {d e : Due} → Dues m d e → Runs m (on_field s (opening m w) i path first f d) (on_field s w i path first g e)
  one_field i path first f g r at_end = lost (breaks at_implicit)
  one_field i path first f g r (unread {t = ns}) = lost (breaks (numbers_error ns))
  one_field i path first f g r (at_zero h) = both h
  one_field i path first f g r (at_field {t = ns} {h = h} {q = q} {k = k} fit) =
      rw (part_opening w m q k fit)
      (prepended m (numbers ns ++ s.field i path first h (part w q k)) (r (q + k) (first && eqb k 0)))

  pub fields_cut : (i : ℕ) (path : List ℕ) (left p : ℕ) (first : Bool)
      → Runs m (fields s (opening m w) i path left p first) (fields s w i path left p first)
  unfolding fields
  fields_cut i path zero p first = last_field path p (leads w m mn p)
  fields_cut i path (suc left) p first =
      one_field i path first (λ q f. fields s (opening m w) i path left q f) (λ q f. fields s w i path left q f)
      (λ q f. fields_cut i path left q f) (dues w m mn p)

  -- given how the two ends behind a terminator at bit q are related
  module _ (Ending : Trace → Trace → Type 0) (end : (q : ℕ) → q ≤ m → Cut Ending (closing s (opening m w) q) (closing s w q)) where
    go_on : (f g : ℕ → Trace) → ((q : ℕ) → q ≤ m → Cut Ending (f q) (g q)) → {a b : Run} → Runs m a b → Cut Ending (behind f a) (behind g b)
    go_on f g r (both {t = t} {q = q} h) = after t (r q h)
    go_on f g r (lost {r = done u q} c) = longer (g q) c
    go_on f g r (lost {r = stopped u} c) = loosen c

    last_index : (path : List ℕ) (p : ℕ) {l k : Lead} → Leads m l k → Cut Ending (on_last_index s (opening m w) path p l) (on_last_index s w path p k)
    last_index path p at_end = breaks at_implicit
    last_index path p unread = breaks at_error
    last_index path p (at_zero {q = q} h) = same (end q h)
    last_index path p (at_more h) = breaks (at_truncation (tail_of s (opening m w) path p))

    one_element : (path : List ℕ) (count : ℕ) (f g : ℕ → Trace) → ((q : ℕ) → q ≤ m → Cut Ending (f q) (g q))
        → {l k : Lead} → Leads m l k → Cut Ending (on_index s (opening m w) path count f l) (on_index s w path count g k)
    one_element path count f g r at_end = breaks at_implicit
    one_element path count f g r unread = breaks at_error
    one_element path count f g r (at_zero {q = q} h) = same (end q h)
    one_element path count f g r (at_more {e = x} {n = n} {q = q} h) = go (beyond count n) refl
      where
        go : (b : Bool) → beyond count n ≡ b → Cut Ending (on_index s (opening m w) path count f (opens x n q)) (on_index s w path count g (opens x n q))
        go true e = rw e (same (breaks at_error))
        go false e = rw e (same (same (go_on f g r (fields_cut n (in_item s path n) max_fields q true))))

    pub elements_cut : (path : List ℕ) (count left p : ℕ) → Cut Ending (elements s (opening m w) path count left p) (elements s w path count left p)
    unfolding elements
    elements_cut path count zero p = last_index path p (leads w m mn p)
    elements_cut path count (suc left) p =
        one_element path count (λ q. elements s (opening m w) path count left q) (λ q. elements s w path count left q)
        (λ q h. elements_cut path count left q) (leads w m mn p)

    count_cut : (path : List ℕ) {r t : Reading} → Reads m 0 r t → Cut Ending (on_count s (opening m w) path r) (on_count s w path t)
    count_cut path short = breaks at_error
    count_cut path (agree {v = v} {b = b} h) = go (too_many v) refl
      where
        go : (x : Bool) → too_many v ≡ x → Cut Ending (on_count s (opening m w) path (got v b)) (on_count s w path (got v b))
        go true e = rw e (same (breaks (at_truncation (tail_of s (opening m w) path (8 * b)))))
        go false e = rw e (same (elements_cut path v max_elements (8 * b)))

    pub level_cut : (path : List ℕ) → Cut Ending (level s (opening m w) path) (level s w path)
    unfolding level
    level_cut path = count_cut path (reads w m mn 0)
