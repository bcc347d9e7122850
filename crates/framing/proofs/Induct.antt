-- Induction over a walk: what holds of each piece of a trace, and is kept where pieces join, holds of a level's whole trace.
use mathlib.Core.Path.{◌≡◌, refl}
use mathlib.Core.Bool.{Bool, true, false, ◌&&◌}
use mathlib.Core.List.{List, [], ◌∷◌, ◌++◌}
use Prim.Native.Nat.{ℕ, zero, suc, ◌+◌, ◌-◌, ◌*◌, ◌≤◌, ◌<◌}
use native.Mathlib.Omega.{arith}
use lib.Dec.{ltb, leb, eqb}
use borrow.Author.Tests.{ltb-false, leb-true, leb-false, eqb-true, eqb-false}
use Rattle.bits.proofs.PackedLaws.{whole_bytes}
use Rattle.bits.proofs.PackedWindows as PW
use Rattle.bits.proofs.PackedWindows.{Lies, packed_lies}
use Rattle.bits.specs.Packed.{Packed, whole, Number, most_bytes}
use Rattle.bits.specs.Sizes.{max_fields, max_elements, trailer_bits}
use Rattle.framing.specs.Windows.{Window, part, Reading, got, failed, reading_of, reading}
use Rattle.framing.specs.Events.{raw_handle, number, element, truncation, error, implicit, Trace}
use Rattle.framing.specs.Walk.{Sink, number_at, Lead, ends, fails, closes, opens, lead_of, lead, Due, cut, broken, closed, present, with_width, field_of, field_at, tail, Run, done, stopped, prepend, on_field, on_last_field, fields, trailer_of, closing, in_item, behind, beyond, on_index, on_last_index, elements, too_many, on_count, level}
use Rattle.framing.proofs.StepLaws.{count_few, index_below}
use Rattle.framing.proofs.GrammarBits.{read_num}
use Rattle.bits.proofs.ChoiceLaws.{and_true}

-- ---- numbers lie in the window and take a byte at least, five at most

pub data Inside (n start : ℕ) : Reading → Type 0 where
  inside : {v b : ℕ} → start + 8 * b ≤ n → 0 < b → b ≤ most_bytes → Inside n start (got v b)
  nothing : Inside n start failed

inside_of : (n p : ℕ) {r : Packed} → ((v b : ℕ) → r ≡ whole v b → b ≤ most_bytes) → Lies n p r → Inside n p (reading_of r)
inside_of n p few (PW.whole {x = x} h k) = inside h k (few x.value x.bytes refl)
inside_of n p few PW.cut = nothing
inside_of n p few PW.goes_on = nothing
inside_of n p few PW.overflows = nothing

pub reading_inside : (w : Window) (p : ℕ) → Inside w.size p (reading w p)
unfolding reading
reading_inside w p = inside_of w.size p (whole_bytes w.bits w.size p) (packed_lies w.bits w.size p)

-- the number x was read from bit p up to bit q of the window, and that is what stands there
pub record Read (w : Window) (x : Number) (p q : ℕ) : Type 0 where
  pub starts : x.start ≡ w.origin + p
  pub runs : q ≡ p + 8 * x.bytes
  pub some : 0 < x.bytes
  pub few : x.bytes ≤ most_bytes
  pub fits : q ≤ w.size
  pub reads : reading w p ≡ got x.value x.bytes

pub data LeadIn (w : Window) (p : ℕ) : Lead → Type 0 where
  in_end : w.size ≤ p → LeadIn w p ends
  in_fail : p < w.size → LeadIn w p fails
  in_zero : {x : Number} {q : ℕ} → Read w x p q → LeadIn w p (closes x q)
  in_more : {x : Number} {i q : ℕ} → Read w x p q → x.value ≡ suc i → LeadIn w p (opens x i q)

lead_of_in : (w : Window) (p : ℕ) → p < w.size → {r : Reading} → reading w p ≡ r → Inside w.size p r → LeadIn w p (lead_of w p r)
lead_of_in w p lt is nothing = in_fail lt
lead_of_in w p lt is (inside {v = v} {b = b} h pos few) = go (eqb v 0) refl
  where
    took : Read w (number_at w p b v) p (p + 8 * b)
    took = record { starts = refl; runs = refl; some = pos; few = few; fits = h; reads = is }

    go : (x : Bool) → eqb v 0 ≡ x → LeadIn w p (lead_of w p (got v b))
    go true e = rw e (in_zero took)
    go false e = let more = eqb-false v 0 e in rw e (in_more {i = v - 1} took (omega arith))

pub lead_in : (w : Window) (p : ℕ) → LeadIn w p (lead w p)
unfolding lead
lead_in w p = go (leb w.size p) refl
  where
    go : (x : Bool) → leb w.size p ≡ x → LeadIn w p (lead w p)
    go true e = rw e (in_end (leb-true w.size p e))
    go false e = rw e (lead_of_in w p (leb-false w.size p e) refl (reading_inside w p))

pub data DueIn (w : Window) (p : ℕ) : Due → Type 0 where
  in_end : w.size ≤ p → DueIn w p cut
  in_fail : p < w.size → DueIn w p (broken [])
  in_fail₁ : {x : Number} {q : ℕ} → Read w x p q → DueIn w p (broken (x ∷ []))
  in_fail₂ : {x y : Number} {q r : ℕ} → Read w x p q → Read w y q r → DueIn w p (broken (x ∷ y ∷ []))
  in_zero : {x : Number} {q : ℕ} → Read w x p q → DueIn w p (closed x q)
  in_field : {x y : Number} {h q r : ℕ} → Read w x p q → x.value ≡ suc h → Read w y q r → r + y.value ≤ w.size
      → DueIn w p (present (x ∷ y ∷ []) h r y.value)

width_in : (w : Window) (p : ℕ) (x : Number) (h q : ℕ) → Read w x p q → x.value ≡ suc h → {r : Reading} → reading w q ≡ r → Inside w.size q r
    → DueIn w p (with_width w x h q r)
width_in w p x h q took says is nothing = in_fail₁ took
width_in w p x h q took says is (inside {v = k} {b = b} l pos few) = go (ltb w.size (q + 8 * b + k)) refl
  where
    next : Read w (number_at w q b k) q (q + 8 * b)
    next = record { starts = refl; runs = refl; some = pos; few = few; fits = l; reads = is }

    go : (z : Bool) → ltb w.size (q + 8 * b + k) ≡ z → DueIn w p (with_width w x h q (got k b))
    go true t = rw t (in_fail₂ took next)
    go false t = rw t (in_field took says next (ltb-false w.size (q + 8 * b + k) t))

due_of_in : (w : Window) (p : ℕ) {l : Lead} → LeadIn w p l → DueIn w p (field_of w l)
due_of_in w p (in_end h) = in_end h
due_of_in w p (in_fail h) = in_fail h
due_of_in w p (in_zero t) = in_zero t
due_of_in w p (in_more {x = x} {i = i} {q = q} t e) = width_in w p x i q t e refl (reading_inside w q)

pub due_in : (w : Window) (p : ℕ) → DueIn w p (field_at w p)
unfolding field_at
due_in w p = due_of_in w p (lead_in w p)

-- a field's handle is below the one of a kept tail
abbrev pub LowHandle : Due → Type 0
LowHandle cut = Unit
LowHandle (broken ns) = Unit
LowHandle (closed x q) = Unit
LowHandle (present ns h q k) = h < raw_handle

width_low : (w : Window) (x : Number) (h q : ℕ) → h < raw_handle → (r : Reading) → LowHandle (with_width w x h q r)
width_low w x h q low failed = tt
width_low w x h q low (got k b) = go (ltb w.size (q + 8 * b + k)) refl
  where
    go : (z : Bool) → ltb w.size (q + 8 * b + k) ≡ z → LowHandle (with_width w x h q (got k b))
    go true t = rw t tt
    go false t = rw t low

due_of_low : (w : Window) (p : ℕ) (r : Reading) → reading w p ≡ r → LowHandle (field_of w (lead_of w p r))
due_of_low w p failed e = tt
due_of_low w p (got v b) e = go (eqb v 0) refl
  where
    go : (z : Bool) → eqb v 0 ≡ z → LowHandle (field_of w (lead_of w p (got v b)))
    go true t = rw t tt
    go false t =
        let word = (read_num w p v b e).0.word in
        let more = eqb-false v 0 t in
        rw t (width_low w (number_at w p b v) (v - 1) (p + 8 * b) (omega arith) (reading w (p + 8 * b)))

pub due_low : (w : Window) (p : ℕ) → LowHandle (field_at w p)
unfolding field_at lead
due_low w p = go (leb w.size p) refl
  where
    go : (z : Bool) → leb w.size p ≡ z → LowHandle (field_at w p)
    go true t = rw t tt
    go false t = rw t (due_of_low w p (reading w p) refl)

-- ---- the scheme

-- where a tail may be kept: at the level, or in one of its elements
pub data Here (s : Sink) (path : List ℕ) : List ℕ → Type 0 where
  at_level : Here s path path
  at_item : {i : ℕ} → i < max_elements → Here s path (in_item s path i)

-- Good p q t: the trace t takes the walk from bit p to bit q. Stop place p t: from bit p, the trace t ends the level, and a tail is kept at that
-- place unless t leaves it before.
pub record Scheme (s : Sink) (w : Window) (path : List ℕ) (Good : ℕ → ℕ → Trace → Type 0) (Stop : List ℕ → ℕ → Trace → Type 0) : Type 0 where
  pub join : {p q r : ℕ} {t u : Trace} → Good p q t → Good q r u → Good p r (t ++ u)
  pub halt : {place : List ℕ} {p q : ℕ} {t u : Trace} → Good p q t → Stop place q u → Stop place p (t ++ u)
  pub read : {x : Number} {p q : ℕ} → Read w x p q → Good p q (number x ∷ [])
  pub enter : {x : Number} {i p q : ℕ} {t : Trace} → Read w x p q → i < max_elements → Stop (in_item s path i) q t
      → Stop path p (number x ∷ element (in_item s path i) ∷ t)
  pub leave : {p : ℕ} {place : List ℕ} {t : Trace} → Stop path p t → Stop place p t
  pub given : {x y : Number} {i h p q r : ℕ} {first : Bool} → i < max_elements → h < raw_handle → x.value ≡ suc h → Read w x p q → Read w y q r
      → r + y.value ≤ w.size → Good p (r + y.value) (number x ∷ number y ∷ s.field i (in_item s path i) first h (part w r y.value))
  pub ended : {p : ℕ} {place : List ℕ} → w.size ≤ p → p ≤ w.size → Stop place p (implicit ∷ [])
  pub failed : {p : ℕ} {place : List ℕ} → p ≤ w.size → Stop place p (error ∷ [])
  pub limited : {p : ℕ} {place : List ℕ} → 0 < p → p ≤ w.size → Here s path place → Stop place p (truncation ∷ tail s w place p)
  pub left : {p : ℕ} → p ≤ w.size → Stop path p (s.leftover (w.size - p) ∷ [])

module _ (s : Sink) (w : Window) (path : List ℕ) (Good : ℕ → ℕ → Trace → Type 0) (Stop : List ℕ → ℕ → Trace → Type 0)
    (𝓢 : Scheme s w path Good Stop) where
  data Holds (place : List ℕ) (p : ℕ) : Run → Type 0 where
    closes_at : {t : Trace} {q : ℕ} → 0 < q → q ≤ w.size → Good p q t → Holds place p (done t q)
    stops : {t : Trace} → Stop place p t → Holds place p (stopped t)

  before : {place : List ℕ} {p q : ℕ} {t : Trace} {r : Run} → Good p q t → Holds place q r → Holds place p (prepend t r)
  before g (closes_at pos h k) = closes_at pos h (𝓢.join g k)
  before g (stops k) = stops (𝓢.halt g k)

  -- behind a number that was read there is a bit before
  past : {x : Number} {p q : ℕ} → Read w x p q → 0 < q
  past t = let e = t.runs in let h = t.some in omega arith

  module _ (i : ℕ) (small : i < max_elements) where
    last_field : (p : ℕ) → 0 < p → p ≤ w.size → {l : Lead} → LeadIn w p l → Holds (in_item s path i) p (on_last_field s w (in_item s path i) p l)
    last_field p pos h (in_end e) = stops (𝓢.ended e h)
    last_field p pos h (in_fail e) = stops (𝓢.failed h)
    last_field p pos h (in_zero t) = closes_at (past t) t.fits (𝓢.read t)
    last_field p pos h (in_more t e) = stops (𝓢.limited pos h (at_item small))

    one_field : (p : ℕ) → p ≤ w.size → (first : Bool) (more : ℕ → Bool → Run)
        → ((q : ℕ) (b : Bool) → 0 < q → q ≤ w.size → Holds (in_item s path i) q (more q b))
        → {d : Due} → DueIn w p d → LowHandle d → Holds (in_item s path i) p (on_field s w i (in_item s path i) first more d)
    one_field p h first more f (in_end e) low = stops (𝓢.ended e h)
    one_field p h first more f (in_fail e) low = stops (𝓢.failed h)
    one_field p h first more f (in_fail₁ t) low = stops (𝓢.halt (𝓢.read t) (𝓢.failed t.fits))
    one_field p h first more f (in_fail₂ t u) low = stops (𝓢.halt (𝓢.read t) (𝓢.halt (𝓢.read u) (𝓢.failed u.fits)))
    one_field p h first more f (in_zero t) low = closes_at (past t) t.fits (𝓢.read t)
    one_field p h first more f (in_field {y = y} {r = r} t e u fit) low =
        let pos = past u in
        before (𝓢.given small low e t u fit) (f (r + y.value) (first && eqb y.value 0) (omega arith) fit)

    fields_hold : (left p : ℕ) → 0 < p → p ≤ w.size → (first : Bool) → Holds (in_item s path i) p (fields s w i (in_item s path i) left p first)
    unfolding fields
    fields_hold zero p pos h first = last_field p pos h (lead_in w p)
    fields_hold (suc left) p pos h first =
        one_field p h first (λ q f. fields s w i (in_item s path i) left q f) (λ q f pos k. fields_hold left q pos k f) (due_in w p) (due_low w p)

  trailer_holds : (p : ℕ) → p + trailer_bits ≡ w.size → {r : Reading} → reading w p ≡ r → Inside w.size p r → Stop path p (trailer_of s w p r)
  trailer_holds p fit is nothing = 𝓢.failed (omega arith)
  trailer_holds p fit is (inside {v = v} {b = b} h pos few) = go (eqb v 0) refl
    where
      took : Read w (number_at w p b v) p w.size
      took = record { starts = refl; runs = omega arith; some = pos; few = few; fits = omega arith; reads = is }

      rest : (q n : ℕ) → q ≤ w.size → w.size - q ≡ n → Stop path q (s.leftover n ∷ [])
      rest q n h e = rw e at (𝓢.left h)

      go : (x : Bool) → eqb v 0 ≡ x → Stop path p (trailer_of s w p (got v b))
      go true e = rw e (𝓢.halt (𝓢.read took) (rest w.size 0 (omega arith) (omega arith)))
      go false e = rw e (rest p trailer_bits (omega arith) (omega arith))

  closing_holds : (p : ℕ) → p ≤ w.size → Stop path p (closing s w p)
  unfolding closing
  closing_holds p h = go (s.trailer && eqb (w.size - p) trailer_bits) refl
    where
      go : (x : Bool) → s.trailer && eqb (w.size - p) trailer_bits ≡ x → Stop path p (closing s w p)
      go true e =
          let d = eqb-true (w.size - p) trailer_bits (and_true s.trailer (eqb (w.size - p) trailer_bits) e).1 in
          rw e (trailer_holds p (omega arith) refl (reading_inside w p))
      go false e = rw e (𝓢.left h)

  go_on : {place : List ℕ} {p : ℕ} (more : ℕ → Trace) → ((q : ℕ) → 0 < q → q ≤ w.size → Stop path q (more q)) → {r : Run} → Holds place p r
      → Stop place p (behind more r)
  go_on more f (closes_at {q = q} pos h g) = 𝓢.halt g (𝓢.leave (f q pos h))
  go_on more f (stops k) = k

  last_index : (p : ℕ) → 0 < p → p ≤ w.size → {l : Lead} → LeadIn w p l → Stop path p (on_last_index s w path p l)
  last_index p pos h (in_end e) = 𝓢.ended e h
  last_index p pos h (in_fail e) = 𝓢.failed h
  last_index p pos h (in_zero {q = q} t) = 𝓢.halt (𝓢.read t) (closing_holds q t.fits)
  last_index p pos h (in_more t e) = 𝓢.limited pos h at_level

  module _ (count : ℕ) (small : count ≤ max_elements) where
    one_element : (p : ℕ) → p ≤ w.size → (more : ℕ → Trace) → ((q : ℕ) → 0 < q → q ≤ w.size → Stop path q (more q)) → {l : Lead} → LeadIn w p l
        → Stop path p (on_index s w path count more l)
    one_element p h more f (in_end e) = 𝓢.ended e h
    one_element p h more f (in_fail e) = 𝓢.failed h
    one_element p h more f (in_zero {q = q} t) = 𝓢.halt (𝓢.read t) (closing_holds q t.fits)
    one_element p h more f (in_more {x = x} {i = i} {q = q} t says) = go (beyond count i) refl
      where
        go : (b : Bool) → beyond count i ≡ b → Stop path p (on_index s w path count more (opens x i q))
        go true e = rw e (𝓢.halt (𝓢.read t) (𝓢.failed t.fits))
        go false e =
            let lt = index_below count i e in
            let low : i < max_elements = omega arith in
            rw e (𝓢.enter t low (go_on more f (fields_hold i low max_fields q (past t) t.fits true)))

    elements_hold : (left p : ℕ) → 0 < p → p ≤ w.size → Stop path p (elements s w path count left p)
    unfolding elements
    elements_hold zero p pos h = last_index p pos h (lead_in w p)
    elements_hold (suc left) p pos h =
        one_element p h (λ q. elements s w path count left q) (λ q pos k. elements_hold left q pos k) (lead_in w p)

  count_holds : {r : Reading} → reading w 0 ≡ r → Inside w.size 0 r → Stop path 0 (on_count s w path r)
  count_holds is nothing = 𝓢.failed (omega arith)
  count_holds is (inside {v = v} {b = b} h pos few) = go (too_many v) refl
    where
      took : Read w (number_at w 0 b v) 0 (8 * b)
      took = record { starts = refl; runs = omega arith; some = pos; few = few; fits = omega arith; reads = is }

      go : (x : Bool) → too_many v ≡ x → Stop path 0 (on_count s w path (got v b))
      go true e = rw e (𝓢.halt (𝓢.read took) (𝓢.limited (past took) took.fits at_level))
      go false e = rw e (𝓢.halt (𝓢.read took) (elements_hold v (count_few v e) max_elements (8 * b) (past took) took.fits))

  pub level_holds : Stop path 0 (level s w path)
  unfolding level
  level_holds = count_holds refl (reading_inside w 0)
