-- A level that is walked clean is the bits of an array of the grammar. Stated once for every sink: `find` turns a payload whose field the sink took
-- without fault into what the grammar has there. Any other way out of a level leaves a fault.
use Prim.Native.Nat.{ℕ, zero, suc, ◌+◌, ◌-◌, ◌*◌, ◌^◌, ◌≤◌, ◌<◌}
use mathlib.Core.Path.{◌≡◌, refl, sym, ap, ◌∙◌, subst}
use mathlib.Core.Bool.{Bool, true, false, ◌&&◌}
use mathlib.Core.List.{List, [], ◌∷◌, ◌++◌}
use native.Mathlib.Nat.{zero-add}
use native.Mathlib.Omega.{arith}
use lib.Dec.{eqb}
use lib.ListN.{length}
use borrow.Author.Tests.{eqb-true}
use Rattle.bits.specs.Bits.{field}
use Rattle.bits.proofs.FieldLaws.{field_lt}
use Rattle.bits.specs.Packed.{Number}
use Rattle.bits.proofs.Never.{never}
use Rattle.bits.specs.Sizes.{max_elements, max_fields, trailer_bits}
use Rattle.framing.specs.Windows.{Window, part, Reading, got, failed, reading}
use Rattle.framing.specs.Events.{Entered, numbers, Event, number, element, array, truncation, error, implicit, Trace}
use Rattle.framing.specs.Counters.{counters, faults}
use Rattle.framing.specs.Walk.{Sink, number_at, Lead, ends, fails, closes, opens, lead, Due, cut, broken, closed, present, field_at, tail, Run, done, stopped, prepend, on_field, on_last_field, fields, trailer_of, closing, in_item, behind, beyond, on_index, on_last_index, elements, too_many, on_count, level}
use Rattle.framing.specs.Grammar.{Bits, no_bits_lem, num_bits, Field, Element, Array, field_bits, fields_bits, element_bits, elements_bits, trailing, array_bits}
use Rattle.framing.specs.GrammarRules.{Each, FieldsOk, ElementOk, ArrayOk}
use Rattle.framing.proofs.TraceLaws.{counters_append}
use Rattle.bits.proofs.ChoiceLaws.{and_true}
use Rattle.framing.proofs.StepLaws.{count_few, index_below}
use Rattle.framing.proofs.Demand3.{zero_byte}
use Rattle.framing.proofs.GrammarBits.{Span, span_none, span_join, read_num}
use Rattle.framing.proofs.GrammarLeads.{Stands, Opens, Present, closes_stands, opens_stands, present_stands, closed_stands}

-- a trace without fault
abbrev pub Fine : Trace → Type 0
Fine t = faults (counters t) ≡ 0

pub fine_append : (t u : Trace) → Fine (t ++ u) → Fine t × Fine u
fine_append t u h =
    let e : faults (counters (t ++ u)) ≡ faults (counters t) + faults (counters u) = rw (counters_append t u) (omega arith) in
    (omega arith, omega arith)

pub fine_join : (t u : Trace) → Fine t → Fine u → Fine (t ++ u)
fine_join t u a b =
    let e : faults (counters (t ++ u)) ≡ faults (counters t) + faults (counters u) = rw (counters_append t u) (omega arith) in
    omega arith

pub fine_rest : (e : Event) (t : Trace) → Fine (e ∷ t) → Fine t
fine_rest e t h = omega arith

pub fine_number : (x : Number) (t : Trace) → Fine t → Fine (number x ∷ t)
fine_number x t h = omega arith

pub fine_element : (p : List ℕ) (t : Trace) → Fine t → Fine (element p ∷ t)
fine_element p t h = omega arith

pub fine_array : (a : Entered) (t : Trace) → Fine t → Fine (array a ∷ t)
fine_array a t h = omega arith

-- the bits of a window
abbrev pub bits_in_lem : Window → Bits
bits_in_lem v = record { number = v.bits; size = v.size }

-- what the grammar has where a payload stands
pub record Content (P : Type 0) (bits_of : P → Bits) (allowed : Bool → ℕ → P → Type 0) (first : Bool) (h : ℕ) (v : Window) : Type 0 where
  pub it : P
  pub same : bits_of it ≡ bits_in_lem v
  pub ok : allowed first h it

module _ (s : Sink) (P : Type 0) (bits_of : P → Bits) (allowed : Bool → ℕ → P → Type 0)
    (find : (i : ℕ) (path : List ℕ) (first : Bool) (h : ℕ) (v : Window) → v.bits < 2 ^ v.size → Fine (s.field i path first h v)
    → Content P bits_of allowed first h v)
    (w : Window) where
  -- ---- an element's fields

  record FieldsFound (left p q : ℕ) (first : Bool) : Type 0 where
    pub list : List (Field P)
    pub few : length list ≤ left
    pub ok : FieldsOk bits_of allowed first list
    pub close : Stands w (p + (fields_bits bits_of list).size) q 0
    pub span : Span w p (p + (fields_bits bits_of list).size) (fields_bits bits_of list)

  none_found : (left p q : ℕ) (first : Bool) → p ≤ w.size → Stands w p q 0 → FieldsFound left p q first
  none_found left p q first h c =
      let e : p ≡ p + 0 = omega arith in
      record {
        list = [];
        few = omega arith;
        ok = tt;
        close = subst (λ (n : ℕ). Stands w n q 0) e c;
        span = subst (λ (n : ℕ). Span w p n no_bits_lem) e (span_none w p h);
      }

  stands_in : (p q v : ℕ) → Stands w p q v → p ≤ w.size
  stands_in p q v c = let a = c.span.ends in let b = c.span.within in omega arith

  one_more : (left p q r k h : ℕ) (first : Bool) (c : Present w p h r k) → Content P bits_of allowed first h (part w r k)
      → FieldsFound left (r + k) q (first && eqb k 0) → FieldsFound (suc left) p q first
  one_more left p q r k h first c x rest =
      let hd = c.handle.there in
      let wd = c.width in
      let ev : wd.num.value ≡ k = wd.value in
      let eh : hd.num.value ≡ c.handle.v = hd.value in
      let el : h ≡ c.handle.v - 1 = c.handle.less in
      let eb : bits_of x.it ≡ bits_in_lem (part w r k) = x.same in
      let f : Field P = record { handle = hd.num; width = wd.num; payload = x.it } in
      let e₁ : c.middle ≡ p + (num_bits hd.num).size = hd.span.ends in
      let e₂ : r ≡ c.middle + (num_bits wd.num).size = wd.span.ends in
      let ps : Span w r (r + k) (bits_of x.it) =
      subst (λ (b : Bits). Span w r (r + k) b) (sym eb) (record { ends = refl; within = c.within; same = refl }) in
      let fs : Span w p (r + k) (field_bits bits_of f) =
      span_join w p c.middle (r + k) _ _ hd.span (span_join w c.middle r (r + k) _ _ wd.span ps) in
      let total : r + k ≡ p + (field_bits bits_of f).size = fs.ends in
      let next : r + k + (fields_bits bits_of rest.list).size ≡ p + (fields_bits bits_of (f ∷ rest.list)).size = omega arith in
      let firsts : first && eqb k 0 ≡ first && eqb wd.num.value 0 = ap (λ (n : ℕ). first && eqb n 0) (sym ev) in
      record {
        list = f ∷ rest.list;
        few = (let z = rest.few in omega arith);
        ok = (
          record {
            handle = hd.good;
            opens = (let z = c.handle.more in omega arith);
            width = wd.good;
            wide = ev ∙ ap (λ (b : Bits). b.size) (sym eb);
            content = subst (λ (n : ℕ). allowed first n x.it) (el ∙ ap (λ (n : ℕ). n - 1) (sym eh)) x.ok;
          },
          subst (λ (b : Bool). FieldsOk bits_of allowed b rest.list) firsts rest.ok,
        );
        close = subst (λ (n : ℕ). Stands w n q 0) next rest.close;
        span =
            subst (λ (n : ℕ). Span w p n (fields_bits bits_of (f ∷ rest.list))) next
            (span_join w p (r + k) _ _ _ fs rest.span);
      }

  last_found : (i : ℕ) (path : List ℕ) (p : ℕ) (first : Bool) (l : Lead) → lead w p ≡ l → (t : Trace) (q : ℕ) → on_last_field s w path p l ≡ done t q → FieldsFound 0 p q first
  last_found i path p first ends e t q f = never (cc)
  last_found i path p first fails e t q f = never (cc)
  last_found i path p first (closes x m) e t q f =
      let eq : m ≡ q = cc in
      let c = subst (λ (n : ℕ). Stands w p n 0) eq (closes_stands w p x m e) in
      none_found 0 p q first (stands_in p q 0 c) c
  last_found i path p first (opens x n m) e t q f = never (cc)

  prepended : (t : Trace) (r : Run) (u : Trace) (q : ℕ) (A : Type 0) → prepend t r ≡ done u q → ((v : Trace) → r ≡ done v q → u ≡ t ++ v → A) → A
  prepended t (done v m) u q A e f = let eq : m ≡ q = cc in f v (ap (λ (n : ℕ). done v n) eq) (cc)
  prepended t (stopped v) u q A e f = never (cc)

  field_found : (i : ℕ) (path : List ℕ) (left p : ℕ) (first : Bool) (d : Due) → field_at w p ≡ d → (t : Trace) (q : ℕ)
      → ((m : ℕ) (b : Bool) (u : Trace) → fields s w i path left m b ≡ done u q → Fine u → FieldsFound left m q b)
      → on_field s w i path first (λ m b. fields s w i path left m b) d ≡ done t q → Fine t → FieldsFound (suc left) p q first
  field_found i path left p first cut e t q rest f g = never (cc)
  field_found i path left p first (broken ns) e t q rest f g = never (cc)
  field_found i path left p first (closed x m) e t q rest f g =
      let eq : m ≡ q = cc in
      let c = subst (λ (n : ℕ). Stands w p n 0) eq (closed_stands w p x m e) in
      none_found (suc left) p q first (stands_in p q 0 c) c
  field_found i path left p first (present ns h r k) e t q rest f g =
      let c = present_stands w p ns h r k e in
      prepended (numbers ns ++ s.field i path first h (part w r k)) (fields s w i path left (r + k) (first && eqb k 0)) t q (FieldsFound (suc left) p q first) f
      (λ v er et.
      let parts = fine_append (numbers ns ++ s.field i path first h (part w r k)) v (subst Fine et g) in
      let mine = fine_append (numbers ns) (s.field i path first h (part w r k)) parts.0 in
      one_more left p q r k h first c (find i path first h (part w r k) (field_lt w.bits r k) mine.1)
      (rest (r + k) (first && eqb k 0) v er parts.1))

  fields_found : (i : ℕ) (path : List ℕ) (left p : ℕ) (first : Bool) (t : Trace) (q : ℕ) → fields s w i path left p first ≡ done t q → Fine t → FieldsFound left p q first
  unfolding fields
  fields_found i path zero p first t q f g = last_found i path p first (lead w p) refl t q f
  fields_found i path (suc left) p first t q f g =
      field_found i path left p first (field_at w p) refl t q (λ m b u e h. fields_found i path left m b u q e h) f g

  -- ---- an element that doesn't close has a fault

  last_stopped : (path : List ℕ) (p : ℕ) (l : Lead) (t : Trace) → on_last_field s w path p l ≡ stopped t → Fine t → ⊥
  last_stopped path p ends t e g = let et : implicit ∷ [] ≡ t = cc in let z : Fine (implicit ∷ []) = subst Fine (sym et) g in omega arith
  last_stopped path p fails t e g = let et : error ∷ [] ≡ t = cc in let z : Fine (error ∷ []) = subst Fine (sym et) g in omega arith
  last_stopped path p (closes x m) t e g = never (cc)
  last_stopped path p (opens x n m) t e g =
      let et : truncation ∷ tail s w path p ≡ t = cc in let z : Fine (truncation ∷ tail s w path p) = subst Fine (sym et) g in omega arith

  stopped_of : (t : Trace) (r : Run) (u : Trace) (A : Type 0) → prepend t r ≡ stopped u → ((v : Trace) → r ≡ stopped v → u ≡ t ++ v → A) → A
  stopped_of t (done v m) u A e f = never (cc)
  stopped_of t (stopped v) u A e f = f v refl (cc)

  field_stopped : (i : ℕ) (path : List ℕ) (left : ℕ) (first : Bool) (d : Due) (t : Trace)
      → ((m : ℕ) (b : Bool) (u : Trace) → fields s w i path left m b ≡ stopped u → Fine u → ⊥)
      → on_field s w i path first (λ m b. fields s w i path left m b) d ≡ stopped t → Fine t → ⊥
  field_stopped i path left first cut t rest e g = let et : implicit ∷ [] ≡ t = cc in let z : Fine (implicit ∷ []) = subst Fine (sym et) g in omega arith
  field_stopped i path left first (broken ns) t rest e g =
      let et : numbers ns ++ (error ∷ []) ≡ t = cc in
      let z : Fine (error ∷ []) = (fine_append (numbers ns) (error ∷ []) (subst Fine (sym et) g)).1 in omega arith
  field_stopped i path left first (closed x m) t rest e g = never (cc)
  field_stopped i path left first (present ns h r k) t rest e g =
      stopped_of (numbers ns ++ s.field i path first h (part w r k)) (fields s w i path left (r + k) (first && eqb k 0)) t ⊥ e
      (λ v er et. rest (r + k) (first && eqb k 0) v er (fine_append (numbers ns ++ s.field i path first h (part w r k)) v (subst Fine et g)).1)

  fields_stopped : (i : ℕ) (path : List ℕ) (left p : ℕ) (first : Bool) (t : Trace) → fields s w i path left p first ≡ stopped t → Fine t → ⊥
  unfolding fields
  fields_stopped i path zero p first t e g = last_stopped path p (lead w p) t e g
  fields_stopped i path (suc left) p first t e g =
      field_stopped i path left first (field_at w p) t (λ m b u f h. fields_stopped i path left m b u f h) e g

  -- ---- elements, the terminator and the trailer

  module _ (tells : (n : ℕ) → Fine (s.leftover n ∷ []) → n ≡ 0) where
    record Closing (p : ℕ) : Type 0 where
      pub trailer : Bool
      pub taken : trailer ≡ true → s.trailer ≡ true
      pub span : Span w p w.size (trailing bits_of trailer)

    nothing_left : (p : ℕ) → p ≤ w.size → w.size - p ≡ 0 → Closing p
    nothing_left p h e =
        let q : p ≡ w.size = omega arith in
        record { trailer = false; taken = λ z. never (cc); span = subst (λ (n : ℕ). Span w p n no_bits_lem) q (span_none w p h) }

    trailer_found : (p : ℕ) → p + trailer_bits ≡ w.size → s.trailer ≡ true → (r : Reading) → reading w p ≡ r → Fine (trailer_of s w p r) → Closing p
    trailer_found p e takes failed f g = never (let z : Fine (error ∷ []) = g in absurd (omega arith))
    trailer_found p e takes (got v b) f g = go (eqb v 0) refl
      where
        go : (t : Bool) → eqb v 0 ≡ t → Closing p
        go true k =
            let z : field w.bits p trailer_bits ≡ 0 = zero_byte w p v b e f (eqb-true v 0 k) in
            record { trailer = true; taken = λ x. takes; span = record { ends = sym e; within = omega arith; same = z } }
        go false k =
            let g' : Fine (s.leftover trailer_bits ∷ []) = rw k at g in
            let z = tells trailer_bits g' in
            absurd (omega arith)

    closing_found : (p : ℕ) → p ≤ w.size → Fine (closing s w p) → Closing p
    unfolding closing
    closing_found p h g = go (s.trailer && eqb (w.size - p) trailer_bits) refl
      where
        go : (x : Bool) → s.trailer && eqb (w.size - p) trailer_bits ≡ x → Closing p
        go true e =
            let ts = and_true s.trailer (eqb (w.size - p) trailer_bits) e in
            let d : w.size - p ≡ trailer_bits = eqb-true (w.size - p) trailer_bits ts.1 in
            trailer_found p (omega arith) ts.0 (reading w p) refl (rw e at g)
        go false e = nothing_left p h (tells (w.size - p) (rw e at g))

    record ElementsFound (count left p : ℕ) : Type 0 where
      pub list : List (Element P)
      pub few : length list ≤ left
      pub ok : Each (ElementOk bits_of allowed count) list
      pub behind : ℕ
      pub close : Stands w (p + (elements_bits bits_of list).size) behind 0
      pub ending : Closing behind
      pub span : Span w p (p + (elements_bits bits_of list).size) (elements_bits bits_of list)

    no_elements : (count left p q : ℕ) → Stands w p q 0 → Closing q → ElementsFound count left p
    no_elements count left p q c d =
        let e : p ≡ p + 0 = omega arith in
        record {
          list = [];
          few = omega arith;
          ok = tt;
          behind = q;
          close = subst (λ (n : ℕ). Stands w n q 0) e c;
          ending = d;
          span = subst (λ (n : ℕ). Span w p n no_bits_lem) e (span_none w p (stands_in p q 0 c));
        }

    closed_level : (count left p q : ℕ) → Stands w p q 0 → Fine (closing s w q) → ElementsFound count left p
    closed_level count left p q c g = no_elements count left p q c (closing_found q c.span.within g)

    one_element : (count left p q r i : ℕ) → Opens w p q i → i < count → FieldsFound max_fields q r true → ElementsFound count left r
        → ElementsFound count (suc left) p
    one_element count left p q r i o low fs rest =
        let ix = o.there in
        let ev : ix.num.value ≡ o.v = ix.value in
        let el : i ≡ o.v - 1 = o.less in
        let cl = fs.close in
        let x : Element P = record { index = ix.num; fields = fs.list; close = cl.num } in
        let sp : Span w p r (element_bits bits_of x) = span_join w p q r _ _ ix.span (span_join w q _ r _ _ fs.span cl.span) in
        let total : r ≡ p + (element_bits bits_of x).size = sp.ends in
        let next : r + (elements_bits bits_of rest.list).size ≡ p + (elements_bits bits_of (x ∷ rest.list)).size = omega arith in
        record {
          list = x ∷ rest.list;
          few = (let z = rest.few in omega arith);
          ok = (
            record {
              index = ix.good;
              opens = (let z = o.more in omega arith);
              below = omega arith;
              few = fs.few;
              fields = fs.ok;
              close = cl.good;
              closes = cl.value;
            },
            rest.ok,
          );
          behind = rest.behind;
          close = subst (λ (n : ℕ). Stands w n rest.behind 0) next rest.close;
          ending = rest.ending;
          span =
              subst (λ (n : ℕ). Span w p n (elements_bits bits_of (x ∷ rest.list))) next
              (span_join w p r _ _ _ sp rest.span);
        }

    last_element : (path : List ℕ) (count p : ℕ) (l : Lead) → lead w p ≡ l → Fine (on_last_index s w path p l) → ElementsFound count 0 p
    last_element path count p ends e g = absurd (omega arith)
    last_element path count p fails e g = absurd (omega arith)
    last_element path count p (closes x q) e g = closed_level count 0 p q (closes_stands w p x q e) (fine_rest (number x) (closing s w q) g)
    last_element path count p (opens x i q) e g = absurd (let z : Fine (truncation ∷ tail s w path p) = g in omega arith)

    element_found : (path : List ℕ) (count left p : ℕ) (l : Lead) → lead w p ≡ l
        → ((q : ℕ) → Fine (elements s w path count left q) → ElementsFound count left q)
        → Fine (on_index s w path count (λ q. elements s w path count left q) l) → ElementsFound count (suc left) p
    element_found path count left p ends e rest g = absurd (omega arith)
    element_found path count left p fails e rest g = absurd (omega arith)
    element_found path count left p (closes x q) e rest g = closed_level count (suc left) p q (closes_stands w p x q e) (fine_rest (number x) (closing s w q) g)
    element_found path count left p (opens x i q) e rest g = go (beyond count i) refl
      where
        run : Run → Trace
        run r = behind (λ q. elements s w path count left q) r

        ran : i < count → (r : Run) → fields s w i (in_item s path i) max_fields q true ≡ r → Fine (run r) → ElementsFound count (suc left) p
        ran low (done t m) f h =
            let parts = fine_append t (elements s w path count left m) h in
            one_element count left p q m i (opens_stands w p x i q e) low (fields_found i (in_item s path i) max_fields q true t m f parts.0) (rest m parts.1)
        ran low (stopped t) f h = absurd (fields_stopped i (in_item s path i) max_fields q true t f h)

        go : (b : Bool) → beyond count i ≡ b → ElementsFound count (suc left) p
        go true k = let g' : Fine (number x ∷ error ∷ []) = rw k at g in absurd (omega arith)
        go false k =
            let u : Trace = run (fields s w i (in_item s path i) max_fields q true) in
            let g' : Fine (number x ∷ element (in_item s path i) ∷ u) = rw k at g in
            let h = fine_rest (element (in_item s path i)) u (fine_rest (number x) (element (in_item s path i) ∷ u) g') in
            ran (index_below count i k) (fields s w i (in_item s path i) max_fields q true) refl h

    elements_found : (path : List ℕ) (count left p : ℕ) → Fine (elements s w path count left p) → ElementsFound count left p
    unfolding elements
    elements_found path count zero p g = last_element path count p (lead w p) refl g
    elements_found path count (suc left) p g =
        element_found path count left p (lead w p) refl (λ q h. elements_found path count left q h) g

    -- ---- the level

    pub record Found : Type 0 where
      pub array : Array P
      pub ok : ArrayOk bits_of allowed s.trailer array
      pub span : Span w 0 w.size (array_bits bits_of array)

    count_found : (path : List ℕ) (r : Reading) → reading w 0 ≡ r → Fine (on_count s w path r) → Found
    count_found path failed e g = absurd (let z : Fine (error ∷ []) = g in omega arith)
    count_found path (got v b) e g = go (too_many v) refl
      where
        go : (x : Bool) → too_many v ≡ x → Found
        go true k = let g' : Fine (number (number_at w 0 b v) ∷ truncation ∷ tail s w path (8 * b)) = rw k at g in absurd (omega arith)
        go false k =
            let g' : Fine (number (number_at w 0 b v) ∷ elements s w path v max_elements (8 * b)) = rw k at g in
            let n = read_num w 0 v b e in
            let es = elements_found path v max_elements (8 * b) (fine_rest (number (number_at w 0 b v)) (elements s w path v max_elements (8 * b)) g') in
            let cl = es.close in
            let small = count_few v k in
            let sp = n.1 in
            record {
              array = record { count = record { value = v; bytes = b }; elements = es.list; close = cl.num; trailer = es.ending.trailer };
              ok =
                  record {
                    count = n.0;
                    small = small;
                    few = es.few;
                    elements = es.ok;
                    close = cl.good;
                    closes = cl.value;
                    ends = es.ending.taken;
                  };
              span =
                  span_join w 0 (8 * b) w.size _ _ (subst (λ (m : ℕ). Span w 0 m (num_bits (record { value = v; bytes = b }))) (zero-add (8 * b)) sp)
                  (span_join w (8 * b) _ w.size _ _ es.span (span_join w _ es.behind w.size _ _ cl.span es.ending.span));
            }

    -- A level that is walked without fault is the bits of an array.
    pub level_found : (path : List ℕ) → Fine (level s w path) → Found
    unfolding level
    level_found path g = count_found path (reading w 0) refl g
