-- Struct and exact walks: a level is walked without fault exactly if its window is the bits of a struct array. By induction over the levels that
-- may stand below: a field without fault is a leaf, an empty array, or a level without fault.
use Rattle.std.specs.Prelude.{Option, Some, None}
use Prim.Native.Nat.{ℕ, zero, suc, ◌+◌, ◌-◌, ◌*◌, ◌%◌, ◌^◌, ◌≤◌, ◌<◌}
use mathlib.Core.Path.{◌≡◌, refl, sym, ap, ◌∙◌, subst}
use mathlib.Core.Bool.{Bool, true, false, ◌&&◌}
use mathlib.Core.List.{List, [], ◌∷◌, ◌++◌}
use native.Mathlib.Nat.{div-one, mod-eq_of_lt}
use native.Mathlib.Omega.{arith}
use lib.Dec.{eqb}
use borrow.Author.Tests.{eqb-true, eqb-false, eq-eqb, ne_eqb}
use Rattle.bits.specs.Bits.{field}
use Rattle.schema.specs.Tables.{Tables, child}
use Rattle.framing.specs.Windows.{Window}
use Rattle.framing.specs.Events as Ev
use Rattle.framing.specs.Events.{Event, number, element, truncation, nested, Trace}
use Rattle.framing.specs.Paths.{array_path}
use Rattle.framing.specs.Walk.{Sink, in_item, level}
use Rattle.framing.specs.Sinks.{leaf_of, on_child, too_deep, entered_at, struct_sink}
use Rattle.framing.specs.Grammar.{Bits, Field, Element, Array, field_bits, fields_bits, element_bits, elements_bits, array_bits}
use Rattle.framing.specs.GrammarRules.{Each, FieldsOk, ElementOk, ArrayOk, plain, content_bits, PlainOk, NestedOk, array, allowed_in, IsStructArray}
use Rattle.framing.specs.GrammarRules as G
use Rattle.framing.proofs.GrammarBits.{Span, Below}
use Rattle.framing.proofs.GrammarFound.{Fine, fine_join, fine_number, fine_element, fine_array, fine_rest, bits_in_lem, Content, level_found}
use Rattle.framing.proofs.GrammarWalked.{num_at, window_at, fields_trace, body_trace, elements_trace, end_trace, array_trace, array_below, level_walked}

-- ---- a whole window as bits

pub field_all : (N n : ℕ) → N < 2 ^ n → field N 0 n ≡ N
unfolding field
field_all N n h = ap (λ (x : ℕ). x % 2 ^ n) (div-one N) ∙ mod-eq_of_lt h

-- bits that fill a window are the window's
pub span_whole : (v : Window) (b : Bits) → v.bits < 2 ^ v.size → Span v 0 v.size b → b ≡ bits_in_lem v
span_whole v b h s =
    let e : b.size ≡ v.size = (let z = s.ends in omega arith) in
    let n : b.number ≡ v.bits = sym s.same ∙ ap (λ (k : ℕ). field v.bits 0 k) e ∙ field_all v.bits v.size h in
    λ i. record { number = n i; size = e i }

pub whole_span : (v : Window) (b : Bits) → v.bits < 2 ^ v.size → b ≡ bits_in_lem v → Span v 0 v.size b
whole_span v b h e =
    subst (λ (x : Bits). Span v 0 v.size x) (sym e)
    (record { ends = (omega arith); within = (omega arith); same = field_all v.bits v.size h })

-- ---- clean, so in the grammar

abbrev pub Tells : (ℕ → Event) → Type 0
Tells leftover = (n : ℕ) → Fine (leftover n ∷ []) → n ≡ 0

nested_tells : Tells nested
nested_tells n h = omega arith

pub record InStruct (deeper : ℕ) (rows : List ℕ) (takes : Bool) (lvl : ℕ) (w : Window) : Type 0 where
  pub it : Array (G.Content deeper)
  pub ok : IsStructArray deeper rows takes lvl it
  pub span : Span w 0 w.size (array_bits (content_bits deeper) it)

plain_zero : (rows : List ℕ) (takes : Bool) (lvl : ℕ) (first : Bool) (h : ℕ) (v : Window) → v.bits < 2 ^ v.size → PlainOk (bits_in_lem v) (child rows lvl h)
    → Content (G.Content zero) (content_bits zero) (λ f k x. allowed_in zero rows takes lvl f k x) first h v
plain_zero rows takes lvl first h v b ok = record { it = plain (bits_in_lem v); same = refl; ok = (b, ok) }

plain_more : (deeper : ℕ) (rows : List ℕ) (takes : Bool) (lvl : ℕ) (first : Bool) (h : ℕ) (v : Window) → v.bits < 2 ^ v.size → PlainOk (bits_in_lem v) (child rows lvl h)
    → Content (G.Content (suc deeper)) (content_bits (suc deeper)) (λ f k x. allowed_in (suc deeper) rows takes lvl f k x) first h v
plain_more deeper rows takes lvl first h v b ok = record { it = plain (bits_in_lem v); same = refl; ok = (b, ok) }

nested_more : (deeper : ℕ) (rows : List ℕ) (takes : Bool) (lvl : ℕ) (first : Bool) (h below : ℕ) (v : Window) → v.bits < 2 ^ v.size → (v.size ≡ 0 → ⊥)
    → child rows lvl h ≡ Some below → InStruct deeper rows takes below v
    → Content (G.Content (suc deeper)) (content_bits (suc deeper)) (λ f k x. allowed_in (suc deeper) rows takes lvl f k x) first h v
nested_more deeper rows takes lvl first h below v b some e r =
    let whole = span_whole v (array_bits (content_bits deeper) r.it) b r.span in
    let size : (array_bits (content_bits deeper) r.it).size ≡ v.size = ap (λ (x : Bits). x.size) whole in
    let large : 1 ≤ (array_bits (content_bits deeper) r.it).size = positive v.size _ some size in
    record {
      it = G.nested r.it;
      same = whole;
      ok =
          subst (λ (c : Option ℕ). NestedOk (array_bits (content_bits deeper) r.it).size (λ below. IsStructArray deeper rows takes below r.it) c) (sym e)
          (array large r.ok);
    }
  where
    positive : (n m : ℕ) → (n ≡ 0 → ⊥) → m ≡ n → 1 ≤ m
    positive n m h e = omega arith

-- A level without fault is a struct array.
pub found_struct : (deeper : ℕ) (t : Tables) (takes : Bool) (leftover : ℕ → Event) (lvl : ℕ) → Tells leftover → (w : Window) (path : List ℕ)
    → Fine (level (struct_sink deeper t takes leftover lvl) w path) → InStruct deeper t.rows takes lvl w
unfolding struct_sink
found_struct zero t takes leftover lvl tells w path g =
    let f = level_found (struct_sink zero t takes leftover lvl) (G.Content zero) (content_bits zero) (λ f k x. allowed_in zero t.rows takes lvl f k x) find w tells path g in
    record { it = f.array; ok = f.ok; span = f.span }
  where
    look : (i : ℕ) (path : List ℕ) (first : Bool) (h : ℕ) (v : Window) → v.bits < 2 ^ v.size → (c : Option ℕ) → child t.rows lvl h ≡ c
        → Fine (on_child t lvl too_deep path h v c) → Content (G.Content zero) (content_bits zero) (λ f k x. allowed_in zero t.rows takes lvl f k x) first h v
    look i path first h v b None e g = plain_zero t.rows takes lvl first h v b (subst (λ (c : Option ℕ). PlainOk (bits_in_lem v) c) (sym e) G.leaf)
    look i path first h v b (Some below) e g = go (eqb v.size 0) refl
      where
        go : (x : Bool) → eqb v.size 0 ≡ x → Content (G.Content zero) (content_bits zero) (λ f k x. allowed_in zero t.rows takes lvl f k x) first h v
        go true k = plain_zero t.rows takes lvl first h v b (subst (λ (c : Option ℕ). PlainOk (bits_in_lem v) c) (sym e) (G.empty (eqb-true _ _ k)))
        go false k =
            let g' : Fine (truncation ∷ Ev.leaf (leaf_of (array_path t lvl path h) h v) ∷ []) = rw k at g in
            absurd (omega arith)

    find : (i : ℕ) (path : List ℕ) (first : Bool) (h : ℕ) (v : Window) → v.bits < 2 ^ v.size
        → Fine ((struct_sink zero t takes leftover lvl).field i path first h v) → Content (G.Content zero) (content_bits zero) (λ f k x. allowed_in zero t.rows takes lvl f k x) first h v
    find i path first h v b g = look i path first h v b (child t.rows lvl h) refl g
found_struct (suc deeper) t takes leftover lvl tells w path g =
    let f = level_found (struct_sink (suc deeper) t takes leftover lvl) (G.Content (suc deeper)) (content_bits (suc deeper)) (λ f k x. allowed_in (suc deeper) t.rows takes lvl f k x)
    (find (λ below v place h. found_struct deeper t takes nested below nested_tells v place h)) w tells path g in
    record { it = f.array; ok = f.ok; span = f.span }
  where
    Inside : Type 0
    Inside = (below : ℕ) (v : Window) (place : List ℕ) → Fine (level (struct_sink deeper t takes nested below) v place) → InStruct deeper t.rows takes below v

    look : Inside → (i : ℕ) (path : List ℕ) (first : Bool) (h : ℕ) (v : Window) → v.bits < 2 ^ v.size → (c : Option ℕ) → child t.rows lvl h ≡ c
        → Fine (on_child t lvl (λ below path handle w. Ev.array (entered_at path w) ∷ level (struct_sink deeper t takes nested below) w path) path h v c)
        → Content (G.Content (suc deeper)) (content_bits (suc deeper)) (λ f k x. allowed_in (suc deeper) t.rows takes lvl f k x) first h v
    look inside i path first h v b None e g = plain_more deeper t.rows takes lvl first h v b (subst (λ (c : Option ℕ). PlainOk (bits_in_lem v) c) (sym e) G.leaf)
    look inside i path first h v b (Some below) e g = go (eqb v.size 0) refl
      where
        go : (x : Bool) → eqb v.size 0 ≡ x → Content (G.Content (suc deeper)) (content_bits (suc deeper)) (λ f k x. allowed_in (suc deeper) t.rows takes lvl f k x) first h v
        go true k = plain_more deeper t.rows takes lvl first h v b (subst (λ (c : Option ℕ). PlainOk (bits_in_lem v) c) (sym e) (G.empty (eqb-true _ _ k)))
        go false k =
            let q = array_path t lvl path h in
            let u = level (struct_sink deeper t takes nested below) v q in
            let g' : Fine (Ev.array (entered_at q v) ∷ u) = rw k at g in
            nested_more deeper t.rows takes lvl first h below v b (eqb-false _ _ k) e (inside below v q (fine_rest (Ev.array (entered_at q v)) u g'))

    find : Inside → (i : ℕ) (path : List ℕ) (first : Bool) (h : ℕ) (v : Window) → v.bits < 2 ^ v.size
        → Fine ((struct_sink (suc deeper) t takes leftover lvl).field i path first h v)
        → Content (G.Content (suc deeper)) (content_bits (suc deeper)) (λ f k x. allowed_in (suc deeper) t.rows takes lvl f k x) first h v
    find inside i path first h v b g = look inside i path first h v b (child t.rows lvl h) refl g

-- ---- in the grammar, so clean

module _ (s : Sink) {P : Type 0} (bits_of : P → Bits) (allowed : Bool → ℕ → P → Type 0)
    (always : (i : ℕ) (path : List ℕ) (first : Bool) (h : ℕ) (x : P) → allowed first h x → (o p : ℕ) → Fine (s.field i path first h (window_at o p (bits_of x))))
    (none : Fine (s.leftover 0 ∷ [])) (o : ℕ) where
  fields_fine : (i : ℕ) (path : List ℕ) (first : Bool) (p : ℕ) (fs : List (Field P)) → FieldsOk bits_of allowed first fs → Fine (fields_trace s bits_of o i path first p fs)
  unfolding fields_trace
  fields_fine i path first p [] ok = refl
  fields_fine i path first p (f ∷ fs) ok =
      let m = p + 8 * f.handle.bytes + 8 * f.width.bytes in
      let here = s.field i path first (f.handle.value - 1) (window_at o m (bits_of f.payload)) in
      let rest = fields_trace s bits_of o i path (first && eqb f.width.value 0) (p + (field_bits bits_of f).size) fs in
      fine_number (num_at o p f.handle) (number (num_at o (p + 8 * f.handle.bytes) f.width) ∷ (here ++ rest))
      (fine_number (num_at o (p + 8 * f.handle.bytes) f.width) (here ++ rest)
      (fine_join here rest (always i path first (f.handle.value - 1) f.payload ok.0.content o m)
      (fields_fine i path (first && eqb f.width.value 0) (p + (field_bits bits_of f).size) fs ok.1)))

  elements_fine : (count : ℕ) (path : List ℕ) (p : ℕ) (es : List (Element P)) → Each (ElementOk bits_of allowed count) es → Fine (elements_trace s bits_of o path p es)
  unfolding elements_trace
  elements_fine count path p [] ok = refl
  elements_fine count path p (e ∷ es) ok =
      let i = e.index.value - 1 in
      let body = body_trace s bits_of o i (in_item s path i) (p + 8 * e.index.bytes) e in
      let rest = elements_trace s bits_of o path (p + (element_bits bits_of e).size) es in
      let last : Trace = number (num_at o (p + 8 * e.index.bytes + (fields_bits bits_of e.fields).size) e.close) ∷ [] in
      fine_number (num_at o p e.index) (element (in_item s path i) ∷ (body ++ rest))
      (fine_element (in_item s path i) (body ++ rest)
      (fine_join body rest
      (fine_join (fields_trace s bits_of o i (in_item s path i) true (p + 8 * e.index.bytes) e.fields) last
      (fields_fine i (in_item s path i) true (p + 8 * e.index.bytes) e.fields ok.0.fields) refl)
      (elements_fine count path (p + (element_bits bits_of e).size) es ok.1)))

  end_fine : (t : Bool) (p : ℕ) → Fine (end_trace s bits_of o t p)
  end_fine true p = fine_number (num_at o p (record { value = 0; bytes = 1 })) (s.leftover 0 ∷ []) none
  end_fine false p = none

  pub array_fine : (takes : Bool) (path : List ℕ) (a : Array P) → ArrayOk bits_of allowed takes a → Fine (array_trace s bits_of o path a)
  array_fine takes path a ok =
      let p = 8 * a.count.bytes in
      let q = p + (elements_bits bits_of a.elements).size in
      let end = end_trace s bits_of o a.trailer (q + 8 * a.close.bytes) in
      fine_number (num_at o 0 a.count) (elements_trace s bits_of o path p a.elements ++ (number (num_at o q a.close) ∷ end))
      (fine_join (elements_trace s bits_of o path p a.elements) (number (num_at o q a.close) ∷ end) (elements_fine a.count.value path p a.elements ok.elements)
      (fine_number (num_at o q a.close) end (end_fine a.trailer (q + 8 * a.close.bytes))))

-- what is allowed has as many bits as its size says
nested_below : (deeper : ℕ) (rows : List ℕ) (takes : Bool) (a : Array (G.Content deeper))
    → ((lvl : ℕ) (first : Bool) (h : ℕ) (x : G.Content deeper) → allowed_in deeper rows takes lvl first h x → Below (content_bits deeper x))
    → {c : Option ℕ} → NestedOk (array_bits (content_bits deeper) a).size (λ below. IsStructArray deeper rows takes below a) c → Below (array_bits (content_bits deeper) a)
nested_below deeper rows takes a inside (array {below = below} some inner) =
    array_below (content_bits deeper) (λ f k x. allowed_in deeper rows takes below f k x) (λ f k x y. inside below f k x y) takes a inner

pub allowed_below : (deeper : ℕ) (rows : List ℕ) (takes : Bool) (lvl : ℕ) (first : Bool) (h : ℕ) (x : G.Content deeper)
    → allowed_in deeper rows takes lvl first h x → Below (content_bits deeper x)
allowed_below zero rows takes lvl first h (plain b) ok = ok.0
allowed_below zero rows takes lvl first h (G.nested a) ok = absurd ok
allowed_below (suc deeper) rows takes lvl first h (plain b) ok = ok.0
allowed_below (suc deeper) rows takes lvl first h (G.nested a) ok =
    nested_below deeper rows takes a (λ l f k x y. allowed_below deeper rows takes l f k x y) ok

-- a plain payload and a nested array as the sink takes them
plain_fine : (t : Tables) (lvl : ℕ) (into : ℕ → List ℕ → ℕ → Window → Trace) (path : List ℕ) (h : ℕ) (v : Window) (c : Option ℕ) → PlainOk (bits_in_lem v) c
    → Fine (on_child t lvl into path h v c)
plain_fine t lvl into path h v None ok = refl
plain_fine t lvl into path h v (Some below) (G.empty e) = rw (eq-eqb v.size 0 e) refl

nested_fine : (deeper : ℕ) (t : Tables) (takes : Bool) (lvl : ℕ) (a : Array (G.Content deeper))
    → ((below : ℕ) → IsStructArray deeper t.rows takes below a → (v : Window) → Span v 0 v.size (array_bits (content_bits deeper) a) → (path : List ℕ)
    → Fine (level (struct_sink deeper t takes nested below) v path))
    → (path : List ℕ) (h o p : ℕ) {c : Option ℕ} → NestedOk (array_bits (content_bits deeper) a).size (λ below. IsStructArray deeper t.rows takes below a) c
    → Below (array_bits (content_bits deeper) a)
    → Fine (on_child t lvl (λ below path handle w. Ev.array (entered_at path w) ∷ level (struct_sink deeper t takes nested below) w path) path h
    (window_at o p (array_bits (content_bits deeper) a)) c)
nested_fine deeper t takes lvl a inside path h o p (array {below = below} some inner) b =
    let v = window_at o p (array_bits (content_bits deeper) a) in
    let q = array_path t lvl path h in
    rw (ne_eqb (array_bits (content_bits deeper) a).size 0 (λ z. omega arith))
    (fine_array (entered_at q v) (level (struct_sink deeper t takes nested below) v q) (inside below inner v (whole_span v (array_bits (content_bits deeper) a) b refl) q))

-- A struct array's bits are walked without fault.
pub walked_struct : (deeper : ℕ) (t : Tables) (takes : Bool) (leftover : ℕ → Event) (lvl : ℕ) → Fine (leftover 0 ∷ []) → (a : Array (G.Content deeper))
    → IsStructArray deeper t.rows takes lvl a → (w : Window) → Span w 0 w.size (array_bits (content_bits deeper) a) → (path : List ℕ)
    → Fine (level (struct_sink deeper t takes leftover lvl) w path)
unfolding struct_sink
walked_struct zero t takes leftover lvl none a ok w sp path =
    let s = struct_sink zero t takes leftover lvl in
    subst Fine
    (sym (level_walked (content_bits zero) (λ f k x. allowed_in zero t.rows takes lvl f k x) (λ f k x y. allowed_below zero t.rows takes lvl f k x y) s w path a ok sp))
    (array_fine s (content_bits zero) (λ f k x. allowed_in zero t.rows takes lvl f k x) always none w.origin takes path a ok)
  where
    always : (i : ℕ) (path : List ℕ) (first : Bool) (h : ℕ) (x : G.Content zero) → allowed_in zero t.rows takes lvl first h x → (o p : ℕ)
        → Fine ((struct_sink zero t takes leftover lvl).field i path first h (window_at o p (content_bits zero x)))
    always i path first h (plain b) y o p = plain_fine t lvl too_deep path h (window_at o p b) (child t.rows lvl h) y.1
    always i path first h (G.nested z) y o p = absurd y
walked_struct (suc deeper) t takes leftover lvl none a ok w sp path =
    let s = struct_sink (suc deeper) t takes leftover lvl in
    subst Fine
    (sym
    (level_walked (content_bits (suc deeper)) (λ f k x. allowed_in (suc deeper) t.rows takes lvl f k x) (λ f k x y. allowed_below (suc deeper) t.rows takes lvl f k x y) s w path a
    ok sp))
    (array_fine s (content_bits (suc deeper)) (λ f k x. allowed_in (suc deeper) t.rows takes lvl f k x)
    (always (λ below x y v z place. walked_struct deeper t takes nested below refl x y v z place)) none w.origin takes path a ok)
  where
    Inside : Type 0
    Inside = (below : ℕ) (x : Array (G.Content deeper)) → IsStructArray deeper t.rows takes below x → (v : Window)
        → Span v 0 v.size (array_bits (content_bits deeper) x) → (path : List ℕ) → Fine (level (struct_sink deeper t takes nested below) v path)

    always : Inside → (i : ℕ) (path : List ℕ) (first : Bool) (h : ℕ) (x : G.Content (suc deeper)) → allowed_in (suc deeper) t.rows takes lvl first h x → (o p : ℕ)
        → Fine ((struct_sink (suc deeper) t takes leftover lvl).field i path first h (window_at o p (content_bits (suc deeper) x)))
    always inside i path first h (plain b) y o p =
        plain_fine t lvl (λ below path handle v. Ev.array (entered_at path v) ∷ level (struct_sink deeper t takes nested below) v path) path h
        (window_at o p b) (child t.rows lvl h) y.1
    always inside i path first h (G.nested z) y o p =
        nested_fine deeper t takes lvl z (λ below u v q place. inside below z u v q place) path h o p y
        (nested_below deeper t.rows takes z (λ l f k x q. allowed_below deeper t.rows takes l f k x q) y)
