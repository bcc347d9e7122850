-- The leaves, pairs and element count of a walk without fault are those of the array that it walked: they are read off the trace that GrammarWalked
-- finds, part by part.
use Rattle.std.specs.Prelude.{Option, Some, None}
use Prim.Native.Nat.{ℕ, zero, suc, ◌+◌, ◌-◌, ◌*◌}
use mathlib.Core.Path.{◌≡◌, refl, ap, ap₂, ◌∙◌}
use mathlib.Core.Bool.{Bool, true, false, ◌&&◌}
use mathlib.Core.List.{List, [], ◌∷◌, ◌++◌, append-nil}
use native.Mathlib.Omega.{arith}
use lib.Dec.{eqb}
use borrow.Author.Tests.{eq-eqb, ne_eqb}
use Rattle.schema.specs.Tables.{Tables, child}
use Rattle.schema.specs.Labels.{at_index}
use Rattle.framing.specs.Windows.{Window}
use Rattle.framing.specs.Events as Ev
use Rattle.framing.specs.Events.{Leaf, Pair, Event, number, nested, leaves, pairs, Trace}
use Rattle.framing.specs.Counters.{counters}
use Rattle.framing.specs.Paths.{array_path}
use Rattle.framing.specs.Walk.{Sink, in_item, level}
use Rattle.framing.specs.Sinks.{on_child, too_deep, entered_at, struct_sink, object_sink}
use Rattle.framing.specs.Grammar.{Bits, num_bits, Field, Element, Array, field_bits, fields_bits, element_bits, elements_bits, array_bits}
use Rattle.framing.specs.GrammarRules.{Each, FieldsOk, ElementOk, ArrayOk, plain, content_bits, PlainOk, NestedOk, array, allowed_in, IsStructArray, Reference, no_guid, guid, reference_bits, reference_in, IsObjectArray}
use Rattle.framing.specs.GrammarRules as G
use Rattle.framing.specs.GrammarGives.{fields_leaves, elements_leaves, array_leaves, plain_leaves, nested_leaves, content_leaves, struct_leaves, reference_pairs, fields_pairs, elements_pairs, object_pairs, fields_count, elements_count, array_count_lem, content_count}
use Rattle.framing.proofs.TraceLaws.{leaves_append, pairs_append, counters_append}
use Rattle.framing.proofs.GrammarBits.{Span, Below}
use Rattle.framing.proofs.GrammarWalked.{num_at, window_at, fields_trace, elements_trace, end_trace, array_trace, level_walked}
use Rattle.framing.proofs.GrammarStruct.{whole_span, allowed_below}
use Rattle.framing.proofs.GrammarObject.{guid_field, absent_field, object_walked}

-- ---- leaves of a level whose sink gives leaves

module _ (s : Sink) (flat : s.flattens ≡ true) {P : Type 0} (bits_of : P → Bits) (allowed : Bool → ℕ → P → Type 0)
    (ofPayload : (path : List ℕ) (handle start : ℕ) → P → List Leaf)
    (each : (i : ℕ) (path : List ℕ) (first : Bool) (h : ℕ) (x : P) → allowed first h x → (o p : ℕ)
    → leaves (s.field i path first h (window_at o p (bits_of x))) ≡ ofPayload path h (o + p) x)
    (rest : leaves (s.leftover 0 ∷ []) ≡ []) (o : ℕ) where
  item_is : (path : List ℕ) (i : ℕ) → in_item s path i ≡ at_index path i
  unfolding in_item
  item_is path i = rw flat

  fields_leaves_lem : (i : ℕ) (path : List ℕ) (first : Bool) (p : ℕ) (fs : List (Field P)) → FieldsOk bits_of allowed first fs
      → leaves (fields_trace s bits_of o i path first p fs) ≡ fields_leaves bits_of ofPayload o path p fs
  unfolding fields_trace fields_leaves
  fields_leaves_lem i path first p [] ok = refl
  fields_leaves_lem i path first p (f ∷ fs) ok =
      let m = p + 8 * f.handle.bytes + 8 * f.width.bytes in
      let here = s.field i path first (f.handle.value - 1) (window_at o m (bits_of f.payload)) in
      let later = fields_trace s bits_of o i path (first && eqb f.width.value 0) (p + (field_bits bits_of f).size) fs in
      leaves_append here later
      ∙ ap₂ (λ (a b : List Leaf). a ++ b) (each i path first (f.handle.value - 1) f.payload ok.0.content o m)
      (fields_leaves_lem i path (first && eqb f.width.value 0) (p + (field_bits bits_of f).size) fs ok.1)

  elements_leaves_lem : (count : ℕ) (path : List ℕ) (p : ℕ) (es : List (Element P)) → Each (ElementOk bits_of allowed count) es
      → leaves (elements_trace s bits_of o path p es) ≡ elements_leaves bits_of ofPayload o path p es
  unfolding elements_trace elements_leaves
  elements_leaves_lem count path p [] ok = refl
  elements_leaves_lem count path p (e ∷ es) ok =
      let i = e.index.value - 1 in
      let q = p + 8 * e.index.bytes in
      let fs = fields_trace s bits_of o i (in_item s path i) true q e.fields in
      let last : Trace = number (num_at o (q + (fields_bits bits_of e.fields).size) e.close) ∷ [] in
      let later = elements_trace s bits_of o path (p + (element_bits bits_of e).size) es in
      leaves_append (fs ++ last) later
      ∙ ap₂ (λ (a b : List Leaf). a ++ b)
      (leaves_append fs last
      ∙ append-nil (leaves fs)
      ∙ fields_leaves_lem i (in_item s path i) true q e.fields ok.0.fields
      ∙ ap (λ (l : List ℕ). fields_leaves bits_of ofPayload o l q e.fields) (item_is path i))
      (elements_leaves_lem count path (p + (element_bits bits_of e).size) es ok.1)

  end_leafless : (t : Bool) (p : ℕ) → leaves (end_trace s bits_of o t p) ≡ []
  end_leafless true p = rest
  end_leafless false p = rest

  array_leaves_lem : (takes : Bool) (path : List ℕ) (a : Array P) → ArrayOk bits_of allowed takes a
      → leaves (array_trace s bits_of o path a) ≡ array_leaves bits_of ofPayload o path a
  array_leaves_lem takes path a ok =
      let p = 8 * a.count.bytes in
      let q = p + (elements_bits bits_of a.elements).size in
      let es = elements_trace s bits_of o path p a.elements in
      let end : Trace = number (num_at o q a.close) ∷ end_trace s bits_of o a.trailer (q + 8 * a.close.bytes) in
      leaves_append es end
      ∙ ap₂ (λ (x y : List Leaf). x ++ y) (elements_leaves_lem a.count.value path p a.elements ok.elements) (end_leafless a.trailer (q + 8 * a.close.bytes))
      ∙ append-nil (array_leaves bits_of ofPayload o path a)

-- ---- the struct walk

plain_given : (t : Tables) (lvl : ℕ) (into : ℕ → List ℕ → ℕ → Window → Trace) (path : List ℕ) (h : ℕ) (b : Bits) (o p : ℕ) (c : Option ℕ) → PlainOk b c
    → leaves (on_child t lvl into path h (window_at o p b) c) ≡ plain_leaves t lvl path h (o + p) b c
plain_given t lvl into path h b o p None ok = refl
plain_given t lvl into path h b o p (Some below) (G.empty z) = rw (eq-eqb b.size 0 z) refl

nested_given : (deeper : ℕ) (t : Tables) (takes : Bool) (lvl : ℕ) (a : Array (G.Content deeper)) (path : List ℕ) (h o p : ℕ)
    → Below (array_bits (content_bits deeper) a)
    → ((below : ℕ) → IsStructArray deeper t.rows takes below a → (v : Window) → Span v 0 v.size (array_bits (content_bits deeper) a) → (place : List ℕ)
    → leaves (level (struct_sink deeper t takes nested below) v place) ≡ struct_leaves deeper t below v.origin place a)
    → (c : Option ℕ) → NestedOk (array_bits (content_bits deeper) a).size (λ below. IsStructArray deeper t.rows takes below a) c
    → leaves (on_child t lvl (λ below path handle w. Ev.array (entered_at path w) ∷ level (struct_sink deeper t takes nested below) w path) path h
    (window_at o p (array_bits (content_bits deeper) a)) c)
    ≡ nested_leaves (λ below longer. struct_leaves deeper t below (o + p) longer a) t lvl path h c
nested_given deeper t takes lvl a path h o p b inside None k = elim k [ ]
nested_given deeper t takes lvl a path h o p b inside (Some below) (array some inner) =
    let v = window_at o p (array_bits (content_bits deeper) a) in
    rw (ne_eqb (array_bits (content_bits deeper) a).size 0 (λ z. omega arith))
    (inside below inner v (whole_span v (array_bits (content_bits deeper) a) b refl) (array_path t lvl path h))

-- The leaves of the walk are those of the struct array.
pub struct_leaves_lem : (deeper : ℕ) (t : Tables) (takes : Bool) (leftover : ℕ → Event) (lvl : ℕ) → leaves (leftover 0 ∷ []) ≡ [] → (a : Array (G.Content deeper))
    → IsStructArray deeper t.rows takes lvl a → (w : Window) → Span w 0 w.size (array_bits (content_bits deeper) a) → (path : List ℕ)
    → leaves (level (struct_sink deeper t takes leftover lvl) w path) ≡ struct_leaves deeper t lvl w.origin path a
unfolding struct_sink
struct_leaves_lem zero t takes leftover lvl rest a ok w sp path =
    let s = struct_sink zero t takes leftover lvl in
    let walked = level_walked (content_bits zero) (λ f k x. allowed_in zero t.rows takes lvl f k x) (λ f k x y. allowed_below zero t.rows takes lvl f k x y) s w path a ok sp in
    ap leaves walked
    ∙ array_leaves_lem s refl (content_bits zero) (λ f k x. allowed_in zero t.rows takes lvl f k x) (λ q k n x. content_leaves zero t lvl q k n x) each rest w.origin takes path a ok
  where
    each : (i : ℕ) (path : List ℕ) (first : Bool) (h : ℕ) (x : G.Content zero) → allowed_in zero t.rows takes lvl first h x → (o p : ℕ)
        → leaves ((struct_sink zero t takes leftover lvl).field i path first h (window_at o p (content_bits zero x))) ≡ content_leaves zero t lvl path h (o + p) x
    each i path first h (plain b) y o p = plain_given t lvl too_deep path h b o p (child t.rows lvl h) y.1
    each i path first h (G.nested z) y o p = absurd y
struct_leaves_lem (suc deeper) t takes leftover lvl rest a ok w sp path =
    let s = struct_sink (suc deeper) t takes leftover lvl in
    let walked = level_walked (content_bits (suc deeper)) (λ f k x. allowed_in (suc deeper) t.rows takes lvl f k x) (λ f k x y. allowed_below (suc deeper) t.rows takes lvl f k x y) s w
    path a ok sp in
    ap leaves walked
    ∙ array_leaves_lem s refl (content_bits (suc deeper)) (λ f k x. allowed_in (suc deeper) t.rows takes lvl f k x) (λ q k n x. content_leaves (suc deeper) t lvl q k n x)
    (each (λ below x y v z place. struct_leaves_lem deeper t takes nested below refl x y v z place)) rest w.origin takes path a ok
  where
    Inside : Type 0
    Inside = (below : ℕ) (x : Array (G.Content deeper)) → IsStructArray deeper t.rows takes below x → (v : Window)
        → Span v 0 v.size (array_bits (content_bits deeper) x) → (place : List ℕ)
        → leaves (level (struct_sink deeper t takes nested below) v place) ≡ struct_leaves deeper t below v.origin place x

    each : Inside → (i : ℕ) (path : List ℕ) (first : Bool) (h : ℕ) (x : G.Content (suc deeper)) → allowed_in (suc deeper) t.rows takes lvl first h x → (o p : ℕ)
        → leaves ((struct_sink (suc deeper) t takes leftover lvl).field i path first h (window_at o p (content_bits (suc deeper) x))) ≡ content_leaves (suc deeper) t lvl path h (o + p) x
    each inside i path first h (plain b) y o p =
        plain_given t lvl (λ below path handle w. Ev.array (entered_at path w) ∷ level (struct_sink deeper t takes nested below) w path) path h b o p (child t.rows lvl h) y.1
    each inside i path first h (G.nested z) y o p =
        nested_given deeper t takes lvl z path h o p (allowed_below (suc deeper) t.rows takes lvl first h (G.nested z) y)
        (λ below u v q place. inside below z u v q place) (child t.rows lvl h) y

-- ---- how many elements

abbrev entered : Trace → ℕ
entered t = (counters t).elements

entered_append : (t u : Trace) → entered (t ++ u) ≡ entered t + entered u
entered_append t u = ap (λ c. c.elements) (counters_append t u)

module _ (s : Sink) {P : Type 0} (bits_of : P → Bits) (allowed : Bool → ℕ → P → Type 0) (ofPayload : P → ℕ)
    (each : (i : ℕ) (path : List ℕ) (first : Bool) (h : ℕ) (x : P) → allowed first h x → (o p : ℕ) → entered (s.field i path first h (window_at o p (bits_of x))) ≡ ofPayload x)
    (rest : entered (s.leftover 0 ∷ []) ≡ 0) (o : ℕ) where
  fields_count_lem : (i : ℕ) (path : List ℕ) (first : Bool) (p : ℕ) (fs : List (Field P)) → FieldsOk bits_of allowed first fs
      → entered (fields_trace s bits_of o i path first p fs) ≡ fields_count ofPayload fs
  unfolding fields_trace fields_count
  fields_count_lem i path first p [] ok = refl
  fields_count_lem i path first p (f ∷ fs) ok =
      let m = p + 8 * f.handle.bytes + 8 * f.width.bytes in
      let here = s.field i path first (f.handle.value - 1) (window_at o m (bits_of f.payload)) in
      let later = fields_trace s bits_of o i path (first && eqb f.width.value 0) (p + (field_bits bits_of f).size) fs in
      let a = entered_append here later in
      let b = each i path first (f.handle.value - 1) f.payload ok.0.content o m in
      let c = fields_count_lem i path (first && eqb f.width.value 0) (p + (field_bits bits_of f).size) fs ok.1 in
      omega arith

  elements_count_lem : (count : ℕ) (path : List ℕ) (p : ℕ) (es : List (Element P)) → Each (ElementOk bits_of allowed count) es
      → entered (elements_trace s bits_of o path p es) ≡ elements_count ofPayload es
  unfolding elements_trace elements_count
  elements_count_lem count path p [] ok = refl
  elements_count_lem count path p (e ∷ es) ok =
      let i = e.index.value - 1 in
      let q = p + 8 * e.index.bytes in
      let fs = fields_trace s bits_of o i (in_item s path i) true q e.fields in
      let last : Trace = number (num_at o (q + (fields_bits bits_of e.fields).size) e.close) ∷ [] in
      let later = elements_trace s bits_of o path (p + (element_bits bits_of e).size) es in
      let a = entered_append (fs ++ last) later in
      let c = entered_append fs last in
      let f = fields_count_lem i (in_item s path i) true q e.fields ok.0.fields in
      let g = elements_count_lem count path (p + (element_bits bits_of e).size) es ok.1 in
      omega arith

  end_count : (t : Bool) (p : ℕ) → entered (end_trace s bits_of o t p) ≡ 0
  end_count true p = let z = rest in omega arith
  end_count false p = rest

  array_count : (takes : Bool) (path : List ℕ) (a : Array P) → ArrayOk bits_of allowed takes a → entered (array_trace s bits_of o path a) ≡ array_count_lem ofPayload a
  array_count takes path a ok =
      let p = 8 * a.count.bytes in
      let q = p + (elements_bits bits_of a.elements).size in
      let es = elements_trace s bits_of o path p a.elements in
      let end = end_trace s bits_of o a.trailer (q + 8 * a.close.bytes) in
      let x = entered_append es (number (num_at o q a.close) ∷ end) in
      let y = elements_count_lem a.count.value path p a.elements ok.elements in
      let z = end_count a.trailer (q + 8 * a.close.bytes) in
      omega arith

plain_count : (t : Tables) (lvl : ℕ) (into : ℕ → List ℕ → ℕ → Window → Trace) (path : List ℕ) (h : ℕ) (b : Bits) (o p : ℕ) (c : Option ℕ) → PlainOk b c
    → entered (on_child t lvl into path h (window_at o p b) c) ≡ 0
plain_count t lvl into path h b o p None ok = refl
plain_count t lvl into path h b o p (Some below) (G.empty z) = rw (eq-eqb b.size 0 z) refl

nested_count : (deeper : ℕ) (t : Tables) (takes : Bool) (lvl : ℕ) (a : Array (G.Content deeper)) (path : List ℕ) (h o p : ℕ)
    → Below (array_bits (content_bits deeper) a)
    → ((below : ℕ) → IsStructArray deeper t.rows takes below a → (v : Window) → Span v 0 v.size (array_bits (content_bits deeper) a) → (place : List ℕ)
    → entered (level (struct_sink deeper t takes nested below) v place) ≡ array_count_lem (content_count deeper) a)
    → (c : Option ℕ) → NestedOk (array_bits (content_bits deeper) a).size (λ below. IsStructArray deeper t.rows takes below a) c
    → entered (on_child t lvl (λ below path handle w. Ev.array (entered_at path w) ∷ level (struct_sink deeper t takes nested below) w path) path h
    (window_at o p (array_bits (content_bits deeper) a)) c)
    ≡ array_count_lem (content_count deeper) a
nested_count deeper t takes lvl a path h o p b inside None k = elim k [ ]
nested_count deeper t takes lvl a path h o p b inside (Some below) (array some inner) =
    let v = window_at o p (array_bits (content_bits deeper) a) in
    let z = inside below inner v (whole_span v (array_bits (content_bits deeper) a) b refl) (array_path t lvl path h) in
    rw (ne_eqb (array_bits (content_bits deeper) a).size 0 (λ z. omega arith)) (omega arith)

-- The elements that the walk enters are those of the struct array.
pub struct_elements : (deeper : ℕ) (t : Tables) (takes : Bool) (leftover : ℕ → Event) (lvl : ℕ) → entered (leftover 0 ∷ []) ≡ 0 → (a : Array (G.Content deeper))
    → IsStructArray deeper t.rows takes lvl a → (w : Window) → Span w 0 w.size (array_bits (content_bits deeper) a) → (path : List ℕ)
    → entered (level (struct_sink deeper t takes leftover lvl) w path) ≡ array_count_lem (content_count deeper) a
unfolding struct_sink
struct_elements zero t takes leftover lvl rest a ok w sp path =
    let s = struct_sink zero t takes leftover lvl in
    ap entered (level_walked (content_bits zero) (λ f k x. allowed_in zero t.rows takes lvl f k x) (λ f k x y. allowed_below zero t.rows takes lvl f k x y) s w path a ok sp)
    ∙ array_count s (content_bits zero) (λ f k x. allowed_in zero t.rows takes lvl f k x) (content_count zero) each rest w.origin takes path a ok
  where
    each : (i : ℕ) (path : List ℕ) (first : Bool) (h : ℕ) (x : G.Content zero) → allowed_in zero t.rows takes lvl first h x → (o p : ℕ)
        → entered ((struct_sink zero t takes leftover lvl).field i path first h (window_at o p (content_bits zero x))) ≡ content_count zero x
    each i path first h (plain b) y o p = plain_count t lvl too_deep path h b o p (child t.rows lvl h) y.1
    each i path first h (G.nested z) y o p = absurd y
struct_elements (suc deeper) t takes leftover lvl rest a ok w sp path =
    let s = struct_sink (suc deeper) t takes leftover lvl in
    ap entered
    (level_walked (content_bits (suc deeper)) (λ f k x. allowed_in (suc deeper) t.rows takes lvl f k x) (λ f k x y. allowed_below (suc deeper) t.rows takes lvl f k x y) s w path a ok
    sp)
    ∙ array_count s (content_bits (suc deeper)) (λ f k x. allowed_in (suc deeper) t.rows takes lvl f k x) (content_count (suc deeper))
    (each (λ below x y v z place. struct_elements deeper t takes nested below refl x y v z place)) rest w.origin takes path a ok
  where
    Inside : Type 0
    Inside = (below : ℕ) (x : Array (G.Content deeper)) → IsStructArray deeper t.rows takes below x → (v : Window)
        → Span v 0 v.size (array_bits (content_bits deeper) x) → (place : List ℕ)
        → entered (level (struct_sink deeper t takes nested below) v place) ≡ array_count_lem (content_count deeper) x

    each : Inside → (i : ℕ) (path : List ℕ) (first : Bool) (h : ℕ) (x : G.Content (suc deeper)) → allowed_in (suc deeper) t.rows takes lvl first h x → (o p : ℕ)
        → entered ((struct_sink (suc deeper) t takes leftover lvl).field i path first h (window_at o p (content_bits (suc deeper) x))) ≡ content_count (suc deeper) x
    each inside i path first h (plain b) y o p =
        plain_count t lvl (λ below path handle w. Ev.array (entered_at path w) ∷ level (struct_sink deeper t takes nested below) w path) path h b o p (child t.rows lvl h) y.1
    each inside i path first h (G.nested z) y o p =
        nested_count deeper t takes lvl z path h o p (allowed_below (suc deeper) t.rows takes lvl first h (G.nested z) y)
        (λ below u v q place. inside below z u v q place) (child t.rows lvl h) y

-- ---- the object walk

reference_pairs_lem : (i : ℕ) (path : List ℕ) (first : Bool) (h : ℕ) (x : Reference) → reference_in first h x → (o p : ℕ)
    → pairs (object_sink.field i path first h (window_at o p (reference_bits x))) ≡ reference_pairs i x
reference_pairs_lem i path first h no_guid ok o p = ap pairs (absent_field i h path first o p)
reference_pairs_lem i path first h (guid n) ok o p =
    ap (λ (f : Bool). pairs (object_sink.field i path f h (window_at o p (num_bits n)))) ok.0 ∙ ap pairs (guid_field i h path n ok.1 o p)

reference_enters : (i : ℕ) (path : List ℕ) (first : Bool) (h : ℕ) (x : Reference) → reference_in first h x → (o p : ℕ)
    → entered (object_sink.field i path first h (window_at o p (reference_bits x))) ≡ 0
reference_enters i path first h no_guid ok o p = ap entered (absent_field i h path first o p)
reference_enters i path first h (guid n) ok o p =
    ap (λ (f : Bool). entered (object_sink.field i path f h (window_at o p (num_bits n)))) ok.0 ∙ ap entered (guid_field i h path n ok.1 o p)

fields_pairs_lem : (o i : ℕ) (path : List ℕ) (first : Bool) (p : ℕ) (fs : List (Field Reference)) → FieldsOk reference_bits reference_in first fs
    → pairs (fields_trace object_sink reference_bits o i path first p fs) ≡ fields_pairs i fs
unfolding fields_trace fields_pairs
fields_pairs_lem o i path first p [] ok = refl
fields_pairs_lem o i path first p (f ∷ fs) ok =
    let m = p + 8 * f.handle.bytes + 8 * f.width.bytes in
    let here = object_sink.field i path first (f.handle.value - 1) (window_at o m (reference_bits f.payload)) in
    let later = fields_trace object_sink reference_bits o i path (first && eqb f.width.value 0) (p + (field_bits reference_bits f).size) fs in
    pairs_append here later
    ∙ ap₂ (λ (a b : List Pair). a ++ b) (reference_pairs_lem i path first (f.handle.value - 1) f.payload ok.0.content o m)
    (fields_pairs_lem o i path (first && eqb f.width.value 0) (p + (field_bits reference_bits f).size) fs ok.1)

elements_pairs_lem : (o count : ℕ) (path : List ℕ) (p : ℕ) (es : List (Element Reference)) → Each (ElementOk reference_bits reference_in count) es
    → pairs (elements_trace object_sink reference_bits o path p es) ≡ elements_pairs es
unfolding elements_trace elements_pairs
elements_pairs_lem o count path p [] ok = refl
elements_pairs_lem o count path p (e ∷ es) ok =
    let i = e.index.value - 1 in
    let q = p + 8 * e.index.bytes in
    let fs = fields_trace object_sink reference_bits o i (in_item object_sink path i) true q e.fields in
    let last : Trace = number (num_at o (q + (fields_bits reference_bits e.fields).size) e.close) ∷ [] in
    let later = elements_trace object_sink reference_bits o path (p + (element_bits reference_bits e).size) es in
    pairs_append (fs ++ last) later
    ∙ ap₂ (λ (a b : List Pair). a ++ b)
    (pairs_append fs last
    ∙ append-nil (pairs fs)
    ∙ fields_pairs_lem o i (in_item object_sink path i) true q e.fields ok.0.fields)
    (elements_pairs_lem o count path (p + (element_bits reference_bits e).size) es ok.1)

end_pairless : (o : ℕ) (t : Bool) (p : ℕ) → pairs (end_trace object_sink reference_bits o t p) ≡ []
unfolding object_sink
end_pairless o true p = refl
end_pairless o false p = refl

-- The pairs of the object walk are those of the object array.
pub object_pairs_lem : (a : Array Reference) → IsObjectArray a → (w : Window) → Span w 0 w.size (array_bits reference_bits a) → (path : List ℕ)
    → pairs (level object_sink w path) ≡ object_pairs a
object_pairs_lem a ok w sp path =
    let o = w.origin in
    let p = 8 * a.count.bytes in
    let q = p + (elements_bits reference_bits a.elements).size in
    let es = elements_trace object_sink reference_bits o path p a.elements in
    let end = end_trace object_sink reference_bits o a.trailer (q + 8 * a.close.bytes) in
    ap pairs (object_walked a ok w sp path)
    ∙ pairs_append es (number (num_at o q a.close) ∷ end)
    ∙ ap₂ (λ (x y : List Pair). x ++ y) (elements_pairs_lem o a.count.value path p a.elements ok.elements) (end_pairless o a.trailer (q + 8 * a.close.bytes))
    ∙ append-nil (object_pairs a)

-- and its elements too
pub object_elements : (a : Array Reference) → IsObjectArray a → (w : Window) → Span w 0 w.size (array_bits reference_bits a) → (path : List ℕ)
    → entered (level object_sink w path) ≡ array_count_lem (λ x. 0) a
unfolding object_sink
object_elements a ok w sp path =
    ap entered (object_walked a ok w sp path)
    ∙ array_count object_sink reference_bits reference_in (λ x. 0) reference_enters refl w.origin true path a ok
