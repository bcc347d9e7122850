-- The events of every walk cut up its window: a number and a leaf start where the walk stands, and move it past their bits; what ends a level takes it
-- to the window's end; and the bits that a payload gave are those that its field's width says.
use Prim.Native.Nat.{ℕ, ◌+◌, ◌-◌, ◌*◌, ◌≤◌}
use mathlib.Core.Path.{◌≡◌, refl, sym, subst}
use mathlib.Core.List.{List, [], ◌∷◌, ◌++◌}
use native.Mathlib.Omega.{arith}
use Rattle.bits.specs.Members.{Any, first, later}
use Rattle.bits.specs.Packed.{Number}
use Rattle.bits.proofs.MemberLaws.{any_before, any_behind}
use Rattle.bits.proofs.Never.{never}
use Rattle.schema.specs.Tables.{Tables}
use Rattle.schema.specs.Labels.{at_index}
use Rattle.framing.specs.Windows.{Window, part}
use Rattle.framing.specs.Events.{Entered, number, element, array, error, taken, arrays, Trace}
use Rattle.framing.specs.Paths.{array_path}
use Rattle.framing.specs.Walk.{raw_leaf}
use Rattle.framing.specs.Accounts.{Divides, nothing_more, takes_number, takes_leaf, steps_past, left_at_root, stops_at_error, skips_tail, meets_limit, ends_early, enters_element, enters_array, gives_pair, EndIn, of_window, of_array, of_payload, Divided}
use Rattle.framing.specs.declared.Walk.TheVariants as how
use Rattle.framing.specs.Sinks.{entered_at, Walker, walker, Leafy, walk}
use Rattle.framing.proofs.TraceLaws.{taken_append, arrays_append}
use Rattle.framing.proofs.Induct.{Read}
use Rattle.framing.proofs.Lift.{anywhere, Property, Pieces, StructPieces, ObjectPieces, tables_of, KindPieces, walk_holds}

abbrev ArrayEnds : (e : ℕ) → Entered → Type 0
ArrayEnds e a = a.start + a.width ≡ e

abbrev PayloadEnds : (e : ℕ) → Number → Type 0
PayloadEnds e x = x.start + 8 * x.bytes + x.value ≡ e

module _ (k : Walker) where
  -- ---- where pieces join

  module _ (End : ℕ → Type 0) where
    -- two traces one behind the other
    both : {p q r : ℕ} {a b : Trace} → Divides k End p a q → Divides k End q b r → Divides k End p (a ++ b) r
    both {r = r} {b = b} (nothing_more e) h = subst (λ (o : ℕ). Divides k End o b r) (sym e) h
    both (takes_number e d) h = takes_number e (both d h)
    both (takes_leaf e d) h = takes_leaf e (both d h)
    both (steps_past d) h = steps_past (both d h)
    both (left_at_root d) h = left_at_root (both d h)
    both (stops_at_error m end d) h = stops_at_error m end (both d h)
    both (skips_tail m leafless end d) h = skips_tail m leafless end (both d h)
    both (meets_limit d) h = meets_limit (both d h)
    both (ends_early d) h = ends_early (both d h)
    both (enters_element d) h = enters_element (both d h)
    both (enters_array d) h = enters_array (both d h)
    both (gives_pair d) h = gives_pair (both d h)

    -- the same, from or to a bit that is said in another way
    at : (p q r s : ℕ) (a : Trace) → p ≡ r → q ≡ s → Divides k End p a q → Divides k End r a s
    at p q r s a e f d = subst (λ (o : ℕ). Divides k End o a s) e (subst (Divides k End p a) f d)

    -- a number of the window w, and what comes behind it
    reads : (w : Window) (x : Number) (p q s : ℕ) (a : Trace) → Read w x p q → Divides k End (w.origin + q) a s
        → Divides k End (w.origin + p) (number x ∷ a) s
    reads w x p q s a r d = let e = r.runs in takes_number r.starts (at (w.origin + q) s (w.origin + p + 8 * x.bytes) s a (omega arith) refl d)

  -- where other ends count too
  widen : {E F : ℕ → Type 0} → ((e : ℕ) → E e → F e) → {p q : ℕ} {a : Trace} → Divides k E p a q → Divides k F p a q
  widen f (nothing_more e) = nothing_more e
  widen f (takes_number e d) = takes_number e (widen f d)
  widen f (takes_leaf e d) = takes_leaf e (widen f d)
  widen f (steps_past d) = steps_past (widen f d)
  widen f (left_at_root d) = left_at_root (widen f d)
  widen f (stops_at_error m end d) = stops_at_error m (f _ end) (widen f d)
  widen f (skips_tail m leafless end d) = skips_tail m leafless (f _ end) (widen f d)
  widen f (meets_limit d) = meets_limit (widen f d)
  widen f (ends_early d) = ends_early (widen f d)
  widen f (enters_element d) = enters_element (widen f d)
  widen f (enters_array d) = enters_array (widen f d)
  widen f (gives_pair d) = gives_pair (widen f d)

  -- an end in one of two traces is an end in both
  end_before : (n : ℕ) (a b : Trace) (e : ℕ) → EndIn k n a e → EndIn k n (a ++ b) e
  end_before n a b e (of_window h) = of_window h
  end_before n a b e (of_array h) = of_array (subst (Any (ArrayEnds e)) (sym (arrays_append a b)) (any_before (ArrayEnds e) (arrays a) (arrays b) h))
  end_before n a b e (of_payload l h) = of_payload l (subst (Any (PayloadEnds e)) (sym (taken_append a b)) (any_before (PayloadEnds e) (taken a) (taken b) h))

  end_behind : (n : ℕ) (a b : Trace) (e : ℕ) → EndIn k n b e → EndIn k n (a ++ b) e
  end_behind n a b e (of_window h) = of_window h
  end_behind n a b e (of_array h) = of_array (subst (Any (ArrayEnds e)) (sym (arrays_append a b)) (any_behind (ArrayEnds e) (arrays a) (arrays b) h))
  end_behind n a b e (of_payload l h) = of_payload l (subst (Any (PayloadEnds e)) (sym (taken_append a b)) (any_behind (PayloadEnds e) (taken a) (taken b) h))

  join : (n p q r : ℕ) (a b : Trace) → Divides k (EndIn k n a) p a q → Divides k (EndIn k n b) q b r → Divides k (EndIn k n (a ++ b)) p (a ++ b) r
  join n p q r a b g h = both (EndIn k n (a ++ b)) (widen (end_before n a b) g) (widen (end_behind n a b) h)

  -- ---- the property

  -- an end in what a payload w gave: that of an array, or in an object walk the payload's own or that of one in it
  data EndBelow (w : Window) (a : Trace) (e : ℕ) : Type 0 where
    own : (Leafy k → ⊥) → e ≡ w.origin + w.size → EndBelow w a e
    array_below : Any (ArrayEnds e) (arrays a) → EndBelow w a e
    payload_below : (Leafy k → ⊥) → Any (PayloadEnds e) (taken a) → EndBelow w a e

  abbrev divides : Property
  divides =
      record {
        Good = λ w path p q a. Divides k (EndIn k (w.origin + w.size) a) (w.origin + p) a (w.origin + q);
        Stop = λ w path place p a. Divides k (EndIn k (w.origin + w.size) a) (w.origin + p) a (w.origin + w.size);
        Gave = λ h w a. Divides k (EndBelow w a) w.origin a (w.origin + w.size);
      }

  module _ (w : Window) where
    -- nothing more, from bit p to the window's end or from so many bits before that
    there : {E : ℕ → Type 0} (p : ℕ) → p ≡ w.size → Divides k E (w.origin + p) [] (w.origin + w.size)
    there p e = let f : w.origin + p ≡ w.origin + w.size = omega arith in nothing_more f

    to_end : {E : ℕ → Type 0} (p : ℕ) → p ≤ w.size → Divides k E (w.origin + p + (w.size - p)) [] (w.origin + w.size)
    to_end p h = let e : w.origin + p + (w.size - p) ≡ w.origin + w.size = omega arith in nothing_more e

    -- from the window's first bit
    first_bit : {E : ℕ → Type 0} (a : Trace) → Divides k E (w.origin + 0) a (w.origin + w.size) → Divides k E w.origin a (w.origin + w.size)
    first_bit {E = E} a d = at E (w.origin + 0) (w.origin + w.size) w.origin (w.origin + w.size) a (omega arith) refl d

    -- all that is left goes unread
    unread : {E : ℕ → Type 0} (p : ℕ) → p ≤ w.size → ((e : ℕ) → e ≡ w.origin + w.size → E e)
        → Divides k E (w.origin + p) (error ∷ []) (w.origin + w.size)
    unread p h end = let e : w.origin + p + (w.size - p) ≡ w.origin + w.size = omega arith in stops_at_error (w.size - p) (end _ e) (to_end p h)

    -- a field's payload in the window around it
    end_around : (x y : Number) (q r : ℕ) (a : Trace) → Read w y q r → (e : ℕ) → EndBelow (part w r y.value) a e
        → EndIn k (w.origin + w.size) (number x ∷ number y ∷ a) e
    end_around x y q r a t e (own leafless z) =
        let s = t.starts in let u = t.runs in
        let f : y.start + 8 * y.bytes + y.value ≡ e = omega arith in of_payload leafless (later (first f))
    end_around x y q r a t e (array_below h) = of_array h
    end_around x y q r a t e (payload_below leafless h) = of_payload leafless (later (later h))

    -- an array that was entered, as a payload
    end_entered : (path : List ℕ) (a : Trace) (e : ℕ) → EndIn k (w.origin + w.size) a e → EndBelow w (array (entered_at path w) ∷ a) e
    end_entered path a e (of_window z) = array_below (first (sym z))
    end_entered path a e (of_array h) = array_below (later h)
    end_entered path a e (of_payload leafless h) = payload_below leafless h

  pieces : Pieces divides
  pieces =
      record {
        join = λ w path p q r a b g h. join (w.origin + w.size) (w.origin + p) (w.origin + q) (w.origin + r) a b g h;
        halt = λ w path place p q a b g h. join (w.origin + w.size) (w.origin + p) (w.origin + q) (w.origin + w.size) a b g h;
        leave = λ w path place p a h. h;
        read = λ w path x p q r. reads _ w x p q (w.origin + q) [] r (nothing_more refl);
        field = λ w path x y n p q r a says s t fit h.
            let o = w.origin in
            let E = EndIn k (o + w.size) (number x ∷ number y ∷ a) in
            reads E w x p q (o + (r + y.value)) (number y ∷ a) s
            (reads E w y q r (o + (r + y.value)) a t
            (at E (o + r) (o + r + y.value) (o + r) (o + (r + y.value)) a refl (omega arith) (widen (end_around w x y q r a t) h)));
        empty = λ h w e. let f : w.origin ≡ w.origin + w.size = omega arith in nothing_more f;
        ended = λ w path place p e. ends_early (there w p e);
        failed = λ w path place p h. unread w p h (λ e z. of_window z);
        limited = λ w path place p e. meets_limit (there w p e);
        left = λ w path p h. left_at_root (to_end w p h);
        silent = λ w path e. there w 0 (sym e);
      }

  -- an element is entered behind its index number
  enter : (w : Window) (x : Number) (p q : ℕ) (path : List ℕ) (a : Trace) → Read w x p q
      → Divides k (EndIn k (w.origin + w.size) a) (w.origin + q) a (w.origin + w.size)
      → Divides k (EndIn k (w.origin + w.size) (number x ∷ element path ∷ a)) (w.origin + p) (number x ∷ element path ∷ a) (w.origin + w.size)
  enter w x p q path a r h =
      reads (EndIn k (w.origin + w.size) (number x ∷ element path ∷ a)) w x p q (w.origin + w.size) (element path ∷ a) r
      (enters_element (widen (end_behind (w.origin + w.size) (number x ∷ element path ∷ []) a) h))

  struct_pieces : (t : Tables) → StructPieces t (anywhere t) divides
  struct_pieces t =
      record {
        enter = λ w x i p q d path a r low at h. enter w x p q (at_index path i) a r h;
        kept = λ w p d path place fit pos lt here. meets_limit (takes_leaf {x = raw_leaf w place p} refl (to_end w p (omega arith)));
        deep = λ w lvl h path fit some here low. meets_limit (takes_leaf refl (nothing_more refl));
        leaf = λ w d lvl h path fit here low. takes_leaf refl (nothing_more refl);
        child = λ w d lvl h path a some here low g. enters_array (first_bit w a (widen (end_entered w (array_path t lvl path h) a) g));
        left = λ w path p h. steps_past (to_end w p h);
      }

  object_pieces : (Leafy k → ⊥) → ObjectPieces divides
  object_pieces leafless =
      record {
        enter = λ w x p q a r h. enter w x p q [] a r h;
        guid = λ h w x i r. first_bit w _ (reads _ w x 0 w.size (w.origin + w.size) _ r (gives_pair (nothing_more refl)));
        longer = λ h w x q r. first_bit w _ (reads _ w x 0 q (w.origin + w.size) _ r (unread w q r.fits (λ e z. own leafless z)));
        unread = λ h w some. first_bit w _ (unread w 0 (omega arith) (λ e z. own leafless z));
        passed = λ h w some. steps_past (nothing_more refl);
        skipped = λ w place p h.
            let e : w.origin + p + (w.size - p) ≡ w.origin + w.size = omega arith in
            skips_tail (w.size - p) leafless (of_window e) (to_end w p h);
      }

kind_pieces : (k : Walker) → KindPieces k (anywhere (tables_of k)) (divides k)
kind_pieces (walker how.Struct t lvl) = struct_pieces (walker how.Struct t lvl) t
kind_pieces (walker how.Exact t lvl) = struct_pieces (walker how.Exact t lvl) t
kind_pieces (walker how.Object t lvl) = object_pieces (walker how.Object t lvl) (λ leafy. never cc)

-- The events of a walk take the bits of its window, from the first to the last.
pub walk_divided : (k : Walker) (bytes : List ℕ) (n : ℕ) → Divided k n (walk k bytes n)
walk_divided k bytes n =
    at k (EndIn k n (walk k bytes n)) (0 + 0) (0 + n) 0 n (walk k bytes n) (omega arith) (omega arith)
    (widen k (λ e. from_zero e)
    (walk_holds (divides k) (pieces k) k (anywhere (tables_of k)) (kind_pieces k) bytes n tt))
  where
    from_zero : (e : ℕ) → EndIn k (0 + n) (walk k bytes n) e → EndIn k n (walk k bytes n) e
    from_zero e h = subst (λ (m : ℕ). EndIn k m (walk k bytes n) e) (omega arith) h
