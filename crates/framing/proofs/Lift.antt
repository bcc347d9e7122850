-- From a level to a walk. What holds of the pieces of which struct, exact and object walks are made, and is kept where pieces join, holds of every
-- walk: by the scheme of a level (Induct), and by induction over the levels that may stand below one.
use Rattle.std.specs.Prelude.{Option, Some, None}
use Prim.Native.Nat.{ℕ, zero, suc, ◌+◌, ◌-◌, ◌*◌, ◌≤◌, ◌<◌}
use mathlib.Core.Path.{◌≡◌, refl}
use mathlib.Core.Bool.{Bool, true, false}
use mathlib.Core.List.{List, [], ◌∷◌, ◌++◌}
use native.Mathlib.Omega.{arith}
use lib.ListN.{length}
use lib.Dec.{ltb, eqb}
use borrow.Author.Tests.{ltb-true, ltb-false, eqb-true, eqb-false}
use Rattle.bits.specs.Packed.{Number}
use Rattle.bits.specs.Sizes.{levels_below, max_elements}
use Rattle.schema.specs.Tables.{Tables, child}
use Rattle.schema.specs.Labels.{at_index}
use Rattle.framing.specs.Windows.{Window, window_of, part, Reading, got, reading}
use Rattle.framing.specs.Events.{raw_handle, Event, number, element, array, leaf, pair, truncation, error, implicit, nested, root, Trace}
use Rattle.framing.specs.Paths.{leaf_path, array_path}
use Rattle.framing.specs.Walk.{number_at, raw_leaf, tail, in_item, level}
use Rattle.framing.specs.declared.Walk.TheVariants as how
use Rattle.framing.specs.Sinks.{leaf_of, on_child, struct_sink_over, too_deep, entered_at, struct_sink, guid_of, object_field_lem, object_sink, Walker, walker, sink_of, silent, walk_window, walk}
use Rattle.framing.proofs.VerdictLaws.{silent_none}
use Rattle.framing.proofs.Induct.{Inside, inside, nothing, reading_inside, Read, Here, at_level, at_item, level_holds}

-- ---- what a property may lean on

-- What is known of each window that is walked (`Fit`), of the path of a level that may have `deeper` levels below it, and of the path in an element
-- of it; and that it stays known: of a payload, at the root, of a level's path where a tail is kept, in an element, in an array below.
pub record Known (t : Tables) : Type 1 where
  pub Fit : Window → Type 0
  pub AtLevel : (deeper : ℕ) (path : List ℕ) → Type 0
  pub InElement : (deeper : ℕ) (path : List ℕ) → Type 0
  pub payload : (w : Window) (p k : ℕ) → Fit w → p + k ≤ w.size → Fit (part w p k)
  pub first : AtLevel levels_below []
  pub level : (deeper : ℕ) (path : List ℕ) → AtLevel deeper path → InElement deeper path
  pub element : (deeper : ℕ) (path : List ℕ) (i : ℕ) → AtLevel deeper path → i < max_elements → InElement deeper (at_index path i)
  pub below : (deeper lvl h : ℕ) (path : List ℕ) → InElement (suc deeper) path → h < raw_handle → AtLevel deeper (array_path t lvl path h)

-- something of windows, nothing of paths
abbrev pub of_windows : (Fit : Window → Type 0) → ((w : Window) (p k : ℕ) → Fit w → p + k ≤ w.size → Fit (part w p k)) → (t : Tables) → Known t
of_windows Fit payload t =
    record {
      Fit = Fit;
      AtLevel = λ d path. Unit;
      InElement = λ d path. Unit;
      payload = payload;
      first = tt;
      level = λ d path h. tt;
      element = λ d path i h low. tt;
      below = λ d lvl h path here low. tt;
    }

-- nothing of either
abbrev pub anywhere : (t : Tables) → Known t
anywhere t = of_windows (λ w. Unit) (λ w p k h fit. tt) t

-- ---- a property of traces, by where in a window they stand

-- Good w path p q a: at the level of that path, a takes the walk of w from bit p to bit q. Stop w path place p a: from bit p, a ends the level, and a
-- tail is kept at that place (the level's path or that of an element) unless a leaves it before. Gave h w a: a is what the payload w of a field with
-- the handle h gave.
pub record Property : Type 1 where
  pub Good : Window → (path : List ℕ) (p q : ℕ) → Trace → Type 0
  pub Stop : Window → (path place : List ℕ) (p : ℕ) → Trace → Type 0
  pub Gave : (handle : ℕ) → Window → Trace → Type 0

-- What is asked of it in every walk: to hold where pieces join, and in an element of what ends the level behind it; of a number that was taken, of a
-- field's two numbers and what its payload gave, of a payload without bits, of each way in which a level ends, and of a window that is not walked.
pub record Pieces (P : Property) : Type 0 where
  pub join : (w : Window) (path : List ℕ) (p q r : ℕ) (a b : Trace) → P.Good w path p q a → P.Good w path q r b → P.Good w path p r (a ++ b)
  pub halt : (w : Window) (path place : List ℕ) (p q : ℕ) (a b : Trace) → P.Good w path p q a → P.Stop w path place q b
      → P.Stop w path place p (a ++ b)
  pub leave : (w : Window) (path place : List ℕ) (p : ℕ) (a : Trace) → P.Stop w path path p a → P.Stop w path place p a
  pub read : (w : Window) (path : List ℕ) (x : Number) (p q : ℕ) → Read w x p q → P.Good w path p q (number x ∷ [])
  pub field : (w : Window) (path : List ℕ) (x y : Number) (h p q r : ℕ) (a : Trace) → x.value ≡ suc h → Read w x p q → Read w y q r
      → r + y.value ≤ w.size → P.Gave h (part w r y.value) a → P.Good w path p (r + y.value) (number x ∷ number y ∷ a)
  pub empty : (h : ℕ) (w : Window) → w.size ≡ 0 → P.Gave h w []  -- an array without payload; in an object walk any field without
  pub ended : (w : Window) (path place : List ℕ) (p : ℕ) → p ≡ w.size → P.Stop w path place p (implicit ∷ [])
  pub failed : (w : Window) (path place : List ℕ) (p : ℕ) → p ≤ w.size → P.Stop w path place p (error ∷ [])
  pub limited : (w : Window) (path place : List ℕ) (p : ℕ) → p ≡ w.size → P.Stop w path place p (truncation ∷ [])  -- with nothing left to keep
  pub left : (w : Window) (path : List ℕ) (p : ℕ) → p ≤ w.size → P.Stop w path path p (root (w.size - p) ∷ [])
  pub silent : (w : Window) (path : List ℕ) → w.size ≡ 0 → P.Stop w path path 0 []

-- In struct and exact walks: an element is entered; a tail is kept; a field is an array too deep, a leaf, or a child; a child leaves bits.
-- `leaf` comes behind those that speak of the event of that name.
pub record StructPieces (t : Tables) (K : Known t) (P : Property) : Type 0 where
  pub enter : (w : Window) (x : Number) (i p q deeper : ℕ) (path : List ℕ) (a : Trace) → Read w x p q → i < max_elements → K.AtLevel deeper path
      → P.Stop w path (at_index path i) q a → P.Stop w path path p (number x ∷ element (at_index path i) ∷ a)
  pub kept : (w : Window) (p deeper : ℕ) (path place : List ℕ) → K.Fit w → 0 < p → p < w.size → K.InElement deeper place
      → P.Stop w path place p (truncation ∷ leaf (raw_leaf w place p) ∷ [])
  pub deep : (w : Window) (lvl h : ℕ) (path : List ℕ) → K.Fit w → 0 < w.size → K.InElement 0 path → h < raw_handle
      → P.Gave h w (truncation ∷ leaf (leaf_of (array_path t lvl path h) h w) ∷ [])
  pub leaf : (w : Window) (deeper lvl h : ℕ) (path : List ℕ) → K.Fit w → K.InElement deeper path → h < raw_handle
      → P.Gave h w (leaf (leaf_of (leaf_path t lvl path h) h w) ∷ [])
  pub child : (w : Window) (deeper lvl h : ℕ) (path : List ℕ) (a : Trace) → 0 < w.size → K.InElement (suc deeper) path → h < raw_handle
      → P.Stop w (array_path t lvl path h) (array_path t lvl path h) 0 a → P.Gave h w (array (entered_at (array_path t lvl path h) w) ∷ a)
  pub left : (w : Window) (path : List ℕ) (p : ℕ) → p ≤ w.size → P.Stop w path path p (nested (w.size - p) ∷ [])

-- In object walks: an element is entered; a field is an object's number, another number, none, or behind the first; a tail is skipped.
pub record ObjectPieces (P : Property) : Type 0 where
  pub enter : (w : Window) (x : Number) (p q : ℕ) (a : Trace) → Read w x p q → P.Stop w [] [] q a → P.Stop w [] [] p (number x ∷ element [] ∷ a)
  pub guid : (h : ℕ) (w : Window) (x : Number) (i : ℕ) → Read w x 0 w.size
      → P.Gave h w (number x ∷ pair (record { index = i; guid = x.value }) ∷ [])
  pub longer : (h : ℕ) (w : Window) (x : Number) (q : ℕ) → Read w x 0 q → P.Gave h w (number x ∷ error ∷ [])  -- bits are left behind the number
  pub unread : (h : ℕ) (w : Window) → 0 < w.size → P.Gave h w (error ∷ [])
  pub passed : (h : ℕ) (w : Window) → 0 < w.size → P.Gave h w (nested w.size ∷ [])
  pub skipped : (w : Window) (place : List ℕ) (p : ℕ) → p ≤ w.size → P.Stop w [] place p (truncation ∷ [])

-- ---- struct levels

module _ (t : Tables) (K : Known t) (P : Property) (𝓟 : Pieces P) (𝓢 : StructPieces t K P) where
  -- what walks an array inside a field of level lvl
  module _ (deeper lvl : ℕ) (into : (below : ℕ) (path : List ℕ) (handle : ℕ) → Window → Trace)
      (f : (below h : ℕ) (path : List ℕ) (w : Window) → K.Fit w → 0 < w.size → K.InElement deeper path → h < raw_handle
      → P.Gave h w (into below (array_path t lvl path h) h w))
      (trailer : Bool) (leftover : ℕ → Event)
      (rest : (w : Window) (path : List ℕ) (p : ℕ) → p ≤ w.size → P.Stop w path path p (leftover (w.size - p) ∷ [])) where
    child_holds : (path : List ℕ) (h : ℕ) (w : Window) → K.Fit w → K.InElement deeper path → h < raw_handle
        → (o : Option ℕ) → P.Gave h w (on_child t lvl into path h w o)
    child_holds path h w fit here low None = 𝓢.leaf w deeper lvl h path fit here low
    child_holds path h w fit here low (Some below) = go (eqb w.size 0) refl
      where
        go : (x : Bool) → eqb w.size 0 ≡ x → P.Gave h w (on_child t lvl into path h w (Some below))
        go true e = rw e (𝓟.empty h w (eqb-true w.size 0 e))
        go false e = let some = eqb-false w.size 0 e in rw e (f below h path w fit (omega arith) here low)

    module _ (w : Window) (path : List ℕ) (fit : K.Fit w) (at : K.AtLevel deeper path) where
      place_known : {place : List ℕ} → Here (struct_sink_over into t trailer leftover lvl) path place → K.InElement deeper place
      unfolding in_item
      place_known at_level = K.level deeper path at
      place_known (at_item {i = i} low) = K.element deeper path i at low

      tail_holds : (place : List ℕ) (p : ℕ) → K.InElement deeper place → 0 < p → p ≤ w.size
          → P.Stop w path place p (truncation ∷ tail (struct_sink_over into t trailer leftover lvl) w place p)
      unfolding tail
      tail_holds place p here pos h = go (ltb p w.size) refl
        where
          go : (x : Bool) → ltb p w.size ≡ x
              → P.Stop w path place p (truncation ∷ tail (struct_sink_over into t trailer leftover lvl) w place p)
          go true e = rw e (𝓢.kept w p deeper path place fit pos (ltb-true p w.size e) here)
          go false e = let all = ltb-false p w.size e in rw e (𝓟.limited w path place p (omega arith))

      over_holds : P.Stop w path path 0 (level (struct_sink_over into t trailer leftover lvl) w path)
      unfolding in_item
      over_holds =
          level_holds (struct_sink_over into t trailer leftover lvl) w path (λ p q a. P.Good w path p q a) (λ place p a. P.Stop w path place p a)
          (record {
            join = λ {p} {q} {r} {t = a} {u = b} g h. 𝓟.join w path p q r a b g h;
            halt = λ {place} {p} {q} {t = a} {u = b} g h. 𝓟.halt w path place p q a b g h;
            read = λ {x} {p} {q} r. 𝓟.read w path x p q r;
            enter = λ {x} {i} {p} {q} {t = a} r low h. 𝓢.enter w x i p q deeper path a r low at h;
            leave = λ {p} {place} {t = a} h. 𝓟.leave w path place p a h;
            given = λ {x} {y} {i} {h} {p} {q} {r} {first} low small says a b within.
                𝓟.field w path x y h p q r _ says a b within
                (child_holds (at_index path i) h (part w r y.value) (K.payload w r y.value fit within) (K.element deeper path i at low) small
                (child t.rows lvl h));
            ended = λ {p} {place} h k. 𝓟.ended w path place p (omega arith);
            failed = λ {p} {place} h. 𝓟.failed w path place p h;
            limited = λ {p} {place} pos h here. tail_holds place p (place_known here) pos h;
            left = λ {p} h. rest w path p h;
          })

  -- with so many levels allowed below
  pub struct_holds : (deeper lvl : ℕ) (trailer : Bool) (leftover : ℕ → Event)
      → ((w : Window) (path : List ℕ) (p : ℕ) → p ≤ w.size → P.Stop w path path p (leftover (w.size - p) ∷ []))
      → (w : Window) (path : List ℕ) → K.Fit w → K.AtLevel deeper path
      → P.Stop w path path 0 (level (struct_sink deeper t trailer leftover lvl) w path)
  unfolding struct_sink
  struct_holds zero lvl trailer leftover rest w path fit at =
      over_holds zero lvl too_deep (λ below h place v fit some here low. 𝓢.deep v lvl h place fit some here low) trailer leftover rest w path fit at
  struct_holds (suc deeper) lvl trailer leftover rest w path fit at =
      over_holds (suc deeper) lvl (λ below path h v. array (entered_at path v) ∷ level (struct_sink deeper t trailer nested below) v path)
      (λ below h place v fit some here low.
      𝓢.child v deeper lvl h place _ some here low
      (struct_holds deeper below trailer nested 𝓢.left v (array_path t lvl place h) fit (K.below deeper lvl h place here low)))
      trailer leftover rest w path fit at

-- ---- the object level

module _ (P : Property) (𝓟 : Pieces P) (𝓞 : ObjectPieces P) where
  guid_holds : (h i : ℕ) (w : Window) → 0 < w.size → {r : Reading} → reading w 0 ≡ r → Inside w.size 0 r → P.Gave h w (guid_of i w r)
  guid_holds h i w some is nothing = 𝓞.unread h w some
  guid_holds h i w some is (inside {v = v} {b = b} lies pos few) = go (eqb (8 * b) w.size) refl
    where
      took : (q : ℕ) → q ≡ 8 * b → Read w (number_at w 0 b v) 0 q
      took q e = record { starts = refl; runs = omega arith; some = pos; few = few; fits = omega arith; reads = is }

      go : (x : Bool) → eqb (8 * b) w.size ≡ x → P.Gave h w (guid_of i w (got v b))
      go true e = let fills = eqb-true (8 * b) w.size e in rw e (𝓞.guid h w (number_at w 0 b v) i (took w.size (omega arith)))
      go false e = rw e (𝓞.longer h w (number_at w 0 b v) (8 * b) (took (8 * b) refl))

  object_field_holds : (h i : ℕ) (first : Bool) (w : Window) → P.Gave h w (object_field_lem i first w)
  object_field_holds h i first w = go (eqb w.size 0) refl first
    where
      go : (x : Bool) → eqb w.size 0 ≡ x → (f : Bool) → P.Gave h w (object_field_lem i f w)
      go true e f = rw e (𝓟.empty h w (eqb-true w.size 0 e))
      go false e true = let some = eqb-false w.size 0 e in rw e (guid_holds h i w (omega arith) refl (reading_inside w 0))
      go false e false = let some = eqb-false w.size 0 e in rw e (𝓞.passed h w (omega arith))

  pub object_holds : (w : Window) → P.Stop w [] [] 0 (level object_sink w [])
  unfolding object_sink tail in_item
  object_holds w =
      level_holds object_sink w [] (λ p q a. P.Good w [] p q a) (λ place p a. P.Stop w [] place p a)
      (record {
        join = λ {p} {q} {r} {t = a} {u = b} g h. 𝓟.join w [] p q r a b g h;
        halt = λ {place} {p} {q} {t = a} {u = b} g h. 𝓟.halt w [] place p q a b g h;
        read = λ {x} {p} {q} r. 𝓟.read w [] x p q r;
        enter = λ {x} {i} {p} {q} {t = a} r low h. 𝓞.enter w x p q a r h;
        leave = λ {p} {place} {t = a} h. 𝓟.leave w [] place p a h;
        given = λ {x} {y} {i} {h} {p} {q} {r} {first} low small says a b within.
            𝓟.field w [] x y h p q r _ says a b within (object_field_holds h i first (part w r y.value));
        ended = λ {p} {place} h k. 𝓟.ended w [] place p (omega arith);
        failed = λ {p} {place} h. 𝓟.failed w [] place p h;
        limited = λ {p} {place} pos h here. 𝓞.skipped w place p h;
        left = λ {p} h. 𝓟.left w [] p h;
      })

-- ---- the three walks

abbrev pub tables_of : Walker → Tables
tables_of (walker k t lvl) = t

abbrev pub KindPieces : (k : Walker) → Known (tables_of k) → Property → Type 0
KindPieces (walker how.Struct t lvl) K P = StructPieces t K P
KindPieces (walker how.Exact t lvl) K P = StructPieces t K P
KindPieces (walker how.Object t lvl) K P = ObjectPieces P

module _ (P : Property) (𝓟 : Pieces P) where
  pub sink_holds : (k : Walker) (K : Known (tables_of k)) → KindPieces k K P → (w : Window) → K.Fit w → P.Stop w [] [] 0 (level (sink_of k) w [])
  unfolding sink_of
  sink_holds (walker how.Struct t lvl) K 𝓚 w fit = struct_holds t K P 𝓟 𝓚 _ lvl _ root 𝓟.left w [] fit K.first
  sink_holds (walker how.Exact t lvl) K 𝓚 w fit = struct_holds t K P 𝓟 𝓚 _ lvl _ root 𝓟.left w [] fit K.first
  sink_holds (walker how.Object t lvl) K 𝓚 w fit = object_holds P 𝓟 𝓚 w

  module _ (k : Walker) (K : Known (tables_of k)) (𝓚 : KindPieces k K P) where
    pub window_holds : (w : Window) → K.Fit w → P.Stop w [] [] 0 (walk_window k w)
    unfolding walk_window
    window_holds w fit = go (silent k w.size) refl
      where
        go : (x : Bool) → silent k w.size ≡ x → P.Stop w [] [] 0 (walk_window k w)
        go true e = rw e (𝓟.silent w [] (silent_none k w.size e).1)
        go false e = rw e (sink_holds k K 𝓚 w fit)

    pub walk_holds : (bytes : List ℕ) (n : ℕ) → K.Fit (window_of bytes n) → P.Stop (window_of bytes n) [] [] 0 (walk k bytes n)
    unfolding walk
    walk_holds bytes n fit = go (silent k n) (ltb (8 * length bytes) n) refl refl
      where
        go : (x y : Bool) → silent k n ≡ x → ltb (8 * length bytes) n ≡ y → P.Stop (window_of bytes n) [] [] 0 (walk k bytes n)
        go true y e f = rw e (𝓟.silent (window_of bytes n) [] (silent_none k n e).1)
        go false true e f = rw (e, f) (𝓟.failed (window_of bytes n) [] [] 0 (omega arith))
        go false false e f = rw (e, f) (window_holds (window_of bytes n) fit)
