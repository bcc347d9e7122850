-- Where leaves and arrays lie: a payload's window starts behind the number that gives its width, and a kept tail runs from the bit that was reached
-- to the end of the window that is walked. A piece of a level is placed in every trace that it stands in, and a level's end in every trace in which
-- the level was read up to there: so pieces join.
use Prim.Native.Nat.{ℕ, zero, suc, ◌+◌, ◌*◌, ◌≤◌, ◌<◌}
use mathlib.Core.Path.{◌≡◌, refl, sym, ap, ◌∙◌, subst}
use mathlib.Core.List.{List, [], ◌∷◌, ◌++◌, append_assoc, append-nil}
use native.Mathlib.Omega.{arith}
use Rattle.bits.specs.Members.{All, Any, first, later}
use Rattle.bits.specs.Packed.{Number}
use Rattle.bits.proofs.MemberLaws.{all_append, all_map, any_before, any_behind}
use Rattle.bits.proofs.Never.{never}
use Rattle.bits.specs.Sizes.{max_elements}
use Rattle.schema.specs.Tables.{Tables}
use Rattle.schema.specs.Labels.{at_index}
use Rattle.framing.specs.Windows.{Window, window_of, part}
use Rattle.framing.specs.Events.{Leaf, Entered, raw_handle, Event, number, element, array, leaf, pair, truncation, error, implicit, nested, root, leaves, taken, arrays, Trace}
use Rattle.framing.specs.Places.{root_array, Range, range, ranges, Between, ReadUpTo, FieldIn, Since, whole_walk, entered, KeptUnder, array_itself, in_element, TailIn, LeafPlaced, ArrayPlaced, NumberIn, Placed}
use Rattle.framing.specs.Walk.{raw_leaf}
use Rattle.framing.specs.declared.Walk.TheVariants as how
use Rattle.framing.specs.Sinks.{leaf_of, entered_at, Walker, walker, Leafy, walk}
use Rattle.framing.proofs.TraceLaws.{leaves_append, arrays_append, ranges_append}
use Rattle.framing.proofs.Induct.{Read}
use Rattle.framing.proofs.NumbersTaken.{walk_numbers}
use Rattle.framing.proofs.Lift.{anywhere, Property, Pieces, StructPieces, walk_holds}

-- ---- what was read

wider : (o p q r : ℕ) → o ≤ p → q ≤ r → (l : List Range) → All (Between p q) l → All (Between o r) l
wider o p q r low high =
    all_map (Between p q) (Between o r) (λ s h. let a = h.starts in let b = h.ends in record { starts = omega arith; ends = omega arith })

abbrev EndsAt : ℕ → Range → Type 0
EndsAt q s = s.start + s.width ≡ q

rises : (p q : ℕ) (l : List Range) → All (Between p q) l → Any (EndsAt q) l → p ≤ q
rises p q [] h k = elim k [ ]
rises p q (s ∷ l) h (first e) = let a = h.0.starts in omega arith
rises p q (s ∷ l) h (later k) = rises p q l h.1 k

read_rises : (p q : ℕ) (t : Trace) → ReadUpTo p q t → p ≤ q
read_rises p q t h = rises p q (ranges t) h.inside h.reached

-- two stretches of one level
inside_both : (o p q : ℕ) (a b : Trace) → o ≤ p → p ≤ q → All (Between o p) (ranges a) → All (Between p q) (ranges b)
    → All (Between o q) (ranges (a ++ b))
inside_both o p q a b low high f g =
    subst (All (Between o q)) (sym (ranges_append a b))
    (all_append (Between o q) (ranges a) (ranges b) (wider o o p q (omega arith) high (ranges a) f) (wider o p q q low (omega arith) (ranges b) g))

read_both : (o p q : ℕ) (a b : Trace) → ReadUpTo o p a → ReadUpTo p q b → ReadUpTo o q (a ++ b)
read_both o p q a b f g =
    record {
      inside = inside_both o p q a b (read_rises o p a f) (read_rises p q b g) f.inside g.inside;
      reached = subst (Any (EndsAt q)) (sym (ranges_append a b)) (any_behind (EndsAt q) (ranges a) (ranges b) g.reached);
    }

-- and what speaks of no bits behind it
read_more : (p q : ℕ) (t u : Trace) → ranges u ≡ [] → ReadUpTo p q t → ReadUpTo p q (t ++ u)
read_more p q t u e h =
    let none : All (Between p q) (ranges u) = subst (All (Between p q)) (sym e) tt in
    record {
      inside = subst (All (Between p q)) (sym (ranges_append t u)) (all_append (Between p q) (ranges t) (ranges u) h.inside none);
      reached = subst (Any (EndsAt q)) (sym (ranges_append t u)) (any_before (EndsAt q) (ranges t) (ranges u) h.reached);
    }

-- ---- the leaves and arrays of a, in a trace t of a walk of e

record Put (e : Entered) (t a : Trace) : Type 0 where
  leaves : All (LeafPlaced e t) (leaves a)
  arrays : All (ArrayPlaced t) (arrays a)

put_none : (e : Entered) (t a : Trace) → leaves a ≡ [] → arrays a ≡ [] → Put e t a
put_none e t a no-leaf no-array =
    record { leaves = subst (All (LeafPlaced e t)) (sym no-leaf) tt; arrays = subst (All (ArrayPlaced t)) (sym no-array) tt }

put_both : (e : Entered) (t a b : Trace) → Put e t a → Put e t b → Put e t (a ++ b)
put_both e t a b f g =
    record {
      leaves = subst (All (LeafPlaced e t)) (sym (leaves_append a b)) (all_append (LeafPlaced e t) (leaves a) (leaves b) f.leaves g.leaves);
      arrays = subst (All (ArrayPlaced t)) (sym (arrays_append a b)) (all_append (ArrayPlaced t) (arrays a) (arrays b) f.arrays g.arrays);
    }

-- ---- pieces of a level

-- a piece from bit p to bit q of the root window
record Piece (p q : ℕ) (a : Trace) : Type 0 where
  read : ReadUpTo p q a
  put : (e : Entered) (t b c : Trace) → t ≡ b ++ (a ++ c) → Put e t a

-- s is what a level has given up to bit p of its window
data SoFar (w : Window) (p : ℕ) (s : Trace) : Type 0 where
  nothing : p ≡ 0 → s ≡ [] → SoFar w p s
  something : ReadUpTo w.origin (w.origin + p) s → SoFar w p s

-- the end of a level, from bit p of its window on; a tail is kept under that place
record Ending (w : Window) (path place : List ℕ) (p : ℕ) (a : Trace) : Type 0 where
  fits : p ≤ w.size
  inside : All (Between (w.origin + p) (w.origin + w.size)) (ranges a)
  put : (e : Entered) (t s c : Trace) → Since e t (entered_at path w) (s ++ (a ++ c)) → SoFar w p s → KeptUnder path s place → Put e t a

-- a field's two numbers, right before its payload
record Headed (handle : ℕ) (w : Window) (x y : Number) : Type 0 where
  says_handle : x.value ≡ suc handle
  says_width : y.value ≡ w.size
  behind_handle : y.start ≡ x.start + 8 * x.bytes
  behind_width : w.origin ≡ y.start + 8 * y.bytes

headed_field : {t : Trace} {e : Event} {h : ℕ} {w : Window} (before between after : Trace) (x y : Number) → Headed h w x y → ranges between ≡ []
    → t ≡ before ++ (number x ∷ number y ∷ between ++ (e ∷ after)) → FieldIn t e h w.origin w.size
headed_field before between after x y heads none whole =
    record {
      before = before;
      handled = x;
      wide = y;
      between = between;
      after = after;
      whole = whole;
      nothing_between = none;
      says_handle = heads.says_handle;
      says_width = heads.says_width;
      behind_handle = heads.behind_handle;
      behind_width = heads.behind_width;
    }

-- what a payload gave
record Given (handle : ℕ) (w : Window) (a : Trace) : Type 0 where
  inside : All (Between w.origin (w.origin + w.size)) (ranges a)
  reached : 0 < w.size → Any (EndsAt (w.origin + w.size)) (ranges a)
  put : (e : Entered) (t b c : Trace) (x y : Number) → Headed handle w x y → t ≡ b ++ (number x ∷ number y ∷ a ++ c) → Put e t a

abbrev placed : Property
placed =
    record {
      Good = λ w path p q a. Piece (w.origin + p) (w.origin + q) a;
      Stop = λ w path place p a. Ending w path place p a;
      Gave = λ h w a. Given h w a;
    }

-- ---- where pieces join

join_pieces : (o p q : ℕ) (a b : Trace) → Piece o p a → Piece p q b → Piece o q (a ++ b)
join_pieces o p q a b f g =
    record {
      read = read_both o p q a b f.read g.read;
      put = λ e t before c whole.
          put_both e t a b
          (f.put e t before (b ++ c) (whole ∙ ap (λ r. before ++ r) (append_assoc a b c)))
          (g.put e t (before ++ a) c
          (whole ∙ ap (λ r. before ++ r) (append_assoc a b c) ∙ sym (append_assoc before a (b ++ c))));
    }

so_far : (w : Window) (p q : ℕ) (s a : Trace) → SoFar w p s → ReadUpTo (w.origin + p) (w.origin + q) a → SoFar w q (s ++ a)
so_far w p q s a (nothing z e) h =
    let o : w.origin + p ≡ w.origin = omega arith in
    something (subst (λ n. ReadUpTo n (w.origin + q) (s ++ a)) o (subst (λ r. ReadUpTo (w.origin + p) (w.origin + q) (r ++ a)) (sym e) h))
so_far w p q s a (something g) h = something (read_both w.origin (w.origin + p) (w.origin + q) s a g h)

-- what was given since an array was entered ends the trace
record Splits (t u : Trace) : Type 0 where
  before : Trace
  whole : t ≡ before ++ u

since_splits : (e : Entered) (t : Trace) (a : Entered) (u : Trace) → Since e t a u → Splits t u
since_splits e t a u (whole_walk h) = record { before = []; whole = h }
since_splits e t a u (entered b h) =
    record { before = b ++ (array a ∷ []); whole = h ∙ sym (append_assoc b (array a ∷ []) u) }

under_more : (path place : List ℕ) (s a : Trace) → KeptUnder path s place → KeptUnder path (s ++ a) place
under_more path place s a array_itself = array_itself
under_more path place s a (in_element {i = i} low h) = in_element low (any_before (λ e. e ≡ element (at_index path i)) s a h)

halt_piece : (w : Window) (path place : List ℕ) (p q : ℕ) (a b : Trace) → Piece (w.origin + p) (w.origin + q) a → Ending w path place q b
    → Ending w path place p (a ++ b)
halt_piece w path place p q a b f g =
    let rise = read_rises (w.origin + p) (w.origin + q) a f.read in
    let fits = g.fits in
    record {
      fits = omega arith;
      inside = inside_both (w.origin + p) (w.origin + q) (w.origin + w.size) a b rise (omega arith) f.read.inside g.inside;
      put = λ e t s c since seen under.
          let split = since_splits e t (entered_at path w) (s ++ ((a ++ b) ++ c)) since in
          let shift : s ++ ((a ++ b) ++ c) ≡ s ++ (a ++ (b ++ c)) = ap (λ r. s ++ r) (append_assoc a b c) in
          put_both e t a b
          (f.put e t (split.before ++ s) (b ++ c)
          (split.whole ∙ ap (λ r. split.before ++ r) shift ∙ sym (append_assoc split.before s (a ++ (b ++ c)))))
          (g.put e t (s ++ a) c (subst (Since e t (entered_at path w)) (shift ∙ sym (append_assoc s a (b ++ c))) since)
          (so_far w p q s a seen f.read) (under_more path place s a under));
    }

-- ---- the pieces

-- a number that was taken between bits o and s of the window
number_lies : (w : Window) (x : Number) (o p q s : ℕ) → o ≤ p → q ≤ s → Read w x p q
    → Between (w.origin + o) (w.origin + s) (range x.start (8 * x.bytes))
number_lies w x o p q s low high t = let a = t.starts in let b = t.runs in record { starts = omega arith; ends = omega arith }

number_ends : (w : Window) (x : Number) (p q r : ℕ) → q ≡ r → Read w x p q → EndsAt (w.origin + r) (range x.start (8 * x.bytes))
number_ends w x p q r e t = let a = t.starts in let b = t.runs in omega arith

-- a number as a piece, with nothing behind it that lies anywhere
number_piece : (w : Window) (x : Number) (p q : ℕ) (a : Trace) → ranges a ≡ [] → leaves a ≡ [] → arrays a ≡ [] → Read w x p q
    → Piece (w.origin + p) (w.origin + q) (number x ∷ a)
number_piece w x p q a none no-leaf no-array t =
    record {
      read = record {
        inside = (number_lies w x p p q q (omega arith) (omega arith) t, subst (All (Between (w.origin + p) (w.origin + q))) (sym none) tt);
        reached = first (number_ends w x p q q refl t);
      };
      put = λ e t b c whole.
          put_none e t (number x ∷ a) no-leaf no-array;
    }

-- a field: its numbers and what its payload gave
module _ (w : Window) (x y : Number) (h p q r : ℕ) (a : Trace) (says : x.value ≡ suc h) (s : Read w x p q) (t : Read w y q r)
    (g : Given h (part w r y.value) a) where
  field_reached : (n : ℕ) → y.value ≡ n → Any (EndsAt (w.origin + (r + y.value))) (ranges (number x ∷ number y ∷ a))
  field_reached zero e = later (first (number_ends w y q r (r + y.value) (omega arith) t))
  field_reached (suc n) e =
      let same : w.origin + r + y.value ≡ w.origin + (r + y.value) = omega arith in
      later (later (subst (λ o. Any (EndsAt o) (ranges a)) same (g.reached (omega arith))))

  field_piece : Piece (w.origin + p) (w.origin + (r + y.value)) (number x ∷ number y ∷ a)
  field_piece =
      let b = s.starts in
      let c = s.runs in
      let d = t.starts in
      let e = t.runs in
      let end = w.origin + (r + y.value) in
      let heads : Headed h (part w r y.value) x y
      = record { says_handle = says; says_width = refl; behind_handle = omega arith; behind_width = omega arith } in
      record {
        read = record {
          inside = (
            number_lies w x p p q (r + y.value) (omega arith) (omega arith) s,
            (
              number_lies w y p q r (r + y.value) (omega arith) (omega arith) t,
              wider (w.origin + p) (w.origin + r) (w.origin + r + y.value) end (omega arith) (omega arith) (ranges a) g.inside,
            ),
          );
          reached = field_reached y.value refl;
        };
        put = λ e u b c whole. let k = g.put e u b c x y heads whole in record { leaves = k.leaves; arrays = k.arrays };
      }

-- an event that lies nowhere ends the level, or nothing does
ending : (w : Window) (path place : List ℕ) (p : ℕ) (a : Trace) → ranges a ≡ [] → leaves a ≡ [] → arrays a ≡ [] → p ≤ w.size
    → Ending w path place p a
ending w path place p a none no-leaf no-array fits =
    record {
      fits = fits;
      inside = subst (All (Between (w.origin + p) (w.origin + w.size))) (sym none) tt;
      put = λ e t s c since seen under.
          put_none e t a no-leaf no-array;
    }

pieces : Pieces placed
pieces =
    record {
      join = λ w path p q r a b f g. join_pieces (w.origin + p) (w.origin + q) (w.origin + r) a b f g;
      halt = λ w path place p q a b f g. halt_piece w path place p q a b f g;
      leave = λ w path place p a h.
          record { fits = h.fits; inside = h.inside; put = λ e t s c since seen under. h.put e t s c since seen array_itself };
      read = λ w path x p q r. number_piece w x p q [] refl refl refl r;
      field = λ w path x y h p q r a says s t fit g. field_piece w x y h p q r a says s t g;
      empty = λ h w z.
          record { inside = tt; reached = λ some. absurd (omega arith); put = λ e t b c x y heads whole. record { leaves = tt; arrays = tt } };
      ended = λ w path place p e. ending w path place p _ refl refl refl (omega arith);
      failed = λ w path place p h. ending w path place p _ refl refl refl h;
      limited = λ w path place p e. ending w path place p _ refl refl refl (omega arith);
      left = λ w path p h. ending w path path p _ refl refl refl h;
      silent = λ w path e. ending w path path 0 _ refl refl refl (omega arith);
    }

-- ---- what lies somewhere

-- a payload that is one leaf, behind nothing or a truncation
given_leaf : (h : ℕ) (w : Window) (path : List ℕ) (a : Trace) → h < raw_handle → ranges a ≡ [] → leaves a ≡ [] → arrays a ≡ []
    → Given h w (a ++ (leaf (leaf_of path h w) ∷ []))
given_leaf h w path a low none no-leaf no-array =
    let x = leaf_of path h w in
    let one : range w.origin w.size ∷ [] ≡ ranges (a ++ (leaf x ∷ []))
    = sym (ranges_append a (leaf x ∷ []) ∙ ap (λ l. l ++ ranges (leaf x ∷ [])) none) in
    record {
      inside = subst (All (Between w.origin (w.origin + w.size))) one (record { starts = omega arith; ends = omega arith }, tt);
      reached = λ some. subst (Any (EndsAt (w.origin + w.size))) one (first refl);
      put = λ e t b c n y heads whole.
          let field : FieldIn t (leaf x) h w.origin w.size
          = headed_field b a c n y heads none (whole ∙ ap (λ r. b ++ (number n ∷ number y ∷ r)) (append_assoc a (leaf x ∷ []) c)) in
          put_both e t a (leaf x ∷ [])
          (put_none e t a no-leaf no-array)
          (record { leaves = (record { tail = λ raw. absurd (omega (arith, low, raw)); field = λ other. field }, tt); arrays = tt });
    }

-- an array that was entered, and what its walk gave
given_child : (h : ℕ) (w : Window) (path : List ℕ) (a : Trace) → 0 < w.size → Ending w path path 0 a → Given h w (array (entered_at path w) ∷ a)
given_child h w path a some g =
    record {
      inside = (
        record { starts = omega arith; ends = omega arith },
        wider w.origin (w.origin + 0) (w.origin + w.size) (w.origin + w.size) (omega arith) (omega arith) (ranges a) g.inside,
      );
      reached = λ some. first refl;
      put = λ e t b c x y heads whole.
          let field : FieldIn t (array (entered_at path w)) h w.origin w.size
          = headed_field b [] (a ++ c) x y heads refl whole in
          let since : Since e t (entered_at path w) ([] ++ (a ++ c))
          = entered (b ++ (number x ∷ number y ∷ [])) (whole ∙ sym (append_assoc b (number x ∷ number y ∷ []) (array (entered_at path w) ∷ a ++ c))) in
          let k = g.put e t [] c since (nothing refl refl) array_itself in
          record { leaves = k.leaves; arrays = (record { handle = h; field = field; some = some }, k.arrays) };
    }

-- a tail that is kept
kept_ends : (w : Window) (p : ℕ) (path under : List ℕ) → 0 < p → p < w.size → Ending w path under p (truncation ∷ leaf (raw_leaf w under p) ∷ [])
kept_ends w p path under pos lt =
    record {
      fits = omega arith;
      inside = (record { starts = omega arith; ends = omega arith }, tt);
      put = λ e t s c since seen at.
          record { leaves = (record { tail = λ raw. tail e t s c since seen at; field = λ other. absurd (other refl) }, tt); arrays = tt };
    }
  where
    so_read : (s : Trace) → SoFar w p s → ReadUpTo w.origin (w.origin + p) s
    so_read s (nothing z e) = absurd (omega arith)
    so_read s (something h) = h

    tail : (e : Entered) (t s c : Trace) → Since e t (entered_at path w) (s ++ (truncation ∷ leaf (raw_leaf w under p) ∷ c)) → SoFar w p s
        → KeptUnder path s under → TailIn e t (raw_leaf w under p)
    tail e t s c since seen at =
        record {
          of = entered_at path w;
          read = s ++ (truncation ∷ []);
          after = c;
          since = subst (Since e t (entered_at path w)) (sym (append_assoc s (truncation ∷ []) (leaf (raw_leaf w under p) ∷ c))) since;
          starts = read_more w.origin (w.origin + p) s (truncation ∷ []) refl (so_read s seen);
          ends = omega arith;
          some = omega arith;
          under = under;
          kept_under = under_more path under s (truncation ∷ []) at;
          named = refl;
        }

-- an element is entered: the walk goes on behind its index number, and a tail may be kept under its path
enter_element : (w : Window) (x : Number) (i p q : ℕ) (path : List ℕ) (a : Trace) → Read w x p q → i < max_elements → Ending w path (at_index path i) q a
    → Ending w path path p (number x ∷ element (at_index path i) ∷ a)
enter_element w x i p q path a r low h =
    let b = number x ∷ element (at_index path i) ∷ [] in
    let piece : Piece (w.origin + p) (w.origin + q) b = number_piece w x p q (element (at_index path i) ∷ []) refl refl refl r in
    let all = halt_piece w path (at_index path i) p q b a piece h in
    record {
      fits = all.fits;
      inside = all.inside;
      put = λ e t s c since seen under.
          let shift = append_assoc s b (a ++ c) in
          let k = h.put e t (s ++ b) c (subst (Since e t (entered_at path w)) (sym shift) since) (so_far w p q s b seen piece.read)
          (in_element low (any_behind (λ f. f ≡ element (at_index path i)) s b (later (first refl)))) in
          record { leaves = k.leaves; arrays = k.arrays };
    }

struct_pieces : (t : Tables) → StructPieces t (anywhere t) placed
struct_pieces t =
    record {
      enter = λ w x i p q d path a r low at h. enter_element w x i p q path a r low h;
      kept = λ w p d path under fit pos lt here. kept_ends w p path under pos lt;
      deep = λ w lvl h path fit some here low. given_leaf h w _ (truncation ∷ []) low refl refl refl;
      leaf = λ w d lvl h path fit here low. given_leaf h w _ [] low refl refl refl;
      child = λ w d lvl h path a some here low g. given_child h w _ a some g;
      left = λ w path p h. ending w path path p _ refl refl refl h;
    }

-- the level's end is placed in its own trace
root_placed : (bytes : List ℕ) (n : ℕ) (t : Trace) → All (NumberIn (window_of bytes n)) (taken t) → Ending (window_of bytes n) [] [] 0 t
    → Placed (window_of bytes n) t
root_placed bytes n t numbers h =
    let k = h.put (root_array n) t [] [] (whole_walk (sym (append-nil t))) (nothing refl refl) array_itself in
    record {
      numbers = numbers;
      inside = wider 0 (0 + 0) (0 + n) (0 + n) (omega arith) (omega arith) (ranges t) h.inside;
      leaves = k.leaves;
      arrays = k.arrays;
    }

-- All leaves of a struct or exact walk lie where they are said to, and all arrays that it enters.
pub walk_placed : (k : Walker) → Leafy k → (bytes : List ℕ) (n : ℕ) → Placed (window_of bytes n) (walk k bytes n)
walk_placed (walker how.Struct t lvl) leafy bytes n =
    root_placed bytes n _ (walk_numbers (walker how.Struct t lvl) bytes n)
    (walk_holds placed pieces (walker how.Struct t lvl) (anywhere t) (struct_pieces t) bytes n tt)
walk_placed (walker how.Exact t lvl) leafy bytes n =
    root_placed bytes n _ (walk_numbers (walker how.Exact t lvl) bytes n)
    (walk_holds placed pieces (walker how.Exact t lvl) (anywhere t) (struct_pieces t) bytes n tt)
walk_placed (walker how.Object t lvl) leafy bytes n = never cc

-- What holds of all bits that a trace speaks of holds of its leaves.
pub leaves_among : (ok : Range → Type 0) (t : Trace) → All ok (ranges t) → All (λ (x : Leaf). ok (range x.start x.width)) (leaves t)
leaves_among ok [] h = tt
leaves_among ok (leaf x ∷ t) h = (h.0, leaves_among ok t h.1)
leaves_among ok (number x ∷ t) h = leaves_among ok t h.1
leaves_among ok (array a ∷ t) h = leaves_among ok t h.1
leaves_among ok (element p ∷ t) h = leaves_among ok t h
leaves_among ok (pair x ∷ t) h = leaves_among ok t h
leaves_among ok (truncation ∷ t) h = leaves_among ok t h
leaves_among ok (error ∷ t) h = leaves_among ok t h
leaves_among ok (implicit ∷ t) h = leaves_among ok t h
leaves_among ok (nested n ∷ t) h = leaves_among ok t h
leaves_among ok (root n ∷ t) h = leaves_among ok t h
