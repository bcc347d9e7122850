-- Which events a walk of a kind may give. Each event is tested where it arises, so what holds of every such event holds of the walk.
use Prim.Native.Nat.{ℕ, ◌-◌, ◌^◌, ◌<◌}
use mathlib.Core.Path.{◌≡◌, refl}
use mathlib.Core.List.{List, [], ◌∷◌, ◌++◌}
use Rattle.bits.specs.Bits.{num}
use Rattle.bits.proofs.FieldLaws.{field_lt}
use Rattle.bits.proofs.Never.{never}
use Rattle.schema.specs.Tables.{Tables}
use Rattle.framing.specs.Events.{Leaf, Event, number, element, array, leaf, pair, truncation, error, implicit, nested, root, leaves, pairs, Trace}
use Rattle.framing.specs.declared.Walk.TheVariants as how
use Rattle.framing.specs.Sinks.{Walker, walker, Leafy, walk}
use Rattle.framing.specs.GrammarRules.{Each}
use Rattle.framing.proofs.Lift.{Known, of_windows, Property, Pieces, StructPieces, ObjectPieces, tables_of, KindPieces, walk_holds}

-- a leaf whose payload has no bits above its width
abbrev pub Proper : Leaf → Type 0
Proper x = x.payload < 2 ^ x.width

abbrev pub May : Walker → Event → Type 0
May k (leaf x) = Leafy k × Proper x
May k (pair x) = Leafy k → ⊥
May k (number x) = Unit
May k (element p) = Unit
May k (array p) = Unit
May k truncation = Unit
May k error = Unit
May k implicit = Unit
May k (nested n) = Unit
May k (root n) = Unit

-- ---- the pieces

each_append : {A : Type 0} (ok : A → Type 0) (a b : List A) → Each ok a → Each ok b → Each ok (a ++ b)
each_append ok [] b h k = k
each_append ok (x ∷ a) b h k = (h.0, each_append ok a b h.1 k)

-- a window's number has no bits above its size
abbrev pub whole : (t : Tables) → Known t
whole t = of_windows (λ w. w.bits < 2 ^ w.size) (λ w p k h fit. field_lt w.bits p k) t

abbrev may : Walker → Property
may k = record { Good = λ w path p q a. Each (May k) a; Stop = λ w path place p a. Each (May k) a; Gave = λ h w a. Each (May k) a }

pieces : (k : Walker) → Pieces (may k)
pieces k =
    record {
      join = λ w path p q r a b g h. each_append (May k) a b g h;
      halt = λ w path place p q a b g h. each_append (May k) a b g h;
      leave = λ w path place p a h. h;
      read = λ w path x p q r. (tt, tt);
      field = λ w path x y n p q r a says s t fit h. (tt, (tt, h));
      empty = λ h w e. tt;
      ended = λ w path place p e. (tt, tt);
      failed = λ w path place p h. (tt, tt);
      limited = λ w path place p e. (tt, tt);
      left = λ w path p h. (tt, tt);
      silent = λ w path e. tt;
    }

struct_pieces : (k : Walker) → Leafy k → (t : Tables) → StructPieces t (whole t) (may k)
struct_pieces k leafy t =
    record {
      enter = λ w x i p q d path a r low at h. (tt, (tt, h));
      kept = λ w p d path place fit pos lt here. (tt, ((leafy, field_lt w.bits p (w.size - p)), tt));
      deep = λ w lvl h path fit some here low. (tt, ((leafy, fit), tt));
      leaf = λ w d lvl h path fit here low. ((leafy, fit), tt);
      child = λ w d lvl h path a some here low g. (tt, g);
      left = λ w path p h. (tt, tt);
    }

object_pieces : (t : Tables) (lvl : ℕ) → ObjectPieces (may (walker how.Object t lvl))
object_pieces t lvl =
    record {
      enter = λ w x p q a r h. (tt, (tt, h));
      guid = λ h w x i r. (tt, ((λ z. never cc), tt));
      longer = λ h w x q r. (tt, (tt, tt));
      unread = λ h w some. (tt, tt);
      passed = λ h w some. (tt, tt);
      skipped = λ w place p h. (tt, tt);
    }

kind_pieces : (k : Walker) → KindPieces k (whole (tables_of k)) (may k)
kind_pieces (walker how.Struct t lvl) = struct_pieces (walker how.Struct t lvl) refl t
kind_pieces (walker how.Exact t lvl) = struct_pieces (walker how.Exact t lvl) refl t
kind_pieces (walker how.Object t lvl) = object_pieces t lvl

-- every event of a walk is one that it may give
pub walk_may : (k : Walker) (bytes : List ℕ) (n : ℕ) → Each (May k) (walk k bytes n)
walk_may k bytes n = walk_holds (may k) (pieces k) k (whole (tables_of k)) (kind_pieces k) bytes n (field_lt (num bytes) 0 n)

-- ---- what it says of leaves and pairs

module _ (k : Walker) where
  pub leaves_may : (t : Trace) → Each (May k) t → Each (λ x. Leafy k × Proper x) (leaves t)
  leaves_may [] h = tt
  leaves_may (leaf x ∷ t) h = (h.0, leaves_may t h.1)
  leaves_may (number x ∷ t) h = leaves_may t h.1
  leaves_may (element p ∷ t) h = leaves_may t h.1
  leaves_may (array p ∷ t) h = leaves_may t h.1
  leaves_may (pair x ∷ t) h = leaves_may t h.1
  leaves_may (truncation ∷ t) h = leaves_may t h.1
  leaves_may (error ∷ t) h = leaves_may t h.1
  leaves_may (implicit ∷ t) h = leaves_may t h.1
  leaves_may (nested n ∷ t) h = leaves_may t h.1
  leaves_may (root n ∷ t) h = leaves_may t h.1

  pub pairs_may : (t : Trace) → Each (May k) t → Each (λ x. Leafy k → ⊥) (pairs t)
  pairs_may [] h = tt
  pairs_may (pair x ∷ t) h = (h.0, pairs_may t h.1)
  pairs_may (number x ∷ t) h = pairs_may t h.1
  pairs_may (element p ∷ t) h = pairs_may t h.1
  pairs_may (array p ∷ t) h = pairs_may t h.1
  pairs_may (leaf x ∷ t) h = pairs_may t h.1
  pairs_may (truncation ∷ t) h = pairs_may t h.1
  pairs_may (error ∷ t) h = pairs_may t h.1
  pairs_may (implicit ∷ t) h = pairs_may t h.1
  pairs_may (nested n ∷ t) h = pairs_may t h.1
  pairs_may (root n ∷ t) h = pairs_may t h.1

pub each_map : {A : Type 0} (ok fine : A → Type 0) → ((x : A) → ok x → fine x) → (l : List A) → Each ok l → Each fine l
each_map ok fine f [] h = tt
each_map ok fine f (x ∷ l) h = (f x h.0, each_map ok fine f l h.1)

-- a list of what there can't be
pub each_never : {A : Type 0} (ok : A → Type 0) → ((x : A) → ok x → ⊥) → (l : List A) → Each ok l → l ≡ []
each_never ok none [] h = refl
each_never ok none (x ∷ l) h = absurd (none x h.0)
