-- No working path has more than 852 bytes where every label lies in its pool: there are twelve levels, and each adds at most `[4095]`, a dot and a
-- name. So of a level's path is known, down the levels, that what it and those below can still add fits behind it (`room`).
use Prim.Native.Nat.{ℕ, ◌+◌, ◌≤◌}
use mathlib.Core.Path.{refl}
use mathlib.Core.List.{List, [], ◌∷◌, ◌++◌}
use native.Mathlib.Omega.{arith}
use lib.ListN.{length}
use Rattle.bits.specs.Sizes.{longest_label, longest_path}
use Rattle.schema.specs.Tables.{Tables}
use Rattle.schema.specs.Labels.{container_label_lem, leaf_label, LabelsLie, raw_label}
use Rattle.schema.proofs.PathLengths.{index_adds, dot_adds, label_adds}
use Rattle.framing.specs.Events.{Leaf, number, element, array, leaf, pair, truncation, error, implicit, nested, root, leaves, Trace}
use Rattle.framing.specs.Paths.{leaf_path, array_path, working_paths, PathFits, level_adds, element_adds}
use Rattle.framing.specs.declared.Walk.TheVariants as how
use Rattle.framing.specs.Sinks.{Walker, walker, Leafy, walk}
use Rattle.framing.specs.GrammarRules.{Each}
use Rattle.framing.proofs.Lift.{Known, anywhere, Property, Pieces, StructPieces, ObjectPieces, tables_of, walk_holds}

module _ (t : Tables) (labels : LabelsLie t) where
  array_adds : (lvl h : ℕ) (path : List ℕ) → length (array_path t lvl path h) ≤ length path + longest_label
  array_adds lvl h path = label_adds t path h (container_label_lem t lvl h) (labels.container lvl h)

  leaf_adds : (lvl h : ℕ) (path : List ℕ) → length (leaf_path t lvl path h) ≤ length path + longest_label
  leaf_adds lvl h path = label_adds t path h (leaf_label t lvl h) (labels.leaf lvl h)

  -- the room behind a path
  abbrev room : Known t
  room =
      record {
        Fit = λ w. Unit;
        AtLevel = λ d path. length path + level_adds d ≤ longest_path;
        InElement = λ d path. length path + element_adds d ≤ longest_path;
        payload = λ w p k fit within. tt;
        first = omega arith;
        level = λ d path at. omega arith;
        element = λ d path i at low. let z = index_adds path i low in omega arith;
        below = λ d lvl h path here low. let z = array_adds lvl h path in omega arith;
      }

-- ---- every event's path

abbrev short : Property
short =
    record {
      Good = λ w path p q a. Each PathFits (working_paths a);
      Stop = λ w path place p a. Each PathFits (working_paths a);
      Gave = λ h w a. Each PathFits (working_paths a);
    }

join_short : (a b : Trace) → Each PathFits (working_paths a) → Each PathFits (working_paths b) → Each PathFits (working_paths (a ++ b))
join_short [] b g h = h
join_short (element p ∷ a) b g h = (g.0, join_short a b g.1 h)
join_short (array p ∷ a) b g h = (g.0, join_short a b g.1 h)
join_short (leaf x ∷ a) b g h = (g.0, join_short a b g.1 h)
join_short (number x ∷ a) b g h = join_short a b g h
join_short (pair x ∷ a) b g h = join_short a b g h
join_short (truncation ∷ a) b g h = join_short a b g h
join_short (error ∷ a) b g h = join_short a b g h
join_short (implicit ∷ a) b g h = join_short a b g h
join_short (nested n ∷ a) b g h = join_short a b g h
join_short (root n ∷ a) b g h = join_short a b g h

pieces : Pieces short
pieces =
    record {
      join = λ w path p q r a b g h. join_short a b g h;
      halt = λ w path place p q a b g h. join_short a b g h;
      leave = λ w path place p a h. h;
      read = λ w path x p q r. tt;
      field = λ w path x y n p q r a says s t fit h. h;
      empty = λ h w e. tt;
      ended = λ w path place p e. tt;
      failed = λ w path place p h. tt;
      limited = λ w path place p e. tt;
      left = λ w path p h. tt;
      silent = λ w path e. tt;
    }

struct_pieces : (t : Tables) (labels : LabelsLie t) → StructPieces t (room t labels) short
struct_pieces t labels =
    record {
      enter = λ w x i p q d path a r low at h. let z = index_adds path i low in (omega arith, h);
      kept = λ w p d path place fit pos lt here. let z = dot_adds place raw_label in (omega arith, tt);
      deep = λ w lvl h path fit some here low. let z = array_adds t labels lvl h path in (omega arith, tt);
      leaf = λ w d lvl h path fit here low. let z = leaf_adds t labels lvl h path in (omega arith, tt);
      child = λ w d lvl h path a some here low g. let z = array_adds t labels lvl h path in (omega arith, g);
      left = λ w path p h. tt;
    }

object_pieces : ObjectPieces short
object_pieces =
    record {
      enter = λ w x p q a r h. (omega arith, h);
      guid = λ h w x i r. tt;
      longer = λ h w x q r. tt;
      unread = λ h w some. tt;
      passed = λ h w some. tt;
      skipped = λ w place p h. tt;
    }

-- where a walk gives leaves, its labels lie in their pools; so they do where its tables keep their layout
abbrev pub Labelled : Walker → Type 0
Labelled k = Leafy k → LabelsLie (tables_of k)

-- Every working path of every walk.
pub walk_short : (k : Walker) → Labelled k → (bytes : List ℕ) (n : ℕ) → Each PathFits (working_paths (walk k bytes n))
walk_short (walker how.Struct t lvl) labels bytes n = walk_holds short pieces (walker how.Struct t lvl) (room t (labels refl)) (struct_pieces t (labels refl)) bytes n tt
walk_short (walker how.Exact t lvl) labels bytes n = walk_holds short pieces (walker how.Exact t lvl) (room t (labels refl)) (struct_pieces t (labels refl)) bytes n tt
walk_short (walker how.Object t lvl) labels bytes n =
    walk_holds short pieces (walker how.Object t lvl) (anywhere t) object_pieces bytes n tt

-- among them those of leaves
pub leaves_short : (t : Trace) → Each PathFits (working_paths t) → Each (λ (x : Leaf). PathFits x.path) (leaves t)
leaves_short [] h = tt
leaves_short (leaf x ∷ t) h = (h.0, leaves_short t h.1)
leaves_short (element p ∷ t) h = leaves_short t h.1
leaves_short (array p ∷ t) h = leaves_short t h.1
leaves_short (number x ∷ t) h = leaves_short t h
leaves_short (pair x ∷ t) h = leaves_short t h
leaves_short (truncation ∷ t) h = leaves_short t h
leaves_short (error ∷ t) h = leaves_short t h
leaves_short (implicit ∷ t) h = leaves_short t h
leaves_short (nested n ∷ t) h = leaves_short t h
leaves_short (root n ∷ t) h = leaves_short t h
