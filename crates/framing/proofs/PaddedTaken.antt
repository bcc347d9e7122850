-- The padded numbers that a walk of n bits takes are n / 16 at most, and every number that it takes has five bytes at most: this holds of a number
-- that is read (Induct.Read), and all other events take none.
use Prim.Native.Nat.{ℕ, ◌+◌}
use mathlib.Core.Path.{sym, subst}
use mathlib.Core.List.{List, [], ◌∷◌, ◌++◌}
use native.Mathlib.Omega.{arith}
use Rattle.bits.specs.Packed.{Number}
use Rattle.bits.proofs.PaddedTakes.{Takes, takes_none, takes_more, takes_behind, takes_both}
use Rattle.schema.specs.Tables.{Tables}
use Rattle.framing.specs.Windows.{Window}
use Rattle.framing.specs.Events.{Trace, taken}
use Rattle.framing.specs.declared.Walk.TheVariants as how
use Rattle.framing.specs.Sinks.{Walker, walker, walk}
use Rattle.framing.proofs.TraceLaws.{taken_append}
use Rattle.framing.proofs.Induct.{Read}
use Rattle.framing.proofs.Lift.{anywhere, Property, Pieces, StructPieces, ObjectPieces, tables_of, KindPieces, walk_holds}

abbrev takes : Property
takes =
    record {
      Good = λ w path p q a. Takes (taken a) p q;
      Stop = λ w path place p a. Takes (taken a) p w.size;
      Gave = λ h w a. Takes (taken a) 0 w.size;
    }

join_takes : (p q r : ℕ) (a b : Trace) → Takes (taken a) p q → Takes (taken b) q r → Takes (taken (a ++ b)) p r
join_takes p q r a b g h = subst (λ (l : List Number). Takes l p r) (sym (taken_append a b)) (takes_both (taken a) (taken b) p q r g h)

-- a number, and others behind it
read_takes : (w : Window) (x : Number) (l : List Number) (p q r : ℕ) → Read w x p q → Takes l q r → Takes (x ∷ l) p r
read_takes w x l p q r s t = takes_more x l p q r s.few (let e = s.runs in omega arith) t

one_takes : (w : Window) (x : Number) (p q : ℕ) → Read w x p q → Takes (x ∷ []) p q
one_takes w x p q s = read_takes w x [] p q q s (takes_none q q (omega arith))

field_takes : (w : Window) (x y : Number) (p q r k : ℕ) (a : Trace) → Read w x p q → Read w y q r → Takes (taken a) 0 k
    → Takes (x ∷ y ∷ taken a) p (r + k)
field_takes w x y p q r k a s t h =
    read_takes w x (y ∷ taken a) p q (r + k) s
    (read_takes w y (taken a) q r (r + k) t
    (subst (λ (o : ℕ). Takes (taken a) o (r + k)) (omega arith) (takes_behind (taken a) r 0 k h)))

pieces : Pieces takes
pieces =
    record {
      join = λ w path p q r a b g h. join_takes p q r a b g h;
      halt = λ w path place p q a b g h. join_takes p q w.size a b g h;
      leave = λ w path place p a h. h;
      read = λ w path x p q r. one_takes w x p q r;
      field = λ w path x y n p q r a says s t fit h. field_takes w x y p q r y.value a s t h;
      empty = λ h w e. takes_none 0 w.size (omega arith);
      ended = λ w path place p e. takes_none p w.size (omega arith);
      failed = λ w path place p h. takes_none p w.size h;
      limited = λ w path place p e. takes_none p w.size (omega arith);
      left = λ w path p h. takes_none p w.size h;
      silent = λ w path e. takes_none 0 w.size (omega arith);
    }

struct_pieces : (t : Tables) → StructPieces t (anywhere t) takes
struct_pieces t =
    record {
      enter = λ w x i p q d path a r low at h. read_takes w x (taken a) p q w.size r h;
      kept = λ w p d path place fit pos lt here. takes_none p w.size (omega arith);
      deep = λ w lvl h path fit some here low. takes_none 0 w.size (omega arith);
      leaf = λ w d lvl h path fit here low. takes_none 0 w.size (omega arith);
      child = λ w d lvl h path a some here low g. g;
      left = λ w path p h. takes_none p w.size h;
    }

object_pieces : ObjectPieces takes
object_pieces =
    record {
      enter = λ w x p q a r h. read_takes w x (taken a) p q w.size r h;
      guid = λ h w x i r. one_takes w x 0 w.size r;
      longer = λ h w x q r. read_takes w x [] 0 q w.size r (takes_none q w.size r.fits);
      unread = λ h w some. takes_none 0 w.size (omega arith);
      passed = λ h w some. takes_none 0 w.size (omega arith);
      skipped = λ w place p h. takes_none p w.size h;
    }

kind_pieces : (k : Walker) → KindPieces k (anywhere (tables_of k)) takes
kind_pieces (walker how.Struct t lvl) = struct_pieces t
kind_pieces (walker how.Exact t lvl) = struct_pieces t
kind_pieces (walker how.Object t lvl) = object_pieces

pub walk_takes : (k : Walker) (bytes : List ℕ) (n : ℕ) → Takes (taken (walk k bytes n)) 0 n
walk_takes k bytes n = walk_holds takes pieces k (anywhere (tables_of k)) (kind_pieces k) bytes n tt
