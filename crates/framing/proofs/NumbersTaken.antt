-- Every number that a walk takes stands in its window where the walk says: in the window that is being walked it does (Induct.Read), and what is read
-- in a payload is read in the window around it too.
use Prim.Native.Nat.{ℕ, ◌+◌, ◌*◌, ◌≤◌}
use mathlib.Core.Path.{◌≡◌, refl, sym, ap, ◌∙◌, subst}
use mathlib.Core.List.{List, ◌++◌}
use native.Mathlib.Omega.{arith}
use Rattle.bits.specs.Members.{All}
use Rattle.bits.specs.Packed.{Number}
use Rattle.bits.proofs.FieldLaws.{field_field}
use Rattle.bits.proofs.MemberLaws.{all_append, all_map}
use Rattle.schema.specs.Tables.{Tables}
use Rattle.framing.specs.Windows.{Window, window_of, part, got, reading}
use Rattle.framing.specs.Events.{Trace, taken}
use Rattle.framing.specs.Places.{NumberIn}
use Rattle.framing.specs.declared.Walk.TheVariants as how
use Rattle.framing.specs.Sinks.{Walker, walker, walk}
use Rattle.framing.proofs.TraceLaws.{taken_append}
use Rattle.framing.proofs.GrammarBits.{read_num, num_read}
use Rattle.framing.proofs.Induct.{Read}
use Rattle.framing.proofs.Lift.{anywhere, Property, Pieces, StructPieces, ObjectPieces, tables_of, KindPieces, walk_holds}

-- A number in a payload stands in the window around it.
part_read : (w : Window) (r k p v b : ℕ) → r + k ≤ w.size → reading (part w r k) p ≡ got v b → reading w (r + p) ≡ got v b
part_read w r k p v b fit e =
    let n = read_num (part w r k) p v b e in
    let l : p + 8 * b ≤ k = n.1.within in
    num_read w (r + p) (record { value = v; bytes = b }) (r + p + 8 * b) n.0
    (record { ends = refl; within = omega arith; same = sym (field_field w.bits r k p (8 * b) l) ∙ n.1.same })

-- the number stands at a bit of the window, of which it tells the bit in the root window
record At (w : Window) (x : Number) : Type 0 where
  bit : ℕ
  starts : x.start ≡ w.origin + bit
  reads : reading w bit ≡ got x.value x.bytes

at_read : (w : Window) (x : Number) (p q : ℕ) → Read w x p q → At w x
at_read w x p q r = record { bit = p; starts = r.starts; reads = r.reads }

around : (w : Window) (r k : ℕ) → r + k ≤ w.size → (l : List Number) → All (At (part w r k)) l → All (At w) l
around w r k fit =
    all_map (At (part w r k)) (At w)
    (λ x h.
    let s = h.starts in
    record { bit = r + h.bit; starts = omega arith; reads = part_read w r k h.bit x.value x.bytes fit h.reads })

abbrev stand : Property
stand =
    record {
      Good = λ w path p q a. All (At w) (taken a);
      Stop = λ w path place p a. All (At w) (taken a);
      Gave = λ h w a. All (At w) (taken a);
    }

join_stand : (w : Window) (a b : Trace) → All (At w) (taken a) → All (At w) (taken b) → All (At w) (taken (a ++ b))
join_stand w a b g h = subst (All (At w)) (sym (taken_append a b)) (all_append (At w) (taken a) (taken b) g h)

pieces : Pieces stand
pieces =
    record {
      join = λ w path p q r a b g h. join_stand w a b g h;
      halt = λ w path place p q a b g h. join_stand w a b g h;
      leave = λ w path place p a h. h;
      read = λ w path x p q r. (at_read w x p q r, tt);
      field = λ w path x y n p q r a says s t fit h. (at_read w x p q s, (at_read w y q r t, around w r y.value fit (taken a) h));
      empty = λ h w e. tt;
      ended = λ w path place p e. tt;
      failed = λ w path place p h. tt;
      limited = λ w path place p e. tt;
      left = λ w path p h. tt;
      silent = λ w path e. tt;
    }

struct_pieces : (t : Tables) → StructPieces t (anywhere t) stand
struct_pieces t =
    record {
      enter = λ w x i p q d path a r low at h. (at_read w x p q r, h);
      kept = λ w p d path place fit pos lt here. tt;
      deep = λ w lvl h path fit some here low. tt;
      leaf = λ w d lvl h path fit here low. tt;
      child = λ w d lvl h path a some here low g. g;
      left = λ w path p h. tt;
    }

object_pieces : ObjectPieces stand
object_pieces =
    record {
      enter = λ w x p q a r h. (at_read w x p q r, h);
      guid = λ h w x i r. (at_read w x 0 w.size r, tt);
      longer = λ h w x q r. (at_read w x 0 q r, tt);
      unread = λ h w some. tt;
      passed = λ h w some. tt;
      skipped = λ w place p h. tt;
    }

kind_pieces : (k : Walker) → KindPieces k (anywhere (tables_of k)) stand
kind_pieces (walker how.Struct t lvl) = struct_pieces t
kind_pieces (walker how.Exact t lvl) = struct_pieces t
kind_pieces (walker how.Object t lvl) = object_pieces

-- At the root a bit of the window is the root window's.
at_root : (bytes : List ℕ) (n : ℕ) (x : Number) → At (window_of bytes n) x → NumberIn (window_of bytes n) x
at_root bytes n x h =
    let s = h.starts in
    let same : x.start ≡ h.bit = omega arith in
    ap (reading (window_of bytes n)) same ∙ h.reads

pub walk_numbers : (k : Walker) (bytes : List ℕ) (n : ℕ) → All (NumberIn (window_of bytes n)) (taken (walk k bytes n))
walk_numbers k bytes n =
    all_map (At (window_of bytes n)) (NumberIn (window_of bytes n)) (at_root bytes n) (taken (walk k bytes n))
    (walk_holds stand pieces k (anywhere (tables_of k)) (kind_pieces k) bytes n tt)
