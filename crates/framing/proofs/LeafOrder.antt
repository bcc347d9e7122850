-- The order of leaves: a field's leaf starts behind its field's two numbers, of a byte at least each, and these behind all that was read before; a kept
-- tail starts where reading stopped. So each leaf starts at or behind the end of the one before, and a field's leaf 16 bits behind it.
use Prim.Native.Nat.{ℕ, zero, suc, ◌+◌, ◌≤◌, ◌<◌}
use mathlib.Core.Path.{◌≡◌, refl, sym, subst}
use mathlib.Core.Bool.{Bool, true, false}
use mathlib.Core.List.{List, [], ◌∷◌, ◌++◌}
use native.Mathlib.Omega.{arith}
use lib.Dec.{eqb}
use borrow.Author.Tests.{eqb-true, eqb-false}
use Rattle.bits.specs.Members.{All}
use Rattle.bits.specs.Packed.{Number}
use Rattle.bits.proofs.MemberLaws.{all_map, EachNext, next_at, EachBehind, behind_at}
use Rattle.schema.specs.Tables.{Tables}
use Rattle.framing.specs.Windows.{Window}
use Rattle.framing.specs.Events.{Leaf, raw_handle, leaves, Trace}
use Rattle.framing.specs.LeafOrder.{Follows, LeavesInOrder}
use Rattle.framing.specs.declared.Walk.TheVariants as how
use Rattle.framing.specs.Sinks.{Walker, walker, walk}
use Rattle.framing.proofs.TraceLaws.{leaves_append}
use Rattle.framing.proofs.Induct.{Read}
use Rattle.framing.proofs.Lift.{anywhere, Property, Pieces, StructPieces, ObjectPieces, tables_of, KindPieces, walk_holds}

-- ---- leaves from bit e on

-- the leaf starts at or behind bit e, and with a field's handle two bytes behind it
record From (e : ℕ) (x : Leaf) : Type 0 where
  behind : e ≤ x.start
  field : (x.handle ≡ raw_handle → ⊥) → e + 16 ≤ x.start

-- each is from the end of the one before on, the first from bit e; the last ends at or before bit f
abbrev Runs : (e : ℕ) → List Leaf → (f : ℕ) → Type 0
Runs e [] f = e ≤ f
Runs e (x ∷ l) f = From e x × Runs (x.start + x.width) l f

from_sooner : (d e : ℕ) (x : Leaf) → d ≤ e → From e x → From d x
from_sooner d e x le h = let b = h.behind in record { behind = omega arith; field = λ other. (let c = h.field other in omega arith) }

sooner : (d e f : ℕ) (l : List Leaf) → d ≤ e → Runs e l f → Runs d l f
sooner d e f [] le h = omega (arith, le, h)
sooner d e f (x ∷ l) le h = (from_sooner d e x le h.0, h.1)

both : (e f g : ℕ) (l m : List Leaf) → Runs e l f → Runs f m g → Runs e (l ++ m) g
both e f g [] m h k = sooner e f g m h k
both e f g (x ∷ l) m h k = (h.0, both (x.start + x.width) f g l m h.1 k)

-- ---- walks

abbrev ordered : Property
ordered =
    record {
      Good = λ w path p q a. Runs (w.origin + p) (leaves a) (w.origin + q);
      Stop = λ w path place p a. Runs (w.origin + p) (leaves a) (w.origin + w.size);
      Gave = λ h w a. (e : ℕ) → e + 16 ≤ w.origin → Runs e (leaves a) (w.origin + w.size);
    }

join : (e f g : ℕ) (a b : Trace) → Runs e (leaves a) f → Runs f (leaves b) g → Runs e (leaves (a ++ b)) g
join e f g a b h k = subst (λ (l : List Leaf). Runs e l g) (sym (leaves_append a b)) (both e f g (leaves a) (leaves b) h k)

-- two numbers before a payload have 16 bits at least
numbers_before : (w : Window) (x y : Number) (p q r : ℕ) → Read w x p q → Read w y q r → w.origin + p + 16 ≤ w.origin + r
numbers_before w x y p q r s t = let a = s.runs in let b = s.some in let c = t.runs in let d = t.some in omega arith

pieces : Pieces ordered
pieces =
    record {
      join = λ w path p q r a b g h. join (w.origin + p) (w.origin + q) (w.origin + r) a b g h;
      halt = λ w path place p q a b g h. join (w.origin + p) (w.origin + q) (w.origin + w.size) a b g h;
      leave = λ w path place p a h. h;
      read = λ w path x p q r. let e = r.runs in omega arith;
      field = λ w path x y n p q r a says s t fit h.
          let same : w.origin + r + y.value ≡ w.origin + (r + y.value) = omega arith in
          subst (Runs (w.origin + p) (leaves a)) same (h (w.origin + p) (numbers_before w x y p q r s t));
      empty = λ h w z e le. omega arith;
      ended = λ w path place p e. omega arith;
      failed = λ w path place p h. omega arith;
      limited = λ w path place p e. omega arith;
      left = λ w path p h. omega arith;
      silent = λ w path e. omega arith;
    }

-- a number, and what comes behind it
read_first : (w : Window) (x : Number) (p q : ℕ) (a : Trace) → Read w x p q → Runs (w.origin + q) (leaves a) (w.origin + w.size)
    → Runs (w.origin + p) (leaves a) (w.origin + w.size)
read_first w x p q a r h = let e = r.runs in sooner (w.origin + p) (w.origin + q) (w.origin + w.size) (leaves a) (omega arith) h

struct_pieces : (t : Tables) → StructPieces t (anywhere t) ordered
struct_pieces t =
    record {
      enter = λ w x i p q d path a r low at h. read_first w x p q a r h;
      kept = λ w p d path place fit pos lt here. (record { behind = omega arith; field = λ other. absurd (other refl) }, omega arith);
      deep = λ w lvl h path fit some here low e le. (record { behind = omega arith; field = λ other. le }, omega arith);
      leaf = λ w d lvl h path fit here low e le. (record { behind = omega arith; field = λ other. le }, omega arith);
      child = λ w d lvl h path a some here low g e le. sooner e (w.origin + 0) (w.origin + w.size) (leaves a) (omega arith) g;
      left = λ w path p h. omega arith;
    }

object_pieces : ObjectPieces ordered
object_pieces =
    record {
      enter = λ w x p q a r h. read_first w x p q a r h;
      guid = λ h w x i r e le. omega arith;
      longer = λ h w x q r e le. omega arith;
      unread = λ h w some e le. omega arith;
      passed = λ h w some e le. omega arith;
      skipped = λ w place p h. omega arith;
    }

kind_pieces : (k : Walker) → KindPieces k (anywhere (tables_of k)) ordered
kind_pieces (walker how.Struct t lvl) = struct_pieces t
kind_pieces (walker how.Exact t lvl) = struct_pieces t
kind_pieces (walker how.Object t lvl) = object_pieces

walk_runs : (k : Walker) (bytes : List ℕ) (n : ℕ) → Runs (0 + 0) (leaves (walk k bytes n)) (0 + n)
walk_runs k bytes n = walk_holds ordered pieces k (anywhere (tables_of k)) (kind_pieces k) bytes n tt

-- ---- two leaves

abbrev Next : Leaf → Leaf → Type 0
Next a b = Follows a.start a.width b.start b.handle

follows : (a b : Leaf) → From (a.start + a.width) b → Next a b
follows a b h =
    record { behind = h.behind; numbers_between = h.field; rises = rises a.width refl; same_start = same (eqb b.handle raw_handle) refl }
  where
    rises : (n : ℕ) → a.width ≡ n → ((b.handle ≡ raw_handle) × (a.width ≡ 0) → ⊥) → a.start < b.start
    rises zero e other = let c = h.field (λ raw. other (raw, e)) in omega arith
    rises (suc n) e other = let c = h.behind in omega arith

    same : (x : Bool) → eqb b.handle raw_handle ≡ x → a.start ≡ b.start → (b.handle ≡ raw_handle) × (a.width ≡ 0)
    same true e s = let c = h.behind in (eqb-true b.handle raw_handle e, omega arith)
    same false e s = let c = h.field (eqb-false b.handle raw_handle e) in absurd (omega arith)

each_follows : (e f : ℕ) (l : List Leaf) → Runs e l f → EachNext Next l
each_follows e f [] h = tt
each_follows e f (x ∷ []) h = tt
each_follows e f (x ∷ y ∷ l) h = (follows x y h.1.0, each_follows (x.start + x.width) f (y ∷ l) h.1)

abbrev Apart : Leaf → Leaf → Type 0
Apart a b = a.start + a.width ≤ b.start

all_behind : (e f : ℕ) (l : List Leaf) → Runs e l f → All (λ (x : Leaf). e ≤ x.start) l
all_behind e f [] h = tt
all_behind e f (x ∷ l) h =
    let b = h.0.behind in
    (b, all_map (Apart x) (λ (y : Leaf). e ≤ y.start) (λ y c. omega arith) l (all_behind (x.start + x.width) f l h.1))

each_apart : (e f : ℕ) (l : List Leaf) → Runs e l f → EachBehind Apart l
each_apart e f [] h = tt
each_apart e f (x ∷ l) h = (all_behind (x.start + x.width) f l h.1, each_apart (x.start + x.width) f l h.1)

-- The leaves of a walk lie one behind the other: their bits overlap nowhere, and their starts rise, except at a kept tail behind an empty leaf.
pub leaves_in_order : (k : Walker) (bytes : List ℕ) (n : ℕ) → LeavesInOrder (leaves (walk k bytes n))
leaves_in_order k bytes n =
    let l = leaves (walk k bytes n) in
    let h = walk_runs k bytes n in
    record {
      follows = λ i a b s t. next_at Next l (each_follows (0 + 0) (0 + n) l h) a b i s t;
      apart = λ i j a b lt s t. behind_at Apart l (each_apart (0 + 0) (0 + n) l h) a b i j lt s t;
    }
