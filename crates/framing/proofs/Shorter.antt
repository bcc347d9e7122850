-- Reading in the first m bits of a window, and in the whole of it: a number that ends inside the first m bits is the same in both, and any other
-- fails in the first.
use mathlib.Core.Path.{◌≡◌, refl}
use mathlib.Core.Bool.{Bool, true, false}
use mathlib.Core.List.{List}
use Prim.Native.Nat.{ℕ, ◌+◌, ◌*◌, ◌≤◌}
use native.Mathlib.Omega.{arith}
use lib.Dec.{ltb, leb, eqb}
use borrow.Author.Tests.{ltb-false, leb-false, le-ltb, lt-leb}
use Rattle.bits.proofs.FieldLaws.{field_prefix}
use Rattle.bits.proofs.PackedWindows.{Shortened, packed_shortened}
use Rattle.bits.proofs.PackedWindows as PW
use Rattle.bits.specs.Packed.{Packed, Number}
use Rattle.framing.specs.Windows.{Window, part, opening, Reading, got, failed, reading_of, reading}
use Rattle.framing.specs.Walk.{Lead, ends, fails, closes, opens, lead_of, lead, Due, cut, broken, closed, present, with_width, field_of, field_at}

-- a payload inside the first m bits
pub part_opening : (w : Window) (m p k : ℕ) → p + k ≤ m → part (opening m w) p k ≡ part w p k
part_opening w m p k h = λ i. record { bits = field_prefix w.bits m p k h i; size = k; origin = w.origin + p }

-- What a packed number gives in the first m bits and in the whole window: the same, inside the m bits; or it fails in the first.
pub data Reads (m start : ℕ) : Reading → Reading → Type 0 where
  agree : {v b : ℕ} → start + 8 * b ≤ m → Reads m start (got v b) (got v b)
  short : {r : Reading} → Reads m start failed r

reads_of : (m p : ℕ) {r s : Packed} → Shortened m p r s → Reads m p (reading_of r) (reading_of s)
reads_of m p (PW.same h) = agree h
reads_of m p PW.cut = short
reads_of m p PW.goes_on = short
reads_of m p PW.overflows = short

pub reads : (w : Window) (m : ℕ) → m ≤ w.size → (p : ℕ) → Reads m p (reading (opening m w) p) (reading w p)
unfolding reading
reads w m mn p = reads_of m p (packed_shortened w.bits w.size m p mn)

-- What stands where an index or a handle is due, in the first m bits and in the whole window.
pub data Leads (m : ℕ) : Lead → Lead → Type 0 where
  at_end : {l : Lead} → Leads m ends l
  unread : {l : Lead} → Leads m fails l
  at_zero : {e : Number} {q : ℕ} → q ≤ m → Leads m (closes e q) (closes e q)
  at_more : {e : Number} {n q : ℕ} → q ≤ m → Leads m (opens e n q) (opens e n q)

leads_of : (w : Window) (m p : ℕ) {r s : Reading} → Reads m p r s → Leads m (lead_of (opening m w) p r) (lead_of w p s)
leads_of w m p short = unread
leads_of w m p (agree {v = v} {b = b} h) = go (eqb v 0) refl
  where
    go : (x : Bool) → eqb v 0 ≡ x → Leads m (lead_of (opening m w) p (got v b)) (lead_of w p (got v b))
    go true e = rw e (at_zero h)
    go false e = rw e (at_more h)

pub leads : (w : Window) (m : ℕ) → m ≤ w.size → (p : ℕ) → Leads m (lead (opening m w) p) (lead w p)
unfolding lead
leads w m mn p = go (leb m p) refl
  where
    go : (x : Bool) → leb m p ≡ x → Leads m (lead (opening m w) p) (lead w p)
    go true e = rw e at_end
    go false e =
        let h = leb-false m p e in
        rw (e, lt-leb w.size p (omega arith)) (leads_of w m p (reads w m mn p))

pub data Dues (m : ℕ) : Due → Due → Type 0 where
  at_end : {d : Due} → Dues m cut d
  unread : {t : List Number} {d : Due} → Dues m (broken t) d
  at_zero : {e : Number} {q : ℕ} → q ≤ m → Dues m (closed e q) (closed e q)
  at_field : {t : List Number} {h q k : ℕ} → q + k ≤ m → Dues m (present t h q k) (present t h q k)

dues_width : (w : Window) (m : ℕ) → m ≤ w.size → (e : Number) (h q : ℕ) {r s : Reading} → Reads m q r s
    → Dues m (with_width (opening m w) e h q r) (with_width w e h q s)
dues_width w m mn e h q short = unread
dues_width w m mn e h q (agree {v = k} {b = b} l) = go (ltb m (q + 8 * b + k)) refl
  where
    go : (x : Bool) → ltb m (q + 8 * b + k) ≡ x → Dues m (with_width (opening m w) e h q (got k b)) (with_width w e h q (got k b))
    go true t = rw t unread
    go false t =
        let f = ltb-false m (q + 8 * b + k) t in
        rw (t, le-ltb w.size (q + 8 * b + k) (omega arith)) (at_field f)

dues_of : (w : Window) (m : ℕ) → m ≤ w.size → {l k : Lead} → Leads m l k → Dues m (field_of (opening m w) l) (field_of w k)
dues_of w m mn at_end = at_end
dues_of w m mn unread = unread
dues_of w m mn (at_zero h) = at_zero h
dues_of w m mn (at_more {e = e} {n = n} {q = q} h) = dues_width w m mn e n q (reads w m mn q)

pub dues : (w : Window) (m : ℕ) → m ≤ w.size → (p : ℕ) → Dues m (field_at (opening m w) p) (field_at w p)
unfolding field_at
dues w m mn p = dues_of w m mn (leads w m mn p)
