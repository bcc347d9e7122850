-- What is due at a bit, told by the bits that stand there, and the other way round: a number is read exactly where its bits stand (GrammarBits),
-- and what is due follows from the numbers read.
use Prim.Native.Nat.{ℕ, ◌+◌, ◌-◌, ◌*◌, ◌≤◌}
use mathlib.Core.Path.{◌≡◌, refl, sym, ap, ◌∙◌, subst}
use mathlib.Core.Bool.{Bool, true, false}
use mathlib.Core.List.{List, [], ◌∷◌}
use native.Mathlib.Omega.{arith}
use lib.Dec.{leb, ltb, eqb}
use borrow.Author.Tests.{lt-leb, le-ltb, ne_eqb, eqb-true, eqb-false, ltb-false}
use Rattle.bits.specs.Packed.{Number}
use Rattle.bits.proofs.Never.{never}
use Rattle.framing.specs.Windows.{Window, Reading, got, failed, reading}
use Rattle.framing.specs.Walk.{number_at, Lead, ends, fails, closes, opens, lead_of, lead, broken, closed, present, with_width, field_of, field_at}
use Rattle.framing.specs.Grammar.{Num, num_bits, IsNum}
use Rattle.framing.proofs.GrammarBits.{Span, read_num, num_read}

-- ---- from what is due to the number that stands there

pub record Stands (w : Window) (p q v : ℕ) : Type 0 where
  pub num : Num
  pub value : num.value ≡ v
  pub good : IsNum num
  pub span : Span w p q (num_bits num)

stands : (w : Window) (p v b : ℕ) → reading w p ≡ got v b → Stands w p (p + 8 * b) v
stands w p v b e = let r = read_num w p v b e in record { num = record { value = v; bytes = b }; value = refl; good = r.0; span = r.1 }

closes_of : (w : Window) (p : ℕ) (x : Number) (q : ℕ) (r : Reading) → reading w p ≡ r → lead_of w p r ≡ closes x q → Stands w p q 0
closes_of w p x q failed e f = never (cc)
closes_of w p x q (got v b) e f = go (eqb v 0) refl
  where
    go : (t : Bool) → eqb v 0 ≡ t → Stands w p q 0
    go true k =
        let f' : closes (number_at w p b v) (p + 8 * b) ≡ closes x q = rw k at f in
        let eq : p + 8 * b ≡ q = cc in
        subst (λ (n : ℕ). Stands w p n 0) eq (subst (λ (n : ℕ). Stands w p (p + 8 * b) n) (eqb-true v 0 k) (stands w p v b e))
    go false k = let f' : opens (number_at w p b v) (v - 1) (p + 8 * b) ≡ closes x q = rw k at f in never (cc)

pub closes_stands : (w : Window) (p : ℕ) (x : Number) (q : ℕ) → lead w p ≡ closes x q → Stands w p q 0
unfolding lead
closes_stands w p x q e = go (leb w.size p) refl
  where
    go : (t : Bool) → leb w.size p ≡ t → Stands w p q 0
    go true k = let e' : ends ≡ closes x q = rw k at e in never (cc)
    go false k = closes_of w p x q (reading w p) refl (rw k at e)

pub record Opens (w : Window) (p q n : ℕ) : Type 0 where
  pub v : ℕ
  pub there : Stands w p q v
  pub more : 1 ≤ v
  pub less : n ≡ v - 1

opens_of : (w : Window) (p : ℕ) (x : Number) (n q : ℕ) (r : Reading) → reading w p ≡ r → lead_of w p r ≡ opens x n q → Opens w p q n
opens_of w p x n q failed e f = never (cc)
opens_of w p x n q (got v b) e f = go (eqb v 0) refl
  where
    go : (t : Bool) → eqb v 0 ≡ t → Opens w p q n
    go true k = let f' : closes (number_at w p b v) (p + 8 * b) ≡ opens x n q = rw k at f in never (cc)
    go false k =
        let f' : opens (number_at w p b v) (v - 1) (p + 8 * b) ≡ opens x n q = rw k at f in
        let eq : p + 8 * b ≡ q = cc in
        let en : v - 1 ≡ n = cc in
        let nz : v ≡ 0 → ⊥ = eqb-false v 0 k in
        record { v = v; there = subst (λ (m : ℕ). Stands w p m v) eq (stands w p v b e); more = some v nz; less = sym en }
      where
        some : (v : ℕ) → (v ≡ 0 → ⊥) → 1 ≤ v
        some v h = omega arith

pub opens_stands : (w : Window) (p : ℕ) (x : Number) (n q : ℕ) → lead w p ≡ opens x n q → Opens w p q n
unfolding lead
opens_stands w p x n q e = go (leb w.size p) refl
  where
    go : (t : Bool) → leb w.size p ≡ t → Opens w p q n
    go true k = let e' : ends ≡ opens x n q = rw k at e in never (cc)
    go false k = opens_of w p x n q (reading w p) refl (rw k at e)

-- a field that is present: its two numbers, and where its payload stands
pub record Present (w : Window) (p h q k : ℕ) : Type 0 where
  pub middle : ℕ
  pub handle : Opens w p middle h
  pub width : Stands w middle q k
  pub within : q + k ≤ w.size

width_of : (w : Window) (p : ℕ) (x : Number) (h₀ m : ℕ) (r : Reading) → reading w m ≡ r → Opens w p m h₀ → (ns : List Number) (h q k : ℕ)
    → with_width w x h₀ m r ≡ present ns h q k → Present w p h q k
width_of w p x h₀ m failed e o ns h q k f = never (cc)
width_of w p x h₀ m (got v b) e o ns h q k f = go (ltb w.size (m + 8 * b + v)) refl
  where
    go : (t : Bool) → ltb w.size (m + 8 * b + v) ≡ t → Present w p h q k
    go true l = let f' : broken (x ∷ number_at w m b v ∷ []) ≡ present ns h q k = rw l at f in never (cc)
    go false l =
        let f' : present (x ∷ number_at w m b v ∷ []) h₀ (m + 8 * b) v ≡ present ns h q k = rw l at f in
        let eh : h₀ ≡ h = cc in
        let eq : m + 8 * b ≡ q = cc in
        let ek : v ≡ k = cc in
        let fit : m + 8 * b + v ≤ w.size = ltb-false _ _ l in
        record {
          middle = m;
          handle = subst (λ (n : ℕ). Opens w p m n) eh o;
          width = subst (λ (n : ℕ). Stands w m n k) eq (subst (λ (n : ℕ). Stands w m (m + 8 * b) n) ek (stands w m v b e));
          within = omega arith;
        }

field_of_lem : (w : Window) (p : ℕ) (l : Lead) → lead w p ≡ l → (ns : List Number) (h q k : ℕ) → field_of w l ≡ present ns h q k → Present w p h q k
field_of_lem w p ends e ns h q k f = never (cc)
field_of_lem w p fails e ns h q k f = never (cc)
field_of_lem w p (closes x m) e ns h q k f = never (cc)
field_of_lem w p (opens x h₀ m) e ns h q k f = width_of w p x h₀ m (reading w m) refl (opens_stands w p x h₀ m e) ns h q k f

pub present_stands : (w : Window) (p : ℕ) (ns : List Number) (h q k : ℕ) → field_at w p ≡ present ns h q k → Present w p h q k
unfolding field_at
present_stands w p ns h q k e = field_of_lem w p (lead w p) refl ns h q k e

closed_of : (w : Window) (p : ℕ) (l : Lead) → lead w p ≡ l → (x : Number) (q : ℕ) → field_of w l ≡ closed x q → Stands w p q 0
closed_of w p ends e x q f = never (cc)
closed_of w p fails e x q f = never (cc)
closed_of w p (closes y m) e x q f = let eq : m ≡ q = cc in subst (λ (n : ℕ). Stands w p n 0) eq (closes_stands w p y m e)
closed_of w p (opens y h m) e x q f = go (reading w m) f
  where
    go : (r : Reading) → with_width w y h m r ≡ closed x q → Stands w p q 0
    go failed g = never (cc)
    go (got v b) g = try (ltb w.size (m + 8 * b + v)) refl
      where
        try : (t : Bool) → ltb w.size (m + 8 * b + v) ≡ t → Stands w p q 0
        try true l = let g' : broken (y ∷ number_at w m b v ∷ []) ≡ closed x q = rw l at g in never (cc)
        try false l = let g' : present (y ∷ number_at w m b v ∷ []) h (m + 8 * b) v ≡ closed x q = rw l at g in never (cc)

pub closed_stands : (w : Window) (p : ℕ) (x : Number) (q : ℕ) → field_at w p ≡ closed x q → Stands w p q 0
unfolding field_at
closed_stands w p x q e = closed_of w p (lead w p) refl x q e

-- ---- from the number that stands there to what is due

module _ (w : Window) (p q : ℕ) (n : Num) (ok : IsNum n) (s : Span w p q (num_bits n)) where
  there : leb w.size p ≡ false
  there = let e = s.ends in let l = s.within in let m = ok.some in lt-leb w.size p (omega arith)

  pub stands_closes : n.value ≡ 0 → lead w p ≡ closes (number_at w p n.bytes 0) q
  unfolding lead
  stands_closes z =
      let r : reading w p ≡ got 0 n.bytes = num_read w p n q ok s ∙ ap (λ (v : ℕ). got v n.bytes) z in
      let e : q ≡ p + 8 * n.bytes = s.ends in
      rw (there, r, e) refl

  pub stands_opens : 1 ≤ n.value → lead w p ≡ opens (number_at w p n.bytes n.value) (n.value - 1) q
  unfolding lead
  stands_opens h =
      let e : q ≡ p + 8 * n.bytes = s.ends in
      rw (there, num_read w p n q ok s, ne_eqb n.value 0 (λ z. omega arith), e) refl

  pub stands_closed : n.value ≡ 0 → field_at w p ≡ closed (number_at w p n.bytes 0) q
  unfolding field_at
  stands_closed z = rw (stands_closes z) refl

  module _ (r : ℕ) (m : Num) (okm : IsNum m) (sm : Span w q r (num_bits m)) where
    pub stands_present : 1 ≤ n.value → r + m.value ≤ w.size
        → field_at w p ≡ present (number_at w p n.bytes n.value ∷ number_at w q m.bytes m.value ∷ []) (n.value - 1) r m.value
    unfolding field_at
    stands_present h l =
        let e : r ≡ q + 8 * m.bytes = sm.ends in
        let f : ltb w.size (q + 8 * m.bytes + m.value) ≡ false = le-ltb w.size (q + 8 * m.bytes + m.value) (omega arith) in
        rw (stands_opens h, num_read w q m r okm sm, f, e) refl
