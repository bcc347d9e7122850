-- Where heads lie: no position passes the window, and what goes on lies behind.
use Rattle.std.specs.Prelude.{if◌then◌else◌}
use Rattle.std.proofs.Common.{◌≡◌, ℕ, zero, suc, ◌+◌, ◌*◌, ◌<◌, ◌≤◌, Bool, true, false, eqb, ltb, leb, List, sym, refl, ap, ◌∙◌, arith, ltb-false, leb-false}
use borrow.Author.Tests.{eqb-false}
use Rattle.bits.specs.Packed.{Number}
use Rattle.bits.proofs.Never.{never}
use Rattle.bits.specs.Sizes.{max_elements}
use Rattle.framing.specs.Windows.{Window, Reading, got, failed, reading}
use Rattle.framing.specs.Walk.{Lead, ends, fails, closes, opens, lead, Due, cut, broken, closed, present, field_at}
use Rattle.framing.proofs.Induct.{Inside, inside, nothing, reading_inside, LeadIn, lead_in, DueIn, due_in}
use Rattle.framing.proofs.Induct as I
use Rattle.steps.specs.Views.{HeadIn}
use Rattle.steps.specs.Heads.{number_of, count_head, level_head_lem, index_head, element_head_lem, last_head, due_head, field_head_lem}
use Rattle.steps.specs.declared.Head.TheVariants as head

-- ---- a head's position is in the window

pub level_in : (w : Window) (p : ℕ) → HeadIn w.size (level_head_lem w p)
unfolding level_head_lem
level_in w p = go (reading_inside w p)
  where
    go : {r : Reading} → Inside w.size p r → HeadIn w.size (count_head (number_of p r))
    go nothing = tt
    go (inside {v = v} {b = n} h k l) = go2 (ltb max_elements v)
      where
        go2 : (x : Bool) → HeadIn w.size (if x then head.Limit (p + 8 * n) else head.Go v (p + 8 * n) (p + 8 * n))
        go2 true = h
        go2 false = tt

pub element_in : (w : Window) (count left p : ℕ) → HeadIn w.size (element_head_lem w count left p)
unfolding element_head_lem
element_in w count left p = go (lead_in w p)
  where
    go : {l : Lead} → LeadIn w p l → HeadIn w.size (index_head count left p l)
    go (I.in_end h) = tt
    go (I.in_fail h) = tt
    go (I.in_zero t) = t.fits
    go (I.in_more {i = i} {q = q} t says) = go2 (eqb left 0) (leb count i)
      where
        before : p ≤ w.size
        before = let e = t.runs in let f = t.fits in omega arith

        go2 : (x y : Bool) → HeadIn w.size (if x then head.Limit p else (if y then head.Failed else head.Go i q q))
        go2 true y = before
        go2 false true = tt
        go2 false false = tt

pub field_in : (w : Window) (left p : ℕ) → HeadIn w.size (field_head_lem w left p)
unfolding field_head_lem
field_in w zero p = go (lead_in w p)
  where
    go : {l : Lead} → LeadIn w p l → HeadIn w.size (last_head p l)
    go (I.in_end h) = tt
    go (I.in_fail h) = tt
    go (I.in_zero t) = t.fits
    go (I.in_more t says) = let e = t.runs in let f = t.fits in omega arith
field_in w (suc left) p = go (due_in w p)
  where
    go : {d : Due} → DueIn w p d → HeadIn w.size (due_head d)
    go (I.in_end h) = tt
    go (I.in_fail h) = tt
    go (I.in_fail₁ t) = tt
    go (I.in_fail₂ t u) = tt
    go (I.in_zero t) = t.fits
    go (I.in_field t says u h) = tt

-- ---- what goes on

-- a level's count v, its elements from bit q on
pub record Counted (w : Window) (p v q : ℕ) : Type 0 where
  pub bytes : ℕ
  pub reads : reading w p ≡ got v bytes
  pub few : v ≤ max_elements
  pub next : q ≡ p + 8 * bytes
  pub fits : q ≤ w.size

pub level_goes : (w : Window) (p : ℕ) {v q m : ℕ} → level_head_lem w p ≡ head.Go v q m → Counted w p v q
unfolding level_head_lem
level_goes w p {v} {q} {m} e = go (reading w p) refl (reading_inside w p) e
  where
    go : (r : Reading) → reading w p ≡ r → Inside w.size p r → count_head (number_of p r) ≡ head.Go v q m → Counted w p v q
    go failed er i f = never cc
    go (got k n) er (inside h pos l) f = go2 (ltb max_elements k) refl f
      where
        go2 : (x : Bool) → ltb max_elements k ≡ x → (if x then head.Limit (p + 8 * n) else head.Go k (p + 8 * n) (p + 8 * n)) ≡ head.Go v q m → Counted w p v q
        go2 true ex g = never cc
        go2 false ex g =
            let a : k ≡ v = cc in
            let b : p + 8 * n ≡ q = cc in
            record { bytes = n; reads = er ∙ ap (λ (u : ℕ). got u n) a; few = let z = ltb-false max_elements k ex in omega arith; next = sym b; fits = omega arith }

-- an element's index i, its fields from bit q on
pub record Opened (w : Window) (count left p i q : ℕ) : Type 0 where
  pub number : Number
  pub leads : lead w p ≡ opens number i q
  pub allowed : 0 < left
  pub counted : i < count
  pub later : p ≤ q
  pub fits : q ≤ w.size

pub element_goes : (w : Window) (count left p : ℕ) {i q m : ℕ} → element_head_lem w count left p ≡ head.Go i q m → Opened w count left p i q
unfolding element_head_lem
element_goes w count left p {i} {q} {m} e = go (lead w p) refl (lead_in w p) e
  where
    go : (l : Lead) → lead w p ≡ l → LeadIn w p l → index_head count left p l ≡ head.Go i q m → Opened w count left p i q
    go ends el h f = never cc
    go fails el h f = never cc
    go (closes x r) el h f = never cc
    go (opens x j r) el (I.in_more t says) f = go2 (eqb left 0) refl (leb count j) refl f
      where
        go2 : (y : Bool) → eqb left 0 ≡ y → (z : Bool) → leb count j ≡ z → (if y then head.Limit p else (if z then head.Failed else head.Go j r r)) ≡ head.Go i q m → Opened w count left p i q
        go2 true ey z ez g = never cc
        go2 false ey true ez g = never cc
        go2 false ey false ez g =
            let a : j ≡ i = cc in
            let b : r ≡ q = cc in
            let n = eqb-false left 0 ey in
            let c = leb-false count j ez in
            let s = t.runs in
            let u = t.fits in
            record {
              number = x;
              leads = el ∙ (λ k. opens x (a k) (b k));
              allowed = some left n;
              counted = omega arith;
              later = omega arith;
              fits = omega arith;
            }
          where
            some : (n : ℕ) → (n ≡ 0 → ⊥) → 0 < n
            some zero h = absurd (h refl)
            some (suc n) h = omega arith

-- a field of this handle, its payload from bit q to bit r
pub record Presented (w : Window) (left p handle q r : ℕ) : Type 0 where
  pub less : ℕ
  pub allowed : left ≡ suc less
  pub numbers : List Number
  pub width : ℕ
  pub due : field_at w p ≡ present numbers handle q width
  pub wide : r ≡ q + width
  pub later : p ≤ q
  pub fits : r ≤ w.size

pub field_goes : (w : Window) (left p : ℕ) {h q r : ℕ} → field_head_lem w left p ≡ head.Go h q r → Presented w left p h q r
unfolding field_head_lem
field_goes w zero p {h} {q} {r} e = go (lead w p) e
  where
    go : (l : Lead) → last_head p l ≡ head.Go h q r → Presented w zero p h q r
    go ends f = never cc
    go fails f = never cc
    go (closes x s) f = never cc
    go (opens x j s) f = never cc
field_goes w (suc left) p {h} {q} {r} e = go (field_at w p) refl (due_in w p) e
  where
    go : (d : Due) → field_at w p ≡ d → DueIn w p d → due_head d ≡ head.Go h q r → Presented w (suc left) p h q r
    go cut ed i f = never cc
    go (broken ns) ed i f = never cc
    go (closed x s) ed i f = never cc
    go (present ns j s k) ed (I.in_field t says u fit) f =
        let a : j ≡ h = cc in
        let b : s ≡ q = cc in
        let c : s + k ≡ r = cc in
        let s1 = t.runs in
        let s2 = u.runs in
        record {
          less = left;
          allowed = refl;
          numbers = ns;
          width = k;
          due = ed ∙ (λ m. present ns (a m) (b m) k);
          wide = omega arith;
          later = omega arith;
          fits = omega arith;
        }
