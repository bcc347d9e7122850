-- The laws that a proof of code cites instead of the definitions' text: what is due at a bit, the limits of counts and indices, and one step. Each is a branch of
-- a definition, under the tests that lead to it.
use mathlib.Core.Path.{◌≡◌, refl}
use mathlib.Core.Bool.{Bool, true, false, ◌&&◌}
use mathlib.Core.List.{List, ◌++◌}
use Prim.Native.Nat.{ℕ, suc, ◌+◌, ◌-◌, ◌*◌, ◌≤◌, ◌<◌}
use native.Mathlib.Omega.{arith}
use lib.Dec.{eqb, leb, ltb}
use borrow.Author.Tests.{ltb-true, ltb-false, lt-ltb, le-ltb, leb-true, leb-false, le-leb, lt-leb, ne_eqb}
use Rattle.bits.specs.Packed.{Number}
use Rattle.bits.proofs.Never.{never}
use Rattle.bits.specs.Sizes.{max_elements}
use Rattle.framing.specs.Windows.{Window, part, got, failed, reading}
use Rattle.framing.specs.Events.{numbers}
use Rattle.framing.specs.Walk.{Sink, number_at, ends, fails, closes, opens, lead, present, field_at, field_of, prepend, on_field, on_last_field, fields, beyond, on_index, on_last_index, elements, too_many, on_count, level}

pub lead_ends : (w : Window) (p : ℕ) → w.size ≤ p → lead w p ≡ ends
unfolding lead
lead_ends w p h = rw (le-leb w.size p h)

pub lead_fails : (w : Window) (p : ℕ) → p < w.size → reading w p ≡ failed → lead w p ≡ fails
unfolding lead
lead_fails w p h e = rw (lt-leb w.size p h, e)

pub lead_zero : (w : Window) (p b : ℕ) → p < w.size → reading w p ≡ got 0 b → lead w p ≡ closes (number_at w p b 0) (p + 8 * b)
unfolding lead
lead_zero w p b h e = rw (lt-leb w.size p h, e)

pub lead_more : (w : Window) (p v b : ℕ) → p < w.size → reading w p ≡ got v b → (v ≡ 0 → ⊥) → lead w p ≡ opens (number_at w p b v) (v - 1) (p + 8 * b)
unfolding lead
lead_more w p v b h e nz = rw (lt-leb w.size p h, e, ne_eqb v 0 nz)

pub field_at_lead : (w : Window) (p : ℕ) → field_at w p ≡ field_of w (lead w p)
unfolding field_at
field_at_lead w p = refl

-- ---- the count, and indices below it

pub count_few : (count : ℕ) → too_many count ≡ false → count ≤ max_elements
count_few count e = go (ltb max_elements count) refl
  where
    go : (x : Bool) → ltb max_elements count ≡ x → count ≤ max_elements
    go false k = ltb-false max_elements count k
    go true k =
        let lt = ltb-true max_elements count k in
        let many : too_many count ≡ true = lt-ltb _ count (omega arith) in
        never (cc)

pub count_allowed : (count : ℕ) → count ≤ max_elements → too_many count ≡ false
count_allowed count h = le-ltb _ count (omega arith)

pub index_below : (count i : ℕ) → beyond count i ≡ false → i < count
index_below count i e = go (leb count i) refl
  where
    go : (x : Bool) → leb count i ≡ x → i < count
    go false k = leb-false count i k
    go true k =
        let le = leb-true count i k in
        let past : beyond count i ≡ true = le-leb _ i (omega arith) in
        never (cc)

pub index_allowed : (count i : ℕ) → i < count → beyond count i ≡ false
index_allowed count i h = lt-leb _ i (omega arith)

-- ---- one step

module _ (s : Sink) (w : Window) where
  pub fields_last : (i : ℕ) (path : List ℕ) (p : ℕ) (first : Bool) → fields s w i path 0 p first ≡ on_last_field s w path p (lead w p)
  unfolding fields
  fields_last i path p first = refl

  pub fields_step : (i : ℕ) (path : List ℕ) (left p : ℕ) (first : Bool)
      → fields s w i path (suc left) p first ≡ on_field s w i path first (λ q f. fields s w i path left q f) (field_at w p)
  unfolding fields
  fields_step i path left p first = refl

  -- a field that is present
  pub fields_present : (i : ℕ) (path : List ℕ) (left p : ℕ) (first : Bool) (ns : List Number) (h q k : ℕ) → field_at w p ≡ present ns h q k
      → fields s w i path (suc left) p first
      ≡ prepend (numbers ns ++ s.field i path first h (part w q k)) (fields s w i path left (q + k) (first && eqb k 0))
  fields_present i path left p first ns h q k e = rw (fields_step, e)

  pub elements_last : (path : List ℕ) (count p : ℕ) → elements s w path count 0 p ≡ on_last_index s w path p (lead w p)
  unfolding elements
  elements_last path count p = refl

  pub elements_step : (path : List ℕ) (count left p : ℕ)
      → elements s w path count (suc left) p ≡ on_index s w path count (λ q. elements s w path count left q) (lead w p)
  unfolding elements
  elements_step path count left p = refl

  pub level_count_lem : (path : List ℕ) → level s w path ≡ on_count s w path (reading w 0)
  unfolding level
  level_count_lem path = refl
