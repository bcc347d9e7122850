-- The padded numbers that a head takes: what the number that the code got at a bit makes of them, that a window's are those of its bytes, and that
-- they are those of the definition's numbers.
use Rattle.std.specs.Prelude.{if◌then◌else◌}
use Rattle.std.proofs.Common.{◌≡◌, ℕ, suc, ◌+◌, ◌-◌, ◌*◌, ◌/◌, ◌%◌, ◌<◌, ◌≤◌, Bool, true, false, eqb, ltb, leb, List, [], ◌∷◌, sym, refl, ap, ◌∙◌, ap₂, add-zero, add_assoc, arith, eq-eqb, ne_eqb, le-leb}
use borrow.Author.Tests.{lt-leb}
use Rattle.bits.specs.Bits.{num, field}
use Rattle.bits.specs.Packed.{Number}
use Rattle.bits.specs.Padded.{padded, once, padded_among}
use Rattle.bits.proofs.ChoiceLaws.{by_cases}
use Rattle.framing.specs.Windows.{Window, Reading, got, failed, reading}
use Rattle.framing.specs.Walk.{number_at, Lead, ends, fails, closes, opens, lead_of, lead, Due, cut, broken, closed, present, with_width, field_of, field_at}
use Rattle.steps.specs.Views.{inner, up_to}
use Rattle.steps.specs.Heads.{number_read, number_of, pad_of, number_pads, index_pads, element_pads, handle_pads, field_pads}
use Rattle.std.specs.Prelude.{None}
use Rattle.steps.proofs.HeadLaws as H
use Rattle.steps.proofs.HeadLaws.{Got, number_got, number_failed}
use Rattle.steps.proofs.ViewLaws.{reading_inner}
use Rattle.steps.proofs.ShiftLaws.{past}

-- ---- by the number that the code got

module _ (w : Window) (p : ℕ) where
  pub none_there : number_of p (reading w p) ≡ None → number_pads w p ≡ 0
  unfolding number_pads
  none_there e = ap pad_of (number_failed w p e)

  pub one_there : (v q : ℕ) {x : Bool} → number_of p (reading w p) ≡ number_read v q x → number_pads w p ≡ once x
  unfolding number_pads
  one_there v q e = let g = number_got w p v q e in ap pad_of g.is ∙ ap once g.told

  module _ (left : ℕ) where
    pub element_none : w.size ≤ p → element_pads w left p ≡ 0
    unfolding element_pads
    element_none h = simp (le-leb _ _ h)

    pub field_none : w.size ≤ p → field_pads w left p ≡ 0
    unfolding field_pads
    field_none h = simp (le-leb _ _ h)

    module _ (h : p < w.size) where
      element_by : (r : Reading) → reading w p ≡ r → element_pads w left p ≡ index_pads left r
      unfolding element_pads
      element_by r e = simp (lt-leb _ _ h) (ap (index_pads left) e)

      field_by : (r : Reading) → reading w p ≡ r → field_pads w left p ≡ handle_pads w left p r
      unfolding field_pads
      field_by r e = simp (lt-leb _ _ h) (ap (handle_pads w left p) e)

      pub element_fails : number_of p (reading w p) ≡ None → element_pads w left p ≡ 0
      element_fails e = element_by failed (number_failed w p e)

      pub field_fails : number_of p (reading w p) ≡ None → field_pads w left p ≡ 0
      field_fails e = field_by failed (number_failed w p e)

      module _ (v q : ℕ) {x : Bool} (e : number_of p (reading w p) ≡ number_read v q x) where
        -- the number, its bytes, and whether they are padded
        here : Got w p v q x
        here = number_got w p v q e

        pub element_zero : v ≡ 0 → element_pads w left p ≡ once x
        element_zero z = element_by _ here.is ∙ simp (eq-eqb v 0 z) (ap once here.told)

        pub field_zero : v ≡ 0 → field_pads w left p ≡ once x
        field_zero z = field_by _ here.is ∙ simp (eq-eqb v 0 z) (ap once here.told)

        module _ (some : v ≡ 0 → ⊥) where
          -- put back
          pub element_back : left ≡ 0 → element_pads w left p ≡ 0
          element_back z = element_by _ here.is ∙ simp (ne_eqb v 0 some, eq-eqb left 0 z)

          pub field_back : left ≡ 0 → field_pads w left p ≡ 0
          field_back z = field_by _ here.is ∙ simp (ne_eqb v 0 some, eq-eqb left 0 z)

          -- taken
          pub element_takes : (left ≡ 0 → ⊥) → element_pads w left p ≡ once x
          element_takes n = element_by _ here.is ∙ simp (ne_eqb v 0 some, ne_eqb left 0 n) (ap once here.told)

          pub field_takes : (left ≡ 0 → ⊥) → field_pads w left p ≡ once x + number_pads w q
          field_takes n =
              field_by _ here.is
              ∙ simp (ne_eqb v 0 some, ne_eqb left 0 n) (ap₂ (λ (b : Bool) (k : ℕ). once b + number_pads w k) here.told here.next_is)

-- ---- by two numbers of one byte each

module _ (bytes : List ℕ) (end p left two : ℕ) (room : p + 16 ≤ end) (is : two ≡ field (num bytes) p 16) where
  pub two_zero : two % 256 ≡ 0 → field_pads (up_to bytes end) left p ≡ 0
  two_zero z =
      let e : two % 256 % 2 ≡ 0 = omega arith in
      let n : two % 256 / 2 ≡ 0 = omega arith in
      field_zero (up_to bytes end) p left (H.inside_window bytes end p left two room is) _ _
      (H.one_byte bytes end p (two % 256) (omega arith) (H.first_is bytes end p left two room is) e) n

  module _ (some : two % 256 ≡ 0 → ⊥) (even : two % 256 % 2 ≡ 1 → ⊥) where
    pub two_back : left ≡ 0 → field_pads (up_to bytes end) left p ≡ 0
    two_back z =
        field_back (up_to bytes end) p left (H.inside_window bytes end p left two room is) _ _
        (H.first_number bytes end p left two room is some even) (H.not_zero bytes end p left two room is some even) z

    module _ (more : left ≡ 0 → ⊥) where
      pub two_wide : field_pads (up_to bytes end) left p ≡ number_pads (up_to bytes end) (p + 8)
      two_wide =
          field_takes (up_to bytes end) p left (H.inside_window bytes end p left two room is) _ _
          (H.first_number bytes end p left two room is some even) (H.not_zero bytes end p left two room is some even) more
          ∙ omega arith

      pub two_short : (two / 256 % 2 ≡ 1 → ⊥) → field_pads (up_to bytes end) left p ≡ 0
      two_short short =
          two_wide
          ∙ one_there (up_to bytes end) (p + 8) _ _ (H.second_number bytes end p left two room is some even more short)

-- ---- a window that starts b bits into the bytes

module _ (bytes : List ℕ) (base b end : ℕ) (h : b ≤ end) where
  number_there : (p : ℕ) → number_pads (up_to bytes end) (b + p) ≡ number_pads (inner bytes base b end) p
  unfolding number_pads
  number_there p = ap pad_of (sym (reading_inner bytes base b end p h))

  pub level_there : number_pads (up_to bytes end) b ≡ number_pads (inner bytes base b end) 0
  level_there = ap (number_pads (up_to bytes end)) (sym (add-zero b)) ∙ number_there 0

  pub element_there : (left p : ℕ) → element_pads (up_to bytes end) left (b + p) ≡ element_pads (inner bytes base b end) left p
  unfolding element_pads
  element_there left p =
      ap₂ (λ (x : Bool) (r : Reading). if x then 0 else index_pads left r) (sym (past bytes base b end h p)) (sym (reading_inner bytes base b end p h))

  pub field_there : (left p : ℕ) → field_pads (up_to bytes end) left (b + p) ≡ field_pads (inner bytes base b end) left p
  unfolding field_pads
  field_there left p =
      ap (λ (k : ℕ). if leb (up_to bytes end).size (b + p) then 0 else k) (go (reading (up_to bytes end) (b + p)))
      ∙ ap₂ (λ (x : Bool) (r : Reading). if x then 0 else handle_pads (inner bytes base b end) left p r) (sym (past bytes base b end h p))
      (sym (reading_inner bytes base b end p h))
    where
      go : (r : Reading) → handle_pads (up_to bytes end) left (b + p) r ≡ handle_pads (inner bytes base b end) left p r
      go failed = refl
      go (got v n) =
          ap (λ (k : ℕ). if eqb v 0 then once (padded v n) else (if eqb left 0 then 0 else once (padded v n) + k))
          (ap (number_pads (up_to bytes end)) (add_assoc b p (8 * n)) ∙ number_there (p + 8 * n))

-- ---- by the definition's numbers

pub single : (x : Number) → padded_among (x ∷ []) ≡ once (padded x.value x.bytes)
unfolding padded_among
single x = add-zero (once (padded x.value x.bytes))

module _ (w : Window) (p : ℕ) where
  pub count_took : (v n : ℕ) → reading w p ≡ got v n → number_pads w p ≡ padded_among (number_at w p n v ∷ [])
  unfolding number_pads
  count_took v n e = ap pad_of e ∙ sym (single (number_at w p n v))

  -- the numbers that an index takes
  abbrev pub index_took : (left : ℕ) → Lead → ℕ
  index_took left ends = 0
  index_took left fails = 0
  index_took left (closes e q) = padded_among (e ∷ [])
  index_took left (opens e i q) = if eqb left 0 then 0 else padded_among (e ∷ [])

  pub index_took_lem : (left : ℕ) → element_pads w left p ≡ index_took left (lead w p)
  unfolding element_pads lead
  index_took_lem left = go (leb w.size p) (reading w p)
    where
      go : (x : Bool) (r : Reading) → (if x then 0 else index_pads left r) ≡ index_took left (if x then ends else lead_of w p r)
      go true r = refl
      go false failed = refl
      go false (got v n) = by_cases (eqb v 0) (λ e. simp e (sym (single (number_at w p n v)))) (λ e. simp e (ap (λ (k : ℕ). if eqb left 0 then 0 else k) (sym (single (number_at w p n v)))))

  -- and those that a field takes
  abbrev pub due_took : Due → ℕ
  due_took cut = 0
  due_took (broken ns) = padded_among ns
  due_took (closed e q) = padded_among (e ∷ [])
  due_took (present ns h q k) = padded_among ns

  width_took : (e : Number) (hd q : ℕ) (r : Reading) → once (padded e.value e.bytes) + pad_of r ≡ due_took (with_width w e hd q r)
  unfolding padded_among
  width_took e hd q failed = refl
  width_took e hd q (got k n) =
      by_cases (ltb w.size (q + 8 * n + k))
      (λ t. simp t (ap (λ (m : ℕ). once (padded e.value e.bytes) + m) (sym (add-zero (once (padded k n))))))
      (λ t. simp t (ap (λ (m : ℕ). once (padded e.value e.bytes) + m) (sym (add-zero (once (padded k n))))))

  pub last_took : field_pads w 0 p ≡ index_took 0 (lead w p)
  unfolding field_pads lead
  last_took = go (leb w.size p) (reading w p)
    where
      go : (x : Bool) (r : Reading) → (if x then 0 else handle_pads w 0 p r) ≡ index_took 0 (if x then ends else lead_of w p r)
      go true r = refl
      go false failed = refl
      go false (got v n) = by_cases (eqb v 0) (λ e. simp e (sym (single (number_at w p n v)))) (λ e. simp e)

  pub due_took_lem : (left : ℕ) → field_pads w (suc left) p ≡ due_took (field_at w p)
  unfolding field_pads number_pads field_at lead padded_among
  due_took_lem left = go (leb w.size p) (reading w p)
    where
      some : eqb (suc left) 0 ≡ false
      some = ne_eqb (suc left) 0 (λ z. omega arith)

      go : (x : Bool) (r : Reading) → (if x then 0 else handle_pads w (suc left) p r) ≡ due_took (field_of w (if x then ends else lead_of w p r))
      go true r = refl
      go false failed = refl
      go false (got v n) =
          by_cases (eqb v 0)
          (λ e. simp e (sym (single (number_at w p n v))))
          (λ e. simp (e, some) (width_took (number_at w p n v) (v - 1) (p + 8 * n) (reading w (p + 8 * n))))
