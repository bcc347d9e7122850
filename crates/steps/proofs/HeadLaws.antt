-- What the number that the code got at a bit makes of the heads there.
use Rattle.std.proofs.Common.{◌≡◌, ℕ, zero, suc, ◌+◌, ◌-◌, ◌*◌, ◌/◌, ◌%◌, ◌^◌, ◌<◌, ◌≤◌, Bool, true, false, ltb, List, sym, refl, ap, ◌∙◌, subst, arith, le-ltb, lt-ltb, eq-eqb, ne_eqb, le-leb}
use borrow.Author.Tests.{lt-leb}
use Rattle.bits.specs.Bits.{num, field}
use Rattle.bits.specs.Packed as K
use Rattle.bits.specs.Packed.{Packed, Number, packed}
use Rattle.bits.specs.Padded.{padded, found}
use Rattle.bits.proofs.PaddedLaws as P
use Rattle.bits.proofs.Never.{never}
use Rattle.bits.proofs.FieldLaws.{field_low, field_high}
use Rattle.bits.proofs.PackedLaws.{packed_one, whole_within}
use Rattle.bits.proofs.PackedWindows.{Lies, whole, cut, goes_on, overflows, packed_lies}
use Rattle.bits.specs.Sizes.{max_elements}
use Rattle.framing.specs.Windows.{Window, Reading, got, failed, reading_of, reading}
use Rattle.framing.specs.Walk.{number_at, closes, opens, lead, with_width, field_of}
use Rattle.framing.proofs.StepLaws.{lead_ends, lead_fails, lead_zero, lead_more, field_at_lead}
use Rattle.steps.specs.Views.{up_to}
use Rattle.steps.specs.Heads.{number_read, number_of, count_head, level_head_lem, index_head, element_head_lem, last_head, due_head, field_head_lem, sized_head, width_head_lem}
use Rattle.std.specs.Prelude.{Option, Some, None, Result, Ok, Err}
use Rattle.std.specs.Result.{result_ok}
use Rattle.bits.specs.declared.Found.{Found}
use Rattle.bits.specs.declared.Broken.{Broken}
use Rattle.steps.specs.declared.NumberRead.{NumberRead}
use Rattle.steps.specs.declared.Head.TheVariants as head

-- a packed number of the bytes is the number of all bits before the end
pub number_is : (bytes : List ℕ) (end p : ℕ) (r : Packed) → packed (num bytes) end p ≡ r → number_of p (reading_of r) ≡ number_of p (reading (up_to bytes end) p)
unfolding reading up_to
number_is bytes end p r e = ap (λ (x : Packed). number_of p (reading_of x)) (sym e)

-- what the code makes of one that it found at bit p
abbrev pub read_of : (p : ℕ) → Option Found → Option NumberRead
read_of p None = None
read_of p (Some x) = number_read x.value (p + 8 * x.bytes) x.padded

module _ (bytes : List ℕ) (end p : ℕ) {r : Result Found Broken} (told : r ≡ found (packed (num bytes) end p)) {o : Option Found} (kept : o ≡ result_ok r) where
  pub number_found : read_of p o ≡ number_of p (reading (up_to bytes end) p)
  unfolding found
  number_found =
      ap (read_of p) (kept ∙ ap result_ok told) ∙ go (packed (num bytes) end p) ∙ number_is bytes end p (packed (num bytes) end p) refl
    where
      go : (k : Packed) → read_of p (result_ok (found k)) ≡ number_of p (reading_of k)
      go (Ok x) = refl
      go (Err why) = refl

  Ends : Option Found → Type 0
  Ends None = Unit {0}
  Ends (Some x) = p + 8 * x.bytes ≤ end

  -- it ends before the bits do
  pub found_within : p ≤ end → (x : Found) → o ≡ Some x → p + 8 * x.bytes ≤ end
  unfolding found Ends
  found_within h x e = subst Ends (sym (kept ∙ ap result_ok told) ∙ e) (go (packed (num bytes) end p) refl)
    where
      go : (k : Packed) → packed (num bytes) end p ≡ k → Ends (result_ok (found k))
      go (Ok y) s = whole_within (num bytes) end p h y.value y.bytes s
      go (Err why) s = tt

-- the same number has the same value, the same bit behind it, and is padded or not
value_of : Option NumberRead → ℕ
value_of None = 0
value_of (Some n) = n.value

next_of : Option NumberRead → ℕ
next_of None = 0
next_of (Some n) = n.next

padded_of : Option NumberRead → Bool
padded_of None = false
padded_of (Some n) = n.padded

same_value : {v v' q q' : ℕ} {x x' : Bool} → number_read v q x ≡ number_read v' q' x' → v ≡ v'
unfolding value_of
same_value e = ap value_of e

same_next : {v v' q q' : ℕ} {x x' : Bool} → number_read v q x ≡ number_read v' q' x' → q ≡ q'
unfolding next_of
same_next e = ap next_of e

same_padded : {v v' q q' : ℕ} {x x' : Bool} → number_read v q x ≡ number_read v' q' x' → x ≡ x'
unfolding padded_of
same_padded e = ap padded_of e

-- a number that the code got
pub record Got (w : Window) (p v q : ℕ) (x : Bool) : Type 0 where
  pub bytes : ℕ
  pub is : reading w p ≡ got v bytes
  pub next_is : p + 8 * bytes ≡ q
  pub told : padded v bytes ≡ x

module _ (w : Window) (p : ℕ) where
  pub number_got : (v q : ℕ) {x : Bool} → number_of p (reading w p) ≡ number_read v q x → Got w p v q x
  number_got v q {x} e = go (reading w p) refl e
    where
      go : (r : Reading) → reading w p ≡ r → number_of p r ≡ number_read v q x → Got w p v q x
      go failed s h = let z : ◌≡◌ {A = ℕ} 0 1 = cc in never z
      go (got v' b) s h =
          record { bytes = b; is = s ∙ ap (λ (k : ℕ). got k b) (same_value h); next_is = same_next h; told = ap (λ (k : ℕ). padded k b) (sym (same_value h)) ∙ same_padded h }

  pub number_failed : number_of p (reading w p) ≡ None → reading w p ≡ failed
  number_failed e = go (reading w p) refl e
    where
      go : (r : Reading) → reading w p ≡ r → number_of p r ≡ None → reading w p ≡ failed
      go failed s h = s
      go (got v b) s h = let z : ◌≡◌ {A = ℕ} 0 1 = cc in never z

  -- it takes a byte at least and lies in the window
  pub number_within : (v q : ℕ) {x : Bool} → number_of p (reading w p) ≡ number_read v q x → (p + 8 ≤ q) × (q ≤ w.size)
  unfolding reading
  number_within v q {x} e = go (packed w.bits w.size p) (packed_lies w.bits w.size p) e
    where
      go : (r : Packed) → Lies w.size p r → number_of p (reading_of r) ≡ number_read v q x → (p + 8 ≤ q) × (q ≤ w.size)
      go _ (whole {x = x} h k) d =
          let f : p + 8 * x.bytes ≡ q = same_next d in
          let l : p + 8 ≤ q = omega arith in
          let m : q ≤ w.size = omega arith in
          (l, m)
      go _ cut d = let z : ◌≡◌ {A = ℕ} 0 1 = cc in never z
      go _ goes_on d = let z : ◌≡◌ {A = ℕ} 0 1 = cc in never z
      go _ overflows d = let z : ◌≡◌ {A = ℕ} 0 1 = cc in never z

  -- ---- a level

  pub level_failed : number_of p (reading w p) ≡ None → level_head_lem w p ≡ head.Failed
  unfolding level_head_lem
  level_failed e = ap count_head e

  pub level_limit : (v q : ℕ) {x : Bool} → number_of p (reading w p) ≡ number_read v q x → max_elements < v → level_head_lem w p ≡ head.Limit q
  unfolding level_head_lem
  level_limit v q e h = ap count_head e ∙ simp (lt-ltb max_elements v h)

  pub level_go : (v q : ℕ) {x : Bool} → number_of p (reading w p) ≡ number_read v q x → v ≤ max_elements → level_head_lem w p ≡ head.Go v q q
  unfolding level_head_lem
  level_go v q e h = ap count_head e ∙ simp (le-ltb max_elements v h)

  -- ---- an index or a handle

  lead_closed : (q : ℕ) {x : Bool} → p < w.size → (g : Got w p 0 q x) → lead w p ≡ closes (number_at w p g.bytes 0) q
  lead_closed q h g = lead_zero w p g.bytes h g.is ∙ ap (closes (number_at w p g.bytes 0)) g.next_is

  lead_opened : (v q : ℕ) {x : Bool} → p < w.size → (g : Got w p v q x) → (v ≡ 0 → ⊥) → lead w p ≡ opens (number_at w p g.bytes v) (v - 1) q
  lead_opened v q h g n = lead_more w p v g.bytes h g.is n ∙ ap (opens (number_at w p g.bytes v) (v - 1)) g.next_is

  module _ (count left : ℕ) where
    pub element_ended : w.size ≤ p → element_head_lem w count left p ≡ head.Ended
    unfolding element_head_lem
    element_ended h = ap (index_head count left p) (lead_ends w p h)

    module _ (h : p < w.size) where
      pub element_failed : number_of p (reading w p) ≡ None → element_head_lem w count left p ≡ head.Failed
      unfolding element_head_lem
      element_failed e = ap (index_head count left p) (lead_fails w p h (number_failed e))

      module _ (v q : ℕ) {x : Bool} (e : number_of p (reading w p) ≡ number_read v q x) where
        pub element_closed : v ≡ 0 → element_head_lem w count left p ≡ head.Closed q
        unfolding element_head_lem
        element_closed z = ap (index_head count left p) (lead_closed q h (subst (λ (k : ℕ). Got w p k q x) z (number_got v q e)))

        module _ (n : v ≡ 0 → ⊥) where
          opened : element_head_lem w count left p ≡ index_head count left p (opens (number_at w p (number_got v q e).bytes v) (v - 1) q)
          unfolding element_head_lem
          opened = ap (index_head count left p) (lead_opened v q h (number_got v q e) n)

          pub element_limit : left ≡ 0 → element_head_lem w count left p ≡ head.Limit p
          element_limit z = opened ∙ simp (eq-eqb left 0 z)

          pub element_beyond : (left ≡ 0 → ⊥) → count < v → element_head_lem w count left p ≡ head.Failed
          element_beyond m l =
              let k : count ≤ v - 1 = omega arith in
              opened ∙ simp (ne_eqb left 0 m, le-leb count (v - 1) k)

          pub element_go : (left ≡ 0 → ⊥) → v ≤ count → element_head_lem w count left p ≡ head.Go (v - 1) q q
          element_go m l =
              let k : v - 1 < count = omega (arith, n) in
              opened ∙ simp (ne_eqb left 0 m, lt-leb count (v - 1) k)

  -- ---- a width

  module _ (handle : ℕ) where
    pub width_failed : number_of p (reading w p) ≡ None → width_head_lem w handle p ≡ head.Failed
    unfolding width_head_lem
    width_failed e = ap (sized_head w handle) e

    pub width_past : (k q : ℕ) {x : Bool} → number_of p (reading w p) ≡ number_read k q x → w.size < q + k → width_head_lem w handle p ≡ head.Failed
    unfolding width_head_lem
    width_past k q e h = ap (sized_head w handle) e ∙ simp (lt-ltb w.size (q + k) h)

    pub width_go : (k q : ℕ) {x : Bool} → number_of p (reading w p) ≡ number_read k q x → q + k ≤ w.size → width_head_lem w handle p ≡ head.Go handle q (q + k)
    unfolding width_head_lem
    width_go k q e h = ap (sized_head w handle) e ∙ simp (le-ltb w.size (q + k) h)

  -- ---- a field

  -- a field's head is its width's
  due_sized : (e : Number) (handle q : ℕ) (r : Reading) → due_head (with_width w e handle q r) ≡ sized_head w handle (number_of q r)
  due_sized e handle q failed = refl
  due_sized e handle q (got k b) = go (ltb w.size (q + 8 * b + k)) refl
    where
      go : (x : Bool) → ltb w.size (q + 8 * b + k) ≡ x → due_head (with_width w e handle q (got k b)) ≡ sized_head w handle (number_of q (got k b))
      go true t = rw t
      go false t = rw t

  pub field_ended : (left : ℕ) → w.size ≤ p → field_head_lem w left p ≡ head.Ended
  unfolding field_head_lem
  field_ended zero h = ap (last_head p) (lead_ends w p h)
  field_ended (suc left) h = ap due_head (field_at_lead w p ∙ ap (field_of w) (lead_ends w p h))

  module _ (h : p < w.size) where
    pub field_failed : (left : ℕ) → number_of p (reading w p) ≡ None → field_head_lem w left p ≡ head.Failed
    unfolding field_head_lem
    field_failed zero e = ap (last_head p) (lead_fails w p h (number_failed e))
    field_failed (suc left) e = ap due_head (field_at_lead w p ∙ ap (field_of w) (lead_fails w p h (number_failed e)))

    module _ (v q : ℕ) {x : Bool} (e : number_of p (reading w p) ≡ number_read v q x) where
      pub field_closed : (left : ℕ) → v ≡ 0 → field_head_lem w left p ≡ head.Closed q
      unfolding field_head_lem
      field_closed zero z = ap (last_head p) (lead_closed q h (subst (λ (k : ℕ). Got w p k q x) z (number_got v q e)))
      field_closed (suc left) z =
          ap due_head (field_at_lead w p ∙ ap (field_of w) (lead_closed q h (subst (λ (k : ℕ). Got w p k q x) z (number_got v q e))))

      pub field_limit : (left : ℕ) → (v ≡ 0 → ⊥) → left ≡ 0 → field_head_lem w left p ≡ head.Limit p
      unfolding field_head_lem
      field_limit zero n z = ap (last_head p) (lead_opened v q h (number_got v q e) n)
      field_limit (suc left) n z = absurd (omega arith)

      pub field_wide : (left : ℕ) → (v ≡ 0 → ⊥) → (left ≡ 0 → ⊥) → field_head_lem w left p ≡ width_head_lem w (v - 1) q
      unfolding field_head_lem width_head_lem
      field_wide zero n m = absurd (m refl)
      field_wide (suc left) n m =
          ap due_head (field_at_lead w p ∙ ap (field_of w) (lead_opened v q h (number_got v q e) n))
          ∙ due_sized (number_at w p (number_got v q e).bytes v) (v - 1) q (reading w q)

-- ---- two numbers of one byte each

-- a number of one byte
pub one_byte : (bytes : List ℕ) (end p b : ℕ) → p + 8 ≤ end → b ≡ field (num bytes) p 8 → b % 2 ≡ 0
    → number_of p (reading (up_to bytes end) p) ≡ number_read (b / 2) (p + 8) false
one_byte bytes end p b h eb e =
    sym (number_is bytes end p (K.whole (b / 2) 1) (packed_one (num bytes) end p b h eb e))
    ∙ ap (number_read (b / 2) (p + 8)) (P.one_byte (b / 2) 1 (omega arith))

module _ (bytes : List ℕ) (end p left two : ℕ) (room : p + 16 ≤ end) (is : two ≡ field (num bytes) p 16) where
  pub first_is : two % 256 ≡ field (num bytes) p 8
  first_is = ap (λ (k : ℕ). k % 2 ^ 8) is ∙ field_low (num bytes) p 8 16 (omega arith)

  second_is : two / 256 ≡ field (num bytes) (p + 8) 8
  second_is = ap (λ (k : ℕ). k / 2 ^ 8) is ∙ field_high (num bytes) p 16 8 (omega arith)

  pub inside_window : p < (up_to bytes end).size
  unfolding up_to
  inside_window = omega arith

  pub two_closed : two % 256 ≡ 0 → field_head_lem (up_to bytes end) left p ≡ head.Closed (p + 8)
  two_closed z =
      let e : two % 256 % 2 ≡ 0 = omega arith in
      let n : two % 256 / 2 ≡ 0 = omega arith in
      field_closed (up_to bytes end) p inside_window _ _ (one_byte bytes end p (two % 256) (omega arith) first_is e) left n

  module _ (some : two % 256 ≡ 0 → ⊥) (even : two % 256 % 2 ≡ 1 → ⊥) where
    pub first_number : number_of p (reading (up_to bytes end) p) ≡ number_read (two % 256 / 2) (p + 8) false
    first_number = let e : two % 256 % 2 ≡ 0 = omega (arith, even) in one_byte bytes end p (two % 256) (omega arith) first_is e

    pub not_zero : two % 256 / 2 ≡ 0 → ⊥
    not_zero z = some (let e : two % 256 % 2 ≡ 0 = omega (arith, even) in omega arith)

    pub two_limit : left ≡ 0 → field_head_lem (up_to bytes end) left p ≡ head.Limit p
    two_limit z = field_limit (up_to bytes end) p inside_window _ _ first_number left not_zero z

    module _ (more : left ≡ 0 → ⊥) where
      pub two_wide : field_head_lem (up_to bytes end) left p ≡ width_head_lem (up_to bytes end) (two % 256 / 2 - 1) (p + 8)
      two_wide = field_wide (up_to bytes end) p inside_window _ _ first_number left not_zero more

      module _ (short : two / 256 % 2 ≡ 1 → ⊥) where
        pub second_number : number_of (p + 8) (reading (up_to bytes end) (p + 8)) ≡ number_read (two / 256 / 2) (p + 16) false
        second_number =
            let e : two / 256 % 2 ≡ 0 = omega (arith, short) in
            let q : p + 8 + 8 ≡ p + 16 = omega arith in
            one_byte bytes end (p + 8) (two / 256) (omega arith) second_is e ∙ ap (λ (k : ℕ). number_read (two / 256 / 2) k false) q

        pub two_past : end < p + 16 + two / 256 / 2 → field_head_lem (up_to bytes end) left p ≡ head.Failed
        unfolding up_to
        two_past h = two_wide ∙ width_past (up_to bytes end) (p + 8) _ _ _ second_number h

        pub two_go : p + 16 + two / 256 / 2 ≤ end
            → field_head_lem (up_to bytes end) left p ≡ head.Go (two % 256 / 2 - 1) (p + 16) (p + 16 + two / 256 / 2)
        unfolding up_to
        two_go h = two_wide ∙ width_go (up_to bytes end) (p + 8) _ _ _ second_number h
