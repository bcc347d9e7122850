-- A window that starts b bits into the bytes: what stands at its bit p is what stands at bit b + p of the bytes.
use Rattle.std.specs.Prelude.{if◌then◌else◌}
use Rattle.std.proofs.Common.{◌≡◌, ℕ, zero, suc, ◌+◌, ◌-◌, ◌*◌, ◌/◌, ◌%◌, ◌≤◌, Bool, true, false, ◌&&◌, eqb, ltb, leb, List, [], ◌∷◌, take, drop, sym, refl, ap, ◌∙◌, ap₂, add-zero, add_assoc, arith, ltb-false, ltb-true, le-ltb, lt-ltb, le-leb, leb-false, leb-true}
use borrow.Author.Tests.{lt-leb}
use Rattle.bits.specs.Sizes.{trailer_bits, max_elements}
use Rattle.bits.specs.Bits.{num, field, Bytes}
use Rattle.bits.proofs.FieldLaws.{field_field, field_part}
use Rattle.schema.specs.Labels.{dot, raw_label}
use Rattle.framing.specs.Windows.{Window, part, Reading, got, failed, reading}
use Rattle.framing.specs.Events.{raw_handle, Event, Trace, number}
use Rattle.framing.specs.Walk.{Sink, number_at, ends, lead_of, lead, with_width, field_of, field_at, raw_leaf, tail, trailer_of, closing}
use Rattle.steps.specs.Views.{inner, up_to}
use Rattle.steps.specs.Heads.{number_of, count_head, level_head_lem, index_head, element_head_lem, last_head, due_head, field_head_lem, shifted}
use Rattle.steps.proofs.ViewLaws.{reading_inner}
use Rattle.steps.specs.declared.Head.TheVariants as head

-- ---- tests and choices

leb_shift : (b e p : ℕ) → b ≤ e → leb (e - b) p ≡ leb e (b + p)
leb_shift b e p h = go (leb e (b + p)) refl
  where
    go : (x : Bool) → leb e (b + p) ≡ x → leb (e - b) p ≡ x
    go true q = let z = leb-true e (b + p) q in le-leb (e - b) p (omega arith)
    go false q = let z = leb-false e (b + p) q in lt-leb (e - b) p (omega arith)

ltb_shift : (b e p q : ℕ) → b ≤ e → b + p ≡ q → ltb (e - b) p ≡ ltb e q
ltb_shift b e p q h s = go (ltb e q) refl
  where
    go : (x : Bool) → ltb e q ≡ x → ltb (e - b) p ≡ x
    go true r = let z = ltb-true e q r in lt-ltb (e - b) p (omega arith)
    go false r = let z = ltb-false e q r in le-ltb (e - b) p (omega arith)

go_at : (v q r : ℕ) → q ≡ r → head.Go v q q ≡ head.Go v r r
go_at v q r e = ap (λ (n : ℕ). head.Go v n n) e

-- ---- readings and heads

module _ (bytes : List ℕ) (base b end : ℕ) (h : b ≤ end) where
  pub size_inner : (inner bytes base b end).size ≡ end - b
  unfolding inner
  size_inner = refl

  pub past : (p : ℕ) → leb (inner bytes base b end).size p ≡ leb (up_to bytes end).size (b + p)
  unfolding inner up_to
  past p = leb_shift b end p h

  pub level_shift : (p : ℕ) → level_head_lem (up_to bytes end) (b + p) ≡ shifted b (level_head_lem (inner bytes base b end) p)
  unfolding level_head_lem
  level_shift p =
      go (reading (up_to bytes end) (b + p))
      ∙ ap (λ (r : Reading). shifted b (count_head (number_of p r))) (sym (reading_inner bytes base b end p h))
    where
      go : (r : Reading) → count_head (number_of (b + p) r) ≡ shifted b (count_head (number_of p r))
      go failed = refl
      go (got v n) = go2 (ltb max_elements v)
        where
          go2 : (x : Bool) → (if x then head.Limit (b + p + 8 * n) else head.Go v (b + p + 8 * n) (b + p + 8 * n))
              ≡ shifted b (if x then head.Limit (p + 8 * n) else head.Go v (p + 8 * n) (p + 8 * n))
          go2 true = ap head.Limit (add_assoc b p (8 * n))
          go2 false = go_at v (b + p + 8 * n) (b + (p + 8 * n)) (add_assoc b p (8 * n))

  -- heads by what is read
  element_by : (w : Window) (count left p : ℕ) (x : Bool) (r : Reading) → leb w.size p ≡ x → reading w p ≡ r
      → element_head_lem w count left p ≡ index_head count left p (if x then ends else lead_of w p r)
  unfolding element_head_lem lead
  element_by w count left p x r e f = rw (e, f)

  pub element_shift : (count left p : ℕ) → element_head_lem (up_to bytes end) count left (b + p) ≡ shifted b (element_head_lem (inner bytes base b end) count left p)
  element_shift count left p =
      element_by (up_to bytes end) count left (b + p) (leb (up_to bytes end).size (b + p)) (reading (up_to bytes end) (b + p)) refl refl
      ∙ go (leb (up_to bytes end).size (b + p)) (reading (up_to bytes end) (b + p))
      ∙ ap (shifted b) (sym (element_by (inner bytes base b end) count left p (leb (up_to bytes end).size (b + p)) (reading (up_to bytes end) (b + p)) (past p) (reading_inner bytes base b end p h)))
    where
      go : (x : Bool) (r : Reading) → index_head count left (b + p) (if x then ends else lead_of (up_to bytes end) (b + p) r)
          ≡ shifted b (index_head count left p (if x then ends else lead_of (inner bytes base b end) p r))
      go true r = refl
      go false failed = refl
      go false (got v n) = go2 (eqb v 0) (eqb left 0) (leb count (v - 1)) refl refl refl
        where
          go2 : (x y z : Bool) → eqb v 0 ≡ x → eqb left 0 ≡ y → leb count (v - 1) ≡ z
              → index_head count left (b + p) (lead_of (up_to bytes end) (b + p) (got v n)) ≡ shifted b (index_head count left p (lead_of (inner bytes base b end) p (got v n)))
          go2 true y z ex ey ez = rw ex (ap head.Closed (add_assoc b p (8 * n)))
          go2 false true z ex ey ez = rw (ex, ey)
          go2 false false true ex ey ez = rw (ex, ey, ez)
          go2 false false false ex ey ez = rw (ex, ey, ez) (go_at (v - 1) (b + p + 8 * n) (b + (p + 8 * n)) (add_assoc b p (8 * n)))

  field_none : (w : Window) (p : ℕ) (x : Bool) (r : Reading) → leb w.size p ≡ x → reading w p ≡ r
      → field_head_lem w 0 p ≡ last_head p (if x then ends else lead_of w p r)
  unfolding field_head_lem lead
  field_none w p x r e f = rw (e, f)

  field_some : (w : Window) (left p : ℕ) (x : Bool) (r : Reading) → leb w.size p ≡ x → reading w p ≡ r
      → field_head_lem w (suc left) p ≡ due_head (field_of w (if x then ends else lead_of w p r))
  unfolding field_head_lem field_at lead
  field_some w left p x r e f = rw (e, f)

  -- the width's number
  width_shift : (p q : ℕ) (e f : _) (hd : ℕ) → b + p ≡ q → due_head (with_width (up_to bytes end) e hd q (reading (up_to bytes end) q)) ≡ shifted b (due_head (with_width (inner bytes base b end) f hd p (reading (inner bytes base b end) p)))
  unfolding inner up_to
  width_shift p q e f hd s =
      go (reading (up_to bytes end) q) refl
      ∙ ap (λ (r : Reading). shifted b (due_head (with_width (inner bytes base b end) f hd p r))) (ap (reading (up_to bytes end)) (sym s) ∙ sym (reading_inner bytes base b end p h))
    where
      go : (r : Reading) → reading (up_to bytes end) q ≡ r → due_head (with_width (up_to bytes end) e hd q r) ≡ shifted b (due_head (with_width (inner bytes base b end) f hd p r))
      go failed er = refl
      go (got k n) er = go2 (ltb end (q + 8 * n + k)) refl
        where
          here : b + (p + 8 * n + k) ≡ q + 8 * n + k
          here = omega arith

          go2 : (x : Bool) → ltb end (q + 8 * n + k) ≡ x → due_head (with_width (up_to bytes end) e hd q (got k n)) ≡ shifted b (due_head (with_width (inner bytes base b end) f hd p (got k n)))
          go2 true ex = rw (ltb_shift b end (p + 8 * n + k) (q + 8 * n + k) h here, ex)
          go2 false ex =
              let u : q + 8 * n ≡ b + (p + 8 * n) = omega arith in
              let v : q + 8 * n + k ≡ b + (p + 8 * n + k) = omega arith in
              rw (ltb_shift b end (p + 8 * n + k) (q + 8 * n + k) h here, ex) (ap₂ (head.Go hd) u v)

  pub field_shift : (left p : ℕ) → field_head_lem (up_to bytes end) left (b + p) ≡ shifted b (field_head_lem (inner bytes base b end) left p)
  field_shift zero p =
      field_none (up_to bytes end) (b + p) (leb (up_to bytes end).size (b + p)) (reading (up_to bytes end) (b + p)) refl refl
      ∙ go (leb (up_to bytes end).size (b + p)) (reading (up_to bytes end) (b + p))
      ∙ ap (shifted b) (sym (field_none (inner bytes base b end) p (leb (up_to bytes end).size (b + p)) (reading (up_to bytes end) (b + p)) (past p) (reading_inner bytes base b end p h)))
    where
      go : (x : Bool) (r : Reading) → last_head (b + p) (if x then ends else lead_of (up_to bytes end) (b + p) r) ≡ shifted b (last_head p (if x then ends else lead_of (inner bytes base b end) p r))
      go true r = refl
      go false failed = refl
      go false (got v n) = go2 (eqb v 0) refl
        where
          go2 : (x : Bool) → eqb v 0 ≡ x → last_head (b + p) (lead_of (up_to bytes end) (b + p) (got v n)) ≡ shifted b (last_head p (lead_of (inner bytes base b end) p (got v n)))
          go2 true ex = rw ex (ap head.Closed (add_assoc b p (8 * n)))
          go2 false ex = rw ex
  field_shift (suc left) p =
      field_some (up_to bytes end) left (b + p) (leb (up_to bytes end).size (b + p)) (reading (up_to bytes end) (b + p)) refl refl
      ∙ go (leb (up_to bytes end).size (b + p)) (reading (up_to bytes end) (b + p))
      ∙ ap (shifted b) (sym (field_some (inner bytes base b end) left p (leb (up_to bytes end).size (b + p)) (reading (up_to bytes end) (b + p)) (past p) (reading_inner bytes base b end p h)))
    where
      go : (x : Bool) (r : Reading) → due_head (field_of (up_to bytes end) (if x then ends else lead_of (up_to bytes end) (b + p) r)) ≡ shifted b (due_head (field_of (inner bytes base b end) (if x then ends else lead_of (inner bytes base b end) p r)))
      go true r = refl
      go false failed = refl
      go false (got v n) = go2 (eqb v 0) refl
        where
          go2 : (x : Bool) → eqb v 0 ≡ x → due_head (field_of (up_to bytes end) (lead_of (up_to bytes end) (b + p) (got v n))) ≡ shifted b (due_head (field_of (inner bytes base b end) (lead_of (inner bytes base b end) p (got v n))))
          go2 true ex = rw ex (ap head.Closed (add_assoc b p (8 * n)))
          go2 false ex = rw ex (width_shift (p + 8 * n) (b + p + 8 * n) (number_at (up_to bytes end) (b + p) n v) (number_at (inner bytes base b end) p n v) (v - 1) (sym (add_assoc b p (8 * n))))

-- ---- ways out

-- a part of a window is the window of its bits
pub part_inner : (bytes : List ℕ) (base b end p k : ℕ) → b + p + k ≤ end → part (inner bytes base b end) p k ≡ inner bytes base (b + p) (b + p + k)
unfolding inner
part_inner bytes base b end p k h =
    let n : k ≡ b + p + k - (b + p) = omega arith in
    let f : field (field (num bytes) b (end - b)) p k ≡ field (num bytes) (b + p) (b + p + k - (b + p)) =
    field_field (num bytes) b (end - b) p k (omega arith) ∙ ap (field (num bytes) (b + p)) n in
    let s : base + b + p ≡ base + (b + p) = omega arith in
    λ i. record { bits = f i; size = n i; origin = s i }

module _ (bytes : List ℕ) (base b end p : ℕ) (h : b + p ≤ end) where
  raw_shift : (path : List ℕ) → raw_leaf (inner bytes base b end) path p ≡ raw_leaf (inner bytes base (b + p) end) path 0
  unfolding inner
  raw_shift path =
      let n : end - b - p ≡ end - (b + p) - 0 = omega arith in
      let s : base + b + p ≡ base + (b + p) + 0 = omega arith in
      let m : b + p + 0 ≡ b + p = omega arith in
      let f : field (field (num bytes) b (end - b)) p (end - b - p) ≡ field (field (num bytes) (b + p) (end - (b + p))) 0 (end - (b + p) - 0) =
      field_field (num bytes) b (end - b) p (end - b - p) (omega arith)
      ∙ ap₂ (λ (u v : ℕ). field (num bytes) u v) (sym m) n
      ∙ sym (field_field (num bytes) (b + p) (end - (b + p)) 0 (end - (b + p) - 0) (omega arith)) in
      λ i. record { path = dot path raw_label; handle = raw_handle; start = s i; width = n i; payload = f i }

  more_shift : ltb p (inner bytes base b end).size ≡ ltb 0 (inner bytes base (b + p) end).size
  unfolding inner
  more_shift = go (ltb 0 (end - (b + p))) refl
    where
      go : (x : Bool) → ltb 0 (end - (b + p)) ≡ x → ltb p (end - b) ≡ x
      go true e = let z = ltb-true 0 (end - (b + p)) e in lt-ltb p (end - b) (omega arith)
      go false e = let z = ltb-false 0 (end - (b + p)) e in le-ltb p (end - b) (omega arith)

  -- a kept tail
  pub tail_shift : (s e : Sink) (path : List ℕ) → s.flattens ≡ e.flattens → tail s (inner bytes base b end) path p ≡ tail e (inner bytes base (b + p) end) path 0
  unfolding tail
  tail_shift s e path f = rw (f, more_shift, raw_shift path)

  left_shift : (inner bytes base b end).size - p ≡ (inner bytes base (b + p) end).size - 0
  unfolding inner
  left_shift = omega arith

  here : (n v : ℕ) → number_at (inner bytes base b end) p n v ≡ number_at (inner bytes base (b + p) end) 0 n v
  unfolding inner
  here n v = let s : base + b + p ≡ base + (b + p) + 0 = omega arith in λ i. record { start = s i; bytes = n; value = v }

  same_reading : reading (inner bytes base b end) p ≡ reading (inner bytes base (b + p) end) 0
  same_reading =
      reading_inner bytes base b end p (omega arith)
      ∙ ap (reading (up_to bytes end)) (sym (add-zero (b + p)))
      ∙ sym (reading_inner bytes base (b + p) end 0 h)

  -- what follows a terminator
  pub closing_shift : (s e : Sink) → s.trailer ≡ e.trailer → s.leftover ≡ e.leftover → closing s (inner bytes base b end) p ≡ closing e (inner bytes base (b + p) end) 0
  unfolding closing
  closing_shift s e t l =
      go (s.trailer && eqb ((inner bytes base b end).size - p) trailer_bits) (reading (inner bytes base b end) p) ((inner bytes base b end).size - p)
      ∙ (λ i. by (t i && eqb (left_shift i) trailer_bits) (same_reading i) (left_shift i))
    where
      by : Bool → Reading → ℕ → Trace
      by x r n = if x then trailer_of e (inner bytes base (b + p) end) 0 r else e.leftover n ∷ []

      rest : (n : ℕ) → s.leftover n ≡ e.leftover n
      rest n = ap (λ (f : ℕ → Event). f n) l

      taken : (r : Reading) → trailer_of s (inner bytes base b end) p r ≡ trailer_of e (inner bytes base (b + p) end) 0 r
      taken failed = refl
      taken (got v n) = λ i. if eqb v 0 then number (here n v i) ∷ rest 0 i ∷ [] else rest trailer_bits i ∷ []

      go : (x : Bool) (r : Reading) (n : ℕ) → (if x then trailer_of s (inner bytes base b end) p r else s.leftover n ∷ []) ≡ by x r n
      go true r n = taken r
      go false r n = ap (λ (v : Event). v ∷ []) (rest n)

-- ---- the bytes that a payload touches

-- the bits start..end of the bytes are the same bits of the bytes that they touch; these start in the root window where the byte of bit start does
pub part_bytes : (bytes : List ℕ) (base start end m : ℕ) → Bytes bytes → start ≤ end → start % 8 + (end - start) ≤ 8 * m
    → inner (take m (drop (start / 8) bytes)) (base + (start - start % 8)) (start % 8) (start % 8 + (end - start)) ≡ inner bytes base start end
unfolding inner
part_bytes bytes base start end m ok le fit =
    let n : start % 8 + (end - start) - start % 8 ≡ end - start = omega arith in
    let p : 8 * (start / 8) + start % 8 ≡ start = omega arith in
    let f : field (num (take m (drop (start / 8) bytes))) (start % 8) (start % 8 + (end - start) - start % 8) ≡ field (num bytes) start (end - start) =
    ap (field (num (take m (drop (start / 8) bytes))) (start % 8)) n
    ∙ field_part bytes (start / 8) m (start % 8) (end - start) ok fit
    ∙ ap (λ (k : ℕ). field (num bytes) k (end - start)) p in
    let s : base + (start - start % 8) + start % 8 ≡ base + start = omega arith in
    λ i. record { bits = f i; size = n i; origin = s i }
