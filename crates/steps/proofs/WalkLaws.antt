-- What a head makes of a walk: the laws that the cycle's loops cite. A position `at` is a bit of the bytes; the window starts at bit b of them.
use Rattle.std.specs.Prelude.{if◌then◌else◌}
use Rattle.std.proofs.Common.{◌≡◌, ℕ, zero, suc, ◌+◌, ◌-◌, ◌*◌, ◌<◌, ◌≤◌, Bool, true, false, ◌&&◌, eqb, ltb, leb, List, [], ◌∷◌, ◌++◌, sym, refl, ap, ◌∙◌, subst, ap₂, add-zero, zero-add, arith, le-ltb, ne_eqb}
use borrow.Author.Tests.{lt-leb}
use Rattle.bits.proofs.Never.{never}
use Rattle.bits.specs.Packed.{Number}
use Rattle.bits.specs.Padded.{padded_among}
use Rattle.bits.specs.Sizes.{max_elements, max_fields}
use Rattle.framing.specs.Windows.{Window, part, Reading, got, failed, reading}
use Rattle.framing.specs.Events.{numbers, number, element, truncation, error, implicit, Trace}
use Rattle.framing.specs.Walk.{Sink, number_at, Lead, ends, fails, closes, opens, lead, Due, cut, broken, closed, present, field_at, tail, Run, done, stopped, prepend, fields, closing, in_item, behind, elements, level}
use Rattle.framing.proofs.StepLaws.{fields_last, fields_step, fields_present, elements_last, elements_step, level_count_lem}
use Rattle.outputs.specs.World.{World, wrapping}
use Rattle.outputs.proofs.Paste.{apply_append}
use Rattle.steps.specs.Tally.{played, padding}
use Rattle.steps.specs.Views.{inner, up_to, HeadIn}
use Rattle.steps.specs.Heads.{number_of, count_head, level_head_lem, index_head, element_head_lem, last_head, due_head, field_head_lem, shifted, pad_of, number_pads, element_pads, field_pads}
use Rattle.steps.specs.Gives.{fields_stop, level_stop}
use Rattle.steps.specs.declared.Head.{Head}
use Rattle.steps.specs.declared.Head.TheVariants as head
use Rattle.steps.proofs.CaseLaws.{NotGo, NotClosed, fields_stop_lem}
use Rattle.steps.proofs.TallyLaws.{played_none, played_then, played_number, played_numbers}
use Rattle.steps.proofs.ShiftLaws.{level_shift, element_shift, field_shift, tail_shift, closing_shift, part_inner, size_inner}
use Rattle.steps.proofs.PadLaws.{level_there, element_there, field_there, single, count_took, index_took, index_took_lem, due_took, last_took, due_took_lem}
use Rattle.steps.proofs.WithinLaws.{level_in, element_in, field_in, Counted, level_goes, Opened, element_goes, Presented, field_goes}

-- ---- traces that run

pub played_append : (t u : Trace) (x : World) → played (t ++ u) x ≡ played u (played t x)
unfolding played
played_append t u x = apply_append (wrapping 4294967296) t u x

-- ---- heads that end a walk

not_go_back : (b : ℕ) (h : Head) → NotGo (shifted b h) → NotGo h
not_go_back b head.Ended g = tt
not_go_back b head.Failed g = tt
not_go_back b (head.Closed n) g = tt
not_go_back b (head.Limit n) g = tt
not_go_back b (head.Go v p q) g = g

not_closed_back : (b : ℕ) (h : Head) → NotClosed (shifted b h) → NotClosed h
not_closed_back b head.Ended g = tt
not_closed_back b head.Failed g = tt
not_closed_back b (head.Closed n) g = g
not_closed_back b (head.Limit n) g = tt
not_closed_back b (head.Go v p q) g = tt

-- what such a head gives, its position a bit of the window
abbrev stop_at : Sink → Window → (path : List ℕ) → Head → Trace
stop_at s w path head.Ended = implicit ∷ []
stop_at s w path head.Failed = error ∷ []
stop_at s w path (head.Closed q) = closing s w q
stop_at s w path (head.Limit q) = truncation ∷ tail s w path q
stop_at s w path (head.Go v q r) = []

-- sinks whose ways out are the same
pub record Alike (s e : Sink) : Type 0 where
  pub trailer : s.trailer ≡ e.trailer
  pub flattens : s.flattens ≡ e.flattens
  pub leftover : s.leftover ≡ e.leftover

stop_shift : (s e : Sink) → Alike s e → (bytes : List ℕ) (base b end : ℕ) (path : List ℕ) → b ≤ end → (h : Head) → HeadIn (end - b) h → NotGo h
    → stop_at s (inner bytes base b end) path h ≡ level_stop e bytes base end path (shifted b h)
unfolding level_stop
stop_shift s e a bytes base b end path le head.Ended i g = refl
stop_shift s e a bytes base b end path le head.Failed i g = refl
stop_shift s e a bytes base b end path le (head.Closed q) i g = closing_shift bytes base b end q (omega arith) s e a.trailer a.leftover
stop_shift s e a bytes base b end path le (head.Limit q) i g = ap (λ (t : Trace). truncation ∷ t) (tail_shift bytes base b end q (omega arith) s e path a.flattens)
stop_shift s e a bytes base b end path le (head.Go v q r) i g = absurd g

module _ (s : Sink) (w : Window) (path : List ℕ) where
  level_stops : (x : World) → NotGo (level_head_lem w 0) → played (level s w path) x ≡ played (stop_at s w path (level_head_lem w 0)) (padding (number_pads w 0) x)
  unfolding level_head_lem number_pads padding
  level_stops x n = ap (λ (t : Trace). played t x) (level_count_lem s w path) ∙ go (reading w 0) refl n
    where
      go : (r : Reading) → reading w 0 ≡ r → NotGo (count_head (number_of 0 r))
          → played (Rattle.framing.specs.Walk.on_count s w path r) x ≡ played (stop_at s w path (count_head (number_of 0 r))) (padding (pad_of r) x)
      go failed e g = refl
      go (got v k) e g = go2 (ltb max_elements v) refl g
        where
          go2 : (y : Bool) → ltb max_elements v ≡ y → NotGo (if y then head.Limit (0 + 8 * k) else head.Go v (0 + 8 * k) (0 + 8 * k))
              → played (if y then number (number_at w 0 k v) ∷ truncation ∷ tail s w path (8 * k) else number (number_at w 0 k v) ∷ elements s w path v max_elements (8 * k)) x
              ≡ played (stop_at s w path (if y then head.Limit (0 + 8 * k) else head.Go v (0 + 8 * k) (0 + 8 * k))) (padding (pad_of (got v k)) x)
          go2 true ey g =
              sym (played_number (number_at w 0 k v) (truncation ∷ tail s w path (8 * k)) x)
              ∙ ap₂ (λ (m n : ℕ). played (truncation ∷ tail s w path m) (padding n x)) (sym (zero-add (8 * k))) (single (number_at w 0 k v))
          go2 false ey g = absurd g

  elements_stops : (count left p : ℕ) (x : World) → NotGo (element_head_lem w count left p)
      → played (elements s w path count left p) x ≡ played (stop_at s w path (element_head_lem w count left p)) (padding (element_pads w left p) x)
  unfolding element_head_lem padding
  elements_stops count zero p x n =
      ap (λ (t : Trace). played t x) (elements_last s w path count p)
      ∙ go (lead w p) n
      ∙ ap (λ (k : ℕ). played (stop_at s w path (index_head count 0 p (lead w p))) (padding k x)) (sym (index_took_lem w p 0))
    where
      go : (l : Lead) → NotGo (index_head count 0 p l)
          → played (Rattle.framing.specs.Walk.on_last_index s w path p l) x ≡ played (stop_at s w path (index_head count 0 p l)) (padding (index_took w p 0 l) x)
      go ends g = refl
      go fails g = refl
      go (closes e q) g = sym (played_number e (closing s w q) x)
      go (opens e i q) g = refl
  elements_stops count (suc left) p x n =
      ap (λ (t : Trace). played t x) (elements_step s w path count left p)
      ∙ go (lead w p) n
      ∙ ap (λ (k : ℕ). played (stop_at s w path (index_head count (suc left) p (lead w p))) (padding k x)) (sym (index_took_lem w p (suc left)))
    where
      some : eqb (suc left) 0 ≡ false
      some = ne_eqb (suc left) 0 (λ z. omega arith)

      go : (l : Lead) → NotGo (index_head count (suc left) p l)
          → played (Rattle.framing.specs.Walk.on_index s w path count (λ q. elements s w path count left q) l) x
          ≡ played (stop_at s w path (index_head count (suc left) p l)) (padding (index_took w p (suc left) l) x)
      go ends g = refl
      go fails g = refl
      go (closes e q) g = sym (played_number e (closing s w q) x)
      go (opens e i q) g = rw some (go2 (leb count i) refl (rw some at g))
        where
          go2 : (y : Bool) → leb count i ≡ y → NotGo (if y then head.Failed else head.Go i q q)
              → played (if y then number e ∷ error ∷ [] else number e ∷ element (in_item s path i) ∷ behind (λ r. elements s w path count left r) (fields s w i (in_item s path i) max_fields q true)) x
              ≡ played (stop_at s w path (if y then head.Failed else head.Go i q q)) (padding (padded_among (e ∷ [])) x)
          go2 true ey g = sym (played_number e (error ∷ []) x)
          go2 false ey g = absurd g

  -- an element's fields that end without closing give what the head gives
  pub record Halted (r : Run) (u : Trace) (pads : ℕ) : Type 0 where
    pub trace : Trace
    pub is : r ≡ stopped trace
    pub same : (x : World) → played trace x ≡ played u (padding pads x)

  fields_halt : (i : ℕ) (left p : ℕ) (first : Bool) → NotGo (field_head_lem w left p) → NotClosed (field_head_lem w left p)
      → Halted (fields s w i path left p first) (stop_at s w path (field_head_lem w left p)) (field_pads w left p)
  unfolding field_head_lem padding padded_among
  fields_halt i zero p first n c =
      subst (Halted (fields s w i path 0 p first) (stop_at s w path (last_head p (lead w p)))) (sym (last_took w p)) (go (lead w p) refl n c)
    where
      go : (l : Lead) → lead w p ≡ l → NotGo (last_head p l) → NotClosed (last_head p l)
          → Halted (fields s w i path 0 p first) (stop_at s w path (last_head p l)) (index_took w p 0 l)
      go ends e g d = record { trace = implicit ∷ []; is = rw (fields_last, e); same = λ x. refl }
      go fails e g d = record { trace = error ∷ []; is = rw (fields_last, e); same = λ x. refl }
      go (closes y q) e g d = absurd d
      go (opens y h q) e g d = record { trace = truncation ∷ tail s w path p; is = rw (fields_last, e); same = λ x. refl }
  fields_halt i (suc left) p first n c =
      subst (Halted (fields s w i path (suc left) p first) (stop_at s w path (due_head (field_at w p)))) (sym (due_took_lem w p left)) (go (field_at w p) refl n c)
    where
      go : (d : Due) → field_at w p ≡ d → NotGo (due_head d) → NotClosed (due_head d)
          → Halted (fields s w i path (suc left) p first) (stop_at s w path (due_head d)) (due_took w p d)
      go cut e g d = record { trace = implicit ∷ []; is = rw (fields_step, e); same = λ x. refl }
      go (broken ns) e g d = record { trace = numbers ns ++ (error ∷ []); is = rw (fields_step, e); same = λ x. sym (played_numbers ns (error ∷ []) x) }
      go (closed y q) e g d = absurd d
      go (present ns h q k) e g d = absurd g

  -- and those that close give nothing more
  pub record Closes (r : Run) (q pads : ℕ) : Type 0 where
    pub read : Number
    pub is : r ≡ done (number read ∷ []) q
    pub took : pads ≡ padded_among (read ∷ [])

  fields_close : (i : ℕ) (left p : ℕ) (first : Bool) (q : ℕ) → field_head_lem w left p ≡ head.Closed q → Closes (fields s w i path left p first) q (field_pads w left p)
  unfolding field_head_lem
  fields_close i zero p first q e = go (lead w p) refl e
    where
      go : (l : Lead) → lead w p ≡ l → last_head p l ≡ head.Closed q → Closes (fields s w i path 0 p first) q (field_pads w 0 p)
      go ends el f = never cc
      go fails el f = never cc
      go (closes y r) el f =
          let z : r ≡ q = cc in
          record { read = y; is = rw (fields_last, el) (ap (done (number y ∷ [])) z); took = last_took w p ∙ ap (index_took w p 0) el }
      go (opens y h r) el f = never cc
  fields_close i (suc left) p first q e = go (field_at w p) refl e
    where
      go : (d : Due) → field_at w p ≡ d → due_head d ≡ head.Closed q → Closes (fields s w i path (suc left) p first) q (field_pads w (suc left) p)
      go cut ed f = never cc
      go (broken ns) ed f = never cc
      go (closed y r) ed f =
          let z : r ≡ q = cc in
          record { read = y; is = rw (fields_step, ed) (ap (done (number y ∷ [])) z); took = due_took_lem w p left ∙ ap (due_took w p) ed }
      go (present ns h r k) ed f = never cc

-- ---- the same at positions of the bytes

-- a head of the bytes that goes on is one of the window that goes on
record Back (b : ℕ) (g : Head) (v f m : ℕ) : Type 0 where
  next : ℕ
  last : ℕ
  is : g ≡ head.Go v next last
  from_next : f ≡ b + next
  from_last : m ≡ b + last

go_back : (b : ℕ) (g : Head) {v f m : ℕ} → shifted b g ≡ head.Go v f m → Back b g v f m
go_back b head.Ended e = never cc
go_back b head.Failed e = never cc
go_back b (head.Closed q) e = never cc
go_back b (head.Limit q) e = never cc
go_back b (head.Go u q r) {v} {f} {m} e =
    let a : u ≡ v = cc in
    let c : b + q ≡ f = cc in
    let d : b + r ≡ m = cc in
    record { next = q; last = r; is = ap (λ (k : ℕ). head.Go k q r) a; from_next = sym c; from_last = sym d }

closed_back : (b : ℕ) (g : Head) {n : ℕ} → shifted b g ≡ head.Closed n → (g ≡ head.Closed (n - b)) × (n ≡ b + (n - b))
closed_back b head.Ended e = never cc
closed_back b head.Failed e = never cc
closed_back b (head.Closed q) {n} e = let c : b + q ≡ n = cc in let d : q ≡ n - b = omega arith in (ap head.Closed d, omega arith)
closed_back b (head.Limit q) e = never cc
closed_back b (head.Go u q r) e = never cc

-- where what goes on lies, in the bytes
pub level_next : (bytes : List ℕ) (b end : ℕ) {v f m : ℕ} → level_head_lem (up_to bytes end) b ≡ head.Go v f m → (b ≤ f) × (f ≤ end) × (v ≤ max_elements)
unfolding up_to
level_next bytes b end e = let c = level_goes (up_to bytes end) b e in let n = c.next in let f = c.fits in (omega arith, omega arith, c.few)

pub element_next : (bytes : List ℕ) (end count left at : ℕ) {i n m : ℕ} → element_head_lem (up_to bytes end) count left at ≡ head.Go i n m → (0 < left) × (at ≤ n) × (n ≤ end) × (i < count)
unfolding up_to
element_next bytes end count left at e = let c = element_goes (up_to bytes end) count left at e in (c.allowed, c.later, c.fits, c.counted)

pub field_next : (bytes : List ℕ) (end left at : ℕ) {h n m : ℕ} → field_head_lem (up_to bytes end) left at ≡ head.Go h n m → (0 < left) × (at ≤ n) × (n ≤ m) × (m ≤ end)
unfolding up_to
field_next bytes end left at e =
    let c = field_goes (up_to bytes end) left at e in
    let a = c.allowed in
    let w = c.wide in
    (omega arith, c.later, omega arith, c.fits)

pub level_head_in : (bytes : List ℕ) (b end : ℕ) (h : Head) → level_head_lem (up_to bytes end) b ≡ h → HeadIn end h
unfolding up_to
level_head_in bytes b end h e = subst (HeadIn end) e (level_in (up_to bytes end) b)

pub element_head_in : (bytes : List ℕ) (end count left at : ℕ) (h : Head) → element_head_lem (up_to bytes end) count left at ≡ h → HeadIn end h
unfolding up_to
element_head_in bytes end count left at h e = subst (HeadIn end) e (element_in (up_to bytes end) count left at)

pub field_head_in : (bytes : List ℕ) (end left at : ℕ) (h : Head) → field_head_lem (up_to bytes end) left at ≡ h → HeadIn end h
unfolding up_to
field_head_in bytes end left at h e = subst (HeadIn end) e (field_in (up_to bytes end) left at)

-- how fields end: not closed, with the world y; closed before bit n of the bytes, with the world y; or going on as r', with the world y
pub record Ends (r : Run) (x y : World) : Type 0 where
  pub trace : Trace
  pub is : r ≡ stopped trace
  pub world : y ≡ played trace x

pub record Shuts (b : ℕ) (r : Run) (x y : World) (n : ℕ) : Type 0 where
  pub trace : Trace
  pub next : ℕ
  pub is : r ≡ done trace next
  pub at : n ≡ b + next
  pub world : y ≡ played trace x

pub record Goes (r r' : Run) (x y : World) : Type 0 where
  pub trace : Trace
  pub is : r ≡ prepend trace r'
  pub world : y ≡ played trace x

module _ (s e : Sink) (a : Alike s e) (bytes : List ℕ) (base b end : ℕ) (path : List ℕ) (le : b ≤ end) where
  -- a trace that a head of the window gives is what the code's exit gives
  exit_by : (h g : Head) → h ≡ shifted b g → HeadIn (end - b) g → NotGo h → (x y : World) → y ≡ played (level_stop e bytes base end path h) x
      → y ≡ played (stop_at s (inner bytes base b end) path g) x
  exit_by h g q i n x y out =
      out
      ∙ ap (λ (k : Head). played (level_stop e bytes base end path k) x) q
      ∙ ap (λ (t : Trace). played t x) (sym (stop_shift s e a bytes base b end path le g i (not_go_back b g (subst NotGo q n))))

  -- a level that ends at its count
  pub level_exit : (h : Head) → level_head_lem (up_to bytes end) b ≡ h → NotGo h → (x y : World)
      → y ≡ played (level_stop e bytes base end path h) (padding (number_pads (up_to bytes end) b) x)
      → y ≡ played (level s (inner bytes base b end) path) x
  level_exit h eh n x y out =
      let w = inner bytes base b end in
      let g = level_head_lem w 0 in
      let q : h ≡ shifted b g = sym eh ∙ ap (level_head_lem (up_to bytes end)) (sym (add-zero b)) ∙ level_shift bytes base b end le 0 in
      let i : HeadIn (end - b) g = subst (λ (k : ℕ). HeadIn k g) (size_inner bytes base b end le) (level_in w 0) in
      exit_by h g q i n (padding (number_pads (up_to bytes end) b) x) y out
      ∙ ap (λ (k : ℕ). played (stop_at s w path g) (padding k x)) (level_there bytes base b end le)
      ∙ sym (level_stops s w path x (not_go_back b g (subst NotGo q n)))

  -- one that goes on to its elements
  pub level_walks : {v f m : ℕ} → level_head_lem (up_to bytes end) b ≡ head.Go v f m → (x : World)
      → played (level s (inner bytes base b end) path) x ≡ played (elements s (inner bytes base b end) path v max_elements (f - b)) (padding (number_pads (up_to bytes end) b) x)
  level_walks {v} {f} {m} eh x =
      let w = inner bytes base b end in
      let k = go_back b (level_head_lem w 0) (sym (ap (level_head_lem (up_to bytes end)) (sym (add-zero b)) ∙ level_shift bytes base b end le 0) ∙ eh) in
      let c = level_goes w 0 k.is in
      let z = k.from_next in
      let y = c.next in
      let d : 8 * c.bytes ≡ f - b = omega arith in
      ap (λ (t : Trace). played t x) (level_count_lem s w path ∙ counts w c)
      ∙ sym (played_number (number_at w 0 c.bytes v) (elements s w path v max_elements (8 * c.bytes)) x)
      ∙ ap₂ (λ (p k : ℕ). played (elements s w path v max_elements p) (padding k x)) d (sym (level_there bytes base b end le ∙ count_took w 0 v c.bytes c.reads))
    where
      counts : (w : Window) {q : ℕ} → (c : Counted w 0 v q) → Rattle.framing.specs.Walk.on_count s w path (reading w 0) ≡ number (number_at w 0 c.bytes v) ∷ elements s w path v max_elements (8 * c.bytes)
      counts w c = rw (c.reads, le-ltb max_elements v c.few)

  module _ (count left at : ℕ) (later : b ≤ at) where
    element_here : element_head_lem (up_to bytes end) count left at ≡ shifted b (element_head_lem (inner bytes base b end) count left (at - b))
    element_here = let z : b + (at - b) ≡ at = omega arith in ap (element_head_lem (up_to bytes end) count left) (sym z) ∙ element_shift bytes base b end le count left (at - b)

    element_pads_lem : element_pads (up_to bytes end) left at ≡ element_pads (inner bytes base b end) left (at - b)
    element_pads_lem = let z : b + (at - b) ≡ at = omega arith in ap (element_pads (up_to bytes end) left) (sym z) ∙ element_there bytes base b end le left (at - b)

    -- elements that end
    pub elements_exit : (h : Head) → element_head_lem (up_to bytes end) count left at ≡ h → NotGo h → (x y : World)
        → y ≡ played (level_stop e bytes base end path h) (padding (element_pads (up_to bytes end) left at) x)
        → y ≡ played (elements s (inner bytes base b end) path count left (at - b)) x
    elements_exit h eh n x y out =
        let w = inner bytes base b end in
        let g = element_head_lem w count left (at - b) in
        let q : h ≡ shifted b g = sym eh ∙ element_here in
        let i : HeadIn (end - b) g = subst (λ (k : ℕ). HeadIn k g) (size_inner bytes base b end le) (element_in w count left (at - b)) in
        exit_by h g q i n (padding (element_pads (up_to bytes end) left at) x) y out
        ∙ ap (λ (k : ℕ). played (stop_at s w path g) (padding k x)) (element_pads_lem)
        ∙ sym (elements_stops s w path count left (at - b) x (not_go_back b g (subst NotGo q n)))

    -- an element, and those behind it
    pub elements_walk : {i n m : ℕ} → element_head_lem (up_to bytes end) count left at ≡ head.Go i n m → (x : World)
        → played (elements s (inner bytes base b end) path count left (at - b)) x
        ≡ played (behind (λ r. elements s (inner bytes base b end) path count (left - 1) r) (fields s (inner bytes base b end) i (in_item s path i) max_fields (n - b) true))
        (played (element (in_item s path i) ∷ []) (padding (element_pads (up_to bytes end) left at) x))
    elements_walk {i} {n} {m} eh x =
        let w = inner bytes base b end in
        let k = go_back b (element_head_lem w count left (at - b)) (sym (element_here) ∙ eh) in
        let c = element_goes w count left (at - b) k.is in
        let z = k.from_next in
        let d : k.next ≡ n - b = omega arith in
        ap (λ (t : Trace). played t x) (steps w left c)
        ∙ sym (played_number c.number (element (in_item s path i) ∷ rest w k.next) x)
        ∙ sym (played_then (element (in_item s path i)) (rest w k.next) (padding (padded_among (c.number ∷ [])) x))
        ∙ ap₂ (λ (p n : ℕ). played (rest w p) (played (element (in_item s path i) ∷ []) (padding n x))) d (sym (element_pads_lem ∙ takes w c))
      where
        rest : Window → ℕ → Trace
        rest w q = behind (λ r. elements s w path count (left - 1) r) (fields s w i (in_item s path i) max_fields q true)

        takes : (w : Window) {q : ℕ} → (c : Opened w count left (at - b) i q) → element_pads w left (at - b) ≡ padded_among (c.number ∷ [])
        takes w c =
            index_took_lem w (at - b) left
            ∙ ap (index_took w (at - b) left) c.leads
            ∙ simp (ne_eqb left 0 (λ z. let l = c.allowed in absurd (omega arith)))

        steps : (w : Window) (l : ℕ) {q : ℕ} → (c : Opened w count l (at - b) i q)
            → elements s w path count l (at - b) ≡ number c.number ∷ element (in_item s path i) ∷ behind (λ r. elements s w path count (l - 1) r) (fields s w i (in_item s path i) max_fields q true)
        steps w zero c = absurd (let z = c.allowed in omega arith)
        steps w (suc l) c = let p : l ≡ suc l - 1 = omega arith in rw (elements_step, c.leads, lt-leb count i c.counted, sym p)

  module _ (i left at : ℕ) (first : Bool) (later : b ≤ at) where
    field_here : field_head_lem (up_to bytes end) left at ≡ shifted b (field_head_lem (inner bytes base b end) left (at - b))
    field_here = let z : b + (at - b) ≡ at = omega arith in ap (field_head_lem (up_to bytes end) left) (sym z) ∙ field_shift bytes base b end le left (at - b)

    field_pads_lem : field_pads (up_to bytes end) left at ≡ field_pads (inner bytes base b end) left (at - b)
    field_pads_lem = let z : b + (at - b) ≡ at = omega arith in ap (field_pads (up_to bytes end) left) (sym z) ∙ field_there bytes base b end le left (at - b)

    -- fields that end without closing
    pub fields_exit : (h : Head) → field_head_lem (up_to bytes end) left at ≡ h → NotGo h → NotClosed h → (x y : World)
        → y ≡ played (fields_stop e bytes base end path h) (padding (field_pads (up_to bytes end) left at) x)
        → Ends (fields s (inner bytes base b end) i path left (at - b) first) x y
    fields_exit h eh n c x y out =
        let w = inner bytes base b end in
        let g = field_head_lem w left (at - b) in
        let q : h ≡ shifted b g = sym eh ∙ field_here in
        let i' : HeadIn (end - b) g = subst (λ (k : ℕ). HeadIn k g) (size_inner bytes base b end le) (field_in w left (at - b)) in
        let halt = fields_halt s w path i left (at - b) first (not_go_back b g (subst NotGo q n)) (not_closed_back b g (subst NotClosed q c)) in
        let z = padding (field_pads (up_to bytes end) left at) x in
        let all : y ≡ played (level_stop e bytes base end path h) z = out ∙ ap (λ (t : Trace). played t z) (sym (fields_stop_lem e bytes base end path h c)) in
        record {
          trace = halt.trace;
          is = halt.is;
          world = exit_by h g q i' n z y all ∙ ap (λ (k : ℕ). played (stop_at s w path g) (padding k x)) (field_pads_lem) ∙ sym (halt.same x);
        }

    -- fields that close before bit n
    pub fields_closed : {n : ℕ} → field_head_lem (up_to bytes end) left at ≡ head.Closed n → (x : World)
        → Shuts b (fields s (inner bytes base b end) i path left (at - b) first) x (padding (field_pads (up_to bytes end) left at) x) n
    fields_closed {n} eh x =
        let w = inner bytes base b end in
        let k = closed_back b (field_head_lem w left (at - b)) (sym (field_here) ∙ eh) in
        let c = fields_close s w path i left (at - b) first (n - b) k.0 in
        record {
          trace = number c.read ∷ [];
          next = n - b;
          is = c.is;
          at = k.1;
          world =
              ap (λ (m : ℕ). padding m x) (field_pads_lem ∙ c.took)
              ∙ played_none (padding (padded_among (c.read ∷ [])) x)
              ∙ played_number c.read [] x;
        }

    -- a field, and those behind it
    pub fields_walk : {h body next : ℕ} → field_head_lem (up_to bytes end) left at ≡ head.Go h body next → (x : World)
        → Goes (fields s (inner bytes base b end) i path left (at - b) first) (fields s (inner bytes base b end) i path (left - 1) (next - b) (first && eqb (next - body) 0)) x
        (played (s.field i path first h (inner bytes base body next)) (padding (field_pads (up_to bytes end) left at) x))
    fields_walk {h} {body} {next} eh x =
        let w = inner bytes base b end in
        let k = go_back b (field_head_lem w left (at - b)) (sym (field_here) ∙ eh) in
        let c = field_goes w left (at - b) k.is in
        let z = size_inner bytes base b end le in
        let f = c.fits in
        let wide = c.wide in
        let e1 = k.from_next in
        let e2 = k.from_last in
        let fit : b + k.next + c.width ≤ end = omega arith in
        let same : part w k.next c.width ≡ inner bytes base body next = part_inner bytes base b end k.next c.width fit ∙ (λ j. inner bytes base (here1 k.next e1 j) (here2 k.next c.width k.last e2 wide j)) in
        record {
          trace = numbers c.numbers ++ s.field i path first h (part w k.next c.width);
          is = walks w left c ∙ (λ j. prepend (numbers c.numbers ++ s.field i path first h (part w k.next c.width)) (fields s w i path (left - 1) (here3 k.next c.width k.last e2 wide j) (first && eqb (here4 k.next c.width k.last e1 e2 wide j) 0)));
          world =
              ap₂ (λ (v : Window) (m : ℕ). played (s.field i path first h v) (padding m x)) (sym same) (field_pads_lem ∙ takes w left c)
              ∙ played_numbers c.numbers (s.field i path first h (part w k.next c.width)) x;
        }
      where
        here1 : (q : ℕ) → body ≡ b + q → b + q ≡ body
        here1 q e = sym e

        here2 : (q width last : ℕ) → next ≡ b + last → last ≡ q + width → b + q + width ≡ next
        here2 q width last e f = omega arith

        here3 : (q width last : ℕ) → next ≡ b + last → last ≡ q + width → q + width ≡ next - b
        here3 q width last e f = omega arith

        here4 : (q width last : ℕ) → body ≡ b + q → next ≡ b + last → last ≡ q + width → width ≡ next - body
        here4 q width last e f g = omega arith

        takes : (w : Window) (l : ℕ) {q r : ℕ} → (c : Presented w l (at - b) h q r) → field_pads w l (at - b) ≡ padded_among c.numbers
        takes w l c = ap (λ (m : ℕ). field_pads w m (at - b)) c.allowed ∙ due_took_lem w (at - b) c.less ∙ ap (due_took w (at - b)) c.due

        walks : (w : Window) (l : ℕ) {q r : ℕ} → (c : Presented w l (at - b) h q r)
            → fields s w i path l (at - b) first ≡ prepend (numbers c.numbers ++ s.field i path first h (part w q c.width)) (fields s w i path (l - 1) (q + c.width) (first && eqb c.width 0))
        walks w l {q} c =
            let p : c.less ≡ l - 1 = let z = c.allowed in omega arith in
            ap (λ (m : ℕ). fields s w i path m (at - b) first) c.allowed
            ∙ fields_present s w i path c.less (at - b) first c.numbers h q c.width c.due
            ∙ ap (λ (m : ℕ). prepend (numbers c.numbers ++ s.field i path first h (part w q c.width)) (fields s w i path m (q + c.width) (first && eqb c.width 0))) p
