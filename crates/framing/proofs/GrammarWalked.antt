-- The bits of an array of the grammar are walked as its parts say: the walk's trace, read off the array. Stated once for every sink. Each number is
-- read where its bits stand, and the limits that the grammar keeps are those that the walk tests.
use Prim.Native.Nat.{ℕ, zero, suc, ◌+◌, ◌-◌, ◌*◌, ◌^◌, ◌≤◌, ◌<◌}
use mathlib.Core.Path.{◌≡◌, refl, sym, ap, ap₂, ◌∙◌, subst}
use mathlib.Core.Bool.{Bool, true, false, ◌&&◌}
use mathlib.Core.List.{List, [], ◌∷◌, ◌++◌, append_assoc}
use native.Mathlib.Nat.{zero-add, mul-le-mul_left, mul-add, mul-one}
use native.Mathlib.Omega.{arith}
use lib.Dec.{eqb}
use lib.ListN.{length}
use lib.Pow.{pow-add}
use borrow.Author.Tests.{eq-eqb}
use Rattle.bits.proofs.ChoiceLaws.{and_false}
use Rattle.bits.specs.Bits.{field}
use Rattle.bits.specs.Packed.{Number}
use Rattle.bits.specs.Sizes.{max_elements, max_fields, trailer_bits}
use Rattle.framing.specs.Windows.{Window, part, got, reading}
use Rattle.framing.specs.Events.{number, element, Trace}
use Rattle.framing.specs.Walk.{Sink, number_at, opens, done, prepend, on_field, on_last_field, fields, closing, in_item, behind, on_index, on_last_index, elements, on_count, level}
use Rattle.framing.specs.Grammar.{Bits, ◌then◌, Num, packed_bits, num_bits, IsNum, Field, Element, Array, field_bits, fields_bits, element_bits, elements_bits, trailing, array_bits}
use Rattle.framing.specs.GrammarRules.{Each, FieldOk, FieldsOk, ElementOk, ArrayOk}
use Rattle.framing.proofs.StepLaws.{fields_last, fields_step, fields_present, elements_last, elements_step, level_count_lem, count_allowed, index_allowed}
use Rattle.framing.proofs.NumberBits.{packed_below}
use Rattle.framing.proofs.GrammarBits.{Span, Below, span_first, span_second, num_read}
use Rattle.framing.proofs.GrammarLeads.{stands_closes, stands_opens, stands_closed, stands_present}

-- ---- sizes of bits

pub below_then : (a b : Bits) → Below a → Below b → Below (a then b)
below_then a b h k =
    let e : 2 ^ (a.size + b.size) ≡ 2 ^ a.size * 2 ^ b.size = pow-add 2 a.size b.size in
    let l : b.number + 1 ≤ 2 ^ b.size = omega arith in
    let m : 2 ^ a.size * (b.number + 1) ≤ 2 ^ a.size * 2 ^ b.size = mul-le-mul_left (2 ^ a.size) l in
    let d : 2 ^ a.size * (b.number + 1) ≡ 2 ^ a.size * b.number + 2 ^ a.size = one_more (2 ^ a.size) b.number in
    omega arith
  where
    one_more : (x y : ℕ) → x * (y + 1) ≡ x * y + x
    one_more x y = mul-add x y 1 ∙ ap (λ (z : ℕ). x * y + z) (mul-one x)

pub num_below : (n : Num) → IsNum n → Below (num_bits n)
num_below n ok = packed_below n.bytes n.value ok.fits

-- ---- the trace of an array that stands in a window

abbrev pub num_at : (o p : ℕ) → Num → Number
num_at o p n = record { start = o + p; bytes = n.bytes; value = n.value }

abbrev pub window_at : (o p : ℕ) → Bits → Window
window_at o p b = record { bits = b.number; size = b.size; origin = o + p }

module _ (s : Sink) {P : Type 0} (bits_of : P → Bits) (o : ℕ) where
  unfoldable pub fields_trace : (i : ℕ) (path : List ℕ) (first : Bool) (p : ℕ) → List (Field P) → Trace
  fields_trace i path first p [] = []
  fields_trace i path first p (f ∷ fs) =
      number (num_at o p f.handle) ∷ number (num_at o (p + 8 * f.handle.bytes) f.width)
      ∷ (s.field i path first (f.handle.value - 1) (window_at o (p + 8 * f.handle.bytes + 8 * f.width.bytes) (bits_of f.payload))
      ++ fields_trace i path (first && eqb f.width.value 0) (p + (field_bits bits_of f).size) fs)

  -- an element's fields and its zero handle
  abbrev pub body_trace : (i : ℕ) (path : List ℕ) (p : ℕ) → Element P → Trace
  body_trace i path p e =
      fields_trace i path true p e.fields ++ (number (num_at o (p + (fields_bits bits_of e.fields).size) e.close) ∷ [])

  unfoldable pub elements_trace : (path : List ℕ) (p : ℕ) → List (Element P) → Trace
  elements_trace path p [] = []
  elements_trace path p (e ∷ es) =
      number (num_at o p e.index) ∷ element (in_item s path (e.index.value - 1))
      ∷ (body_trace (e.index.value - 1) (in_item s path (e.index.value - 1)) (p + 8 * e.index.bytes) e
      ++ elements_trace path (p + (element_bits bits_of e).size) es)

  abbrev pub end_trace : (trailer : Bool) (p : ℕ) → Trace
  end_trace true p = number (num_at o p (record { value = 0; bytes = 1 })) ∷ s.leftover 0 ∷ []
  end_trace false p = s.leftover 0 ∷ []

  abbrev pub array_trace : (path : List ℕ) → Array P → Trace
  array_trace path a =
      let p = 8 * a.count.bytes in
      let q = p + (elements_bits bits_of a.elements).size in
      number (num_at o 0 a.count)
      ∷ (elements_trace path p a.elements ++ (number (num_at o q a.close) ∷ end_trace a.trailer (q + 8 * a.close.bytes)))

-- ---- the walk is that trace

module _ {P : Type 0} (bits_of : P → Bits) (allowed : Bool → ℕ → P → Type 0)
    (bounded : (first : Bool) (h : ℕ) (x : P) → allowed first h x → Below (bits_of x)) where
  field_below : (first : Bool) (f : Field P) → FieldOk bits_of allowed first f → Below (field_bits bits_of f)
  field_below first f ok =
      below_then (num_bits f.handle) (num_bits f.width then bits_of f.payload) (num_below f.handle ok.handle)
      (below_then (num_bits f.width) (bits_of f.payload) (num_below f.width ok.width) (bounded first _ f.payload ok.content))

  fields_below : (first : Bool) (fs : List (Field P)) → FieldsOk bits_of allowed first fs → Below (fields_bits bits_of fs)
  fields_below first [] ok = omega arith
  fields_below first (f ∷ fs) ok =
      below_then (field_bits bits_of f) (fields_bits bits_of fs) (field_below first f ok.0) (fields_below (first && eqb f.width.value 0) fs ok.1)

  element_below : (count : ℕ) (e : Element P) → ElementOk bits_of allowed count e → Below (element_bits bits_of e)
  element_below count e ok =
      below_then (num_bits e.index) (fields_bits bits_of e.fields then num_bits e.close) (num_below e.index ok.index)
      (below_then (fields_bits bits_of e.fields) (num_bits e.close) (fields_below true e.fields ok.fields) (num_below e.close ok.close))

  elements_below : (count : ℕ) (es : List (Element P)) → Each (ElementOk bits_of allowed count) es → Below (elements_bits bits_of es)
  elements_below count [] ok = omega arith
  elements_below count (e ∷ es) ok =
      below_then (element_bits bits_of e) (elements_bits bits_of es) (element_below count e ok.0) (elements_below count es ok.1)

  trailing_below : (t : Bool) → Below (trailing bits_of t)
  trailing_below true = omega arith
  trailing_below false = omega arith

  pub array_below : (takes : Bool) (a : Array P) → ArrayOk bits_of allowed takes a → Below (array_bits bits_of a)
  array_below takes a ok =
      below_then (num_bits a.count) _ (num_below a.count ok.count)
      (below_then (elements_bits bits_of a.elements) _ (elements_below a.count.value a.elements ok.elements)
      (below_then (num_bits a.close) (trailing bits_of a.trailer) (num_below a.close ok.close) (trailing_below a.trailer)))

  module _ (s : Sink) (w : Window) where
    zero_number : (p : ℕ) (n : Num) → n.value ≡ 0 → number_at w p n.bytes 0 ≡ num_at w.origin p n
    zero_number p n z = ap (λ (v : ℕ). number_at w p n.bytes v) (sym z)

    -- an element's fields
    fields_walked : (i : ℕ) (path : List ℕ) (c : Num) → IsNum c → c.value ≡ 0 → (fs : List (Field P)) (left p r q : ℕ) (first : Bool)
        → length fs ≤ left → FieldsOk bits_of allowed first fs → Span w p r (fields_bits bits_of fs) → Span w r q (num_bits c)
        → fields s w i path left p first ≡ done (fields_trace s bits_of w.origin i path first p fs ++ (number (num_at w.origin r c) ∷ [])) q
    unfolding fields_trace
    fields_walked i path c okc zc [] zero p r q first few ok sp sc =
        let e : r ≡ p = (let z = sp.ends in omega arith) in
        let sc' : Span w p q (num_bits c) = subst (λ (n : ℕ). Span w n q (num_bits c)) e sc in
        fields_last s w i path p first
        ∙ ap (on_last_field s w path p) (stands_closes w p q c okc sc' zc)
        ∙ ap (λ (x : Number). done (number x ∷ []) q) (zero_number p c zc ∙ ap (λ (n : ℕ). num_at w.origin n c) (sym e))
    fields_walked i path c okc zc [] (suc left) p r q first few ok sp sc =
        let e : r ≡ p = (let z = sp.ends in omega arith) in
        let sc' : Span w p q (num_bits c) = subst (λ (n : ℕ). Span w n q (num_bits c)) e sc in
        fields_step s w i path left p first
        ∙ ap (on_field s w i path first (λ m b. fields s w i path left m b)) (stands_closed w p q c okc sc' zc)
        ∙ ap (λ (x : Number). done (number x ∷ []) q) (zero_number p c zc ∙ ap (λ (n : ℕ). num_at w.origin n c) (sym e))
    fields_walked i path c okc zc (f ∷ fs) zero p r q first few ok sp sc = absurd (omega arith)
    fields_walked i path c okc zc (f ∷ fs) (suc left) p r q first few ok sp sc =
        let a = field_bits bits_of f in
        let fo = ok.0 in
        let hn = num_bits f.handle in
        let wn = num_bits f.width in
        let pb = bits_of f.payload in
        let bh = num_below f.handle fo.handle in
        let bw = num_below f.width fo.width in
        let ba = field_below first f fo in
        let s₁ = span_first w p r a (fields_bits bits_of fs) ba sp in
        let s₂ = span_second w p r a (fields_bits bits_of fs) ba sp in
        let h₁ = span_first w p (p + a.size) hn (wn then pb) bh s₁ in
        let h₂ = span_second w p (p + a.size) hn (wn then pb) bh s₁ in
        let w₁ = span_first w (p + hn.size) (p + a.size) wn pb bw h₂ in
        let w₂ = span_second w (p + hn.size) (p + a.size) wn pb bw h₂ in
        let m = p + hn.size + wn.size in
        let wide : f.width.value ≡ pb.size = fo.wide in
        let fit : m + f.width.value ≤ w.size = (let z = w₂.within in let y = w₂.ends in omega arith) in
        let there : m + f.width.value ≡ p + a.size = (let y = w₂.ends in omega arith) in
        let pay : field w.bits m f.width.value ≡ pb.number = ap (λ (n : ℕ). field w.bits m n) wide ∙ w₂.same in
        let part-is : part w m f.width.value ≡ window_at w.origin m pb = λ j. record { bits = pay j; size = wide j; origin = w.origin + m } in
        let x = number (num_at w.origin p f.handle) in
        let y = number (num_at w.origin (p + 8 * f.handle.bytes) f.width) in
        let here = s.field i path first (f.handle.value - 1) (window_at w.origin m pb) in
        let rest = fields_trace s bits_of w.origin i path (first && eqb f.width.value 0) (p + a.size) fs in
        let last : Trace = number (num_at w.origin r c) ∷ [] in
        fields_present s w i path left p first _ _ m f.width.value
        (stands_present w p (p + hn.size) f.handle fo.handle h₁ m f.width fo.width w₁ fo.opens fit)
        ∙ ap₂ (λ (v : Window) (n : ℕ). prepend (x ∷ y ∷ s.field i path first (f.handle.value - 1) v) (fields s w i path left n (first && eqb f.width.value 0))) part-is there
        ∙ ap (prepend (x ∷ y ∷ here))
        (fields_walked i path c okc zc fs left (p + a.size) r q (first && eqb f.width.value 0) (omega arith) ok.1 s₂ sc)
        ∙ ap (λ (t : Trace). done (x ∷ y ∷ t) q) (sym (append_assoc here rest last))

    -- behind the terminator
    end_walked : (t : Bool) (q : ℕ) → q ≤ w.size → (t ≡ true → s.trailer ≡ true) → Span w q w.size (trailing bits_of t) → closing s w q ≡ end_trace s bits_of w.origin t q
    unfolding closing packed_bits
    end_walked true q h takes sp =
        let e : w.size - q ≡ trailer_bits = (let z = sp.ends in omega arith) in
        let n : Num = record { value = 0; bytes = 1 } in
        let okn : IsNum n = record { some = omega arith; most = omega arith; fits = omega arith; word = omega arith } in
        let r : reading w q ≡ got 0 1 = num_read w q n w.size okn (record { ends = sp.ends; within = sp.within; same = sp.same }) in
        rw (takes refl, eq-eqb (w.size - q) trailer_bits e, r) refl
    end_walked false q h takes sp =
        let e : w.size - q ≡ 0 = (let z = sp.ends in omega arith) in
        rw (e, and_false s.trailer) refl

    -- elements
    elements_walked : (path : List ℕ) (count : ℕ) (c : Num) → IsNum c → c.value ≡ 0 → (es : List (Element P)) (left p r q : ℕ)
        → length es ≤ left → Each (ElementOk bits_of allowed count) es → Span w p r (elements_bits bits_of es) → Span w r q (num_bits c)
        → elements s w path count left p ≡ elements_trace s bits_of w.origin path p es ++ (number (num_at w.origin r c) ∷ closing s w q)
    unfolding elements_trace
    elements_walked path count c okc zc [] zero p r q few ok sp sc =
        let e : r ≡ p = (let z = sp.ends in omega arith) in
        let sc' : Span w p q (num_bits c) = subst (λ (n : ℕ). Span w n q (num_bits c)) e sc in
        elements_last s w path count p
        ∙ ap (on_last_index s w path p) (stands_closes w p q c okc sc' zc)
        ∙ ap (λ (x : Number). number x ∷ closing s w q) (zero_number p c zc ∙ ap (λ (n : ℕ). num_at w.origin n c) (sym e))
    elements_walked path count c okc zc [] (suc left) p r q few ok sp sc =
        let e : r ≡ p = (let z = sp.ends in omega arith) in
        let sc' : Span w p q (num_bits c) = subst (λ (n : ℕ). Span w n q (num_bits c)) e sc in
        elements_step s w path count left p
        ∙ ap (on_index s w path count (λ m. elements s w path count left m)) (stands_closes w p q c okc sc' zc)
        ∙ ap (λ (x : Number). number x ∷ closing s w q) (zero_number p c zc ∙ ap (λ (n : ℕ). num_at w.origin n c) (sym e))
    elements_walked path count c okc zc (x ∷ es) zero p r q few ok sp sc = absurd (omega arith)
    elements_walked path count c okc zc (x ∷ es) (suc left) p r q few ok sp sc =
        let eo = ok.0 in
        let a = element_bits bits_of x in
        let ib = num_bits x.index in
        let fb = fields_bits bits_of x.fields in
        let cb = num_bits x.close in
        let i = x.index.value - 1 in
        let ba = element_below count x eo in
        let s₁ = span_first w p r a (elements_bits bits_of es) ba sp in
        let s₂ = span_second w p r a (elements_bits bits_of es) ba sp in
        let i₁ = span_first w p (p + a.size) ib (fb then cb) (num_below x.index eo.index) s₁ in
        let i₂ = span_second w p (p + a.size) ib (fb then cb) (num_below x.index eo.index) s₁ in
        let f₁ = span_first w (p + ib.size) (p + a.size) fb cb (fields_below true x.fields eo.fields) i₂ in
        let f₂ = span_second w (p + ib.size) (p + a.size) fb cb (fields_below true x.fields eo.fields) i₂ in
        let ran = fields_walked i (in_item s path i) x.close eo.close eo.closes x.fields max_fields (p + ib.size) (p + ib.size + fb.size) (p + a.size) true
        eo.few eo.fields f₁ f₂ in
        let rest = elements_walked path count c okc zc es left (p + a.size) r q (omega arith) ok.1 s₂ sc in
        let body = body_trace s bits_of w.origin i (in_item s path i) (p + ib.size) x in
        let later = elements_trace s bits_of w.origin path (p + a.size) es in
        let last : Trace = number (num_at w.origin r c) ∷ closing s w q in
        elements_step s w path count left p
        ∙ ap (on_index s w path count (λ m. elements s w path count left m)) (stands_opens w p (p + ib.size) x.index eo.index i₁ eo.opens)
        ∙ entered path count i (p + ib.size) (num_at w.origin p x.index) left eo.below
        ∙ ap (λ (t : Trace). number (num_at w.origin p x.index) ∷ element (in_item s path i) ∷ t)
        (ap (behind (λ m. elements s w path count left m)) ran ∙ ap (λ (t : Trace). body ++ t) rest ∙ sym (append_assoc body later last))
      where
        entered : (path : List ℕ) (count i q : ℕ) (n : Number) (left : ℕ) → i < count
            → on_index s w path count (λ m. elements s w path count left m) (opens n i q)
            ≡ number n ∷ element (in_item s path i) ∷ behind (λ m. elements s w path count left m) (fields s w i (in_item s path i) max_fields q true)
        entered path count i q n left h = rw (index_allowed count i h) refl

    -- The level is walked as the array says.
    pub level_walked : (path : List ℕ) (a : Array P) → ArrayOk bits_of allowed s.trailer a → Span w 0 w.size (array_bits bits_of a)
        → level s w path ≡ array_trace s bits_of w.origin path a
    level_walked path a ok sp =
        let nb = num_bits a.count in
        let eb = elements_bits bits_of a.elements in
        let cb = num_bits a.close in
        let tb = trailing bits_of a.trailer in
        let bn = num_below a.count ok.count in
        let be = elements_below a.count.value a.elements ok.elements in
        let bc = num_below a.close ok.close in
        let n₁ = span_first w 0 w.size nb (eb then cb then tb) bn sp in
        let n₂ = span_second w 0 w.size nb (eb then cb then tb) bn sp in
        let e₁ = span_first w (0 + nb.size) w.size eb (cb then tb) be n₂ in
        let e₂ = span_second w (0 + nb.size) w.size eb (cb then tb) be n₂ in
        let c₁ = span_first w (0 + nb.size + eb.size) w.size cb tb bc e₂ in
        let c₂ = span_second w (0 + nb.size + eb.size) w.size cb tb bc e₂ in
        let z : 0 + nb.size ≡ 8 * a.count.bytes = zero-add (8 * a.count.bytes) in
        let read : reading w 0 ≡ got a.count.value a.count.bytes = num_read w 0 a.count (0 + nb.size) ok.count n₁ in
        let es = elements_walked path a.count.value a.close ok.close ok.closes a.elements max_elements (0 + nb.size) (0 + nb.size + eb.size)
        (0 + nb.size + eb.size + cb.size) ok.few ok.elements e₁ c₁ in
        let closed = end_walked a.trailer (0 + nb.size + eb.size + cb.size) c₁.within ok.ends c₂ in
        level_count_lem s w path
        ∙ ap (on_count s w path) read
        ∙ counted path a.count.value a.count.bytes ok.small
        ∙ ap (λ (t : Trace). number (num_at w.origin 0 a.count) ∷ t)
        (ap (λ (k : ℕ). elements s w path a.count.value max_elements k) (sym z)
        ∙ es
        ∙ ap (λ (t : Trace). elements_trace s bits_of w.origin path (0 + nb.size) a.elements ++ (number (num_at w.origin (0 + nb.size + eb.size) a.close) ∷ t)) closed
        ∙ ap (λ (k : ℕ). elements_trace s bits_of w.origin path k a.elements
        ++ (number (num_at w.origin (k + eb.size) a.close) ∷ end_trace s bits_of w.origin a.trailer (k + eb.size + cb.size))) z)
      where
        counted : (path : List ℕ) (v b : ℕ) → v ≤ max_elements
            → on_count s w path (got v b) ≡ number (number_at w 0 b v) ∷ elements s w path v max_elements (8 * b)
        counted path v b h = rw (count_allowed v h) refl
