-- The object walk: a level is walked without fault exactly if its window is the bits of an object array. A field without fault is empty, or the
-- first of its element and one packed number that fills it; the rest is GrammarFound and GrammarWalked.
use Prim.Native.Nat.{ℕ, ◌+◌, ◌*◌, ◌^◌, ◌<◌}
use mathlib.Core.Path.{◌≡◌, refl, sym, subst}
use mathlib.Core.Bool.{Bool, true, false}
use mathlib.Core.List.{List, [], ◌∷◌}
use native.Mathlib.Omega.{arith}
use lib.Dec.{eqb}
use borrow.Author.Tests.{eqb-true, eqb-false, eq-eqb, ne_eqb}
use Rattle.framing.specs.Windows.{Window, Reading, got, failed, reading}
use Rattle.framing.specs.Events.{number, pair, error, nested}
use Rattle.framing.specs.Walk.{number_at, level}
use Rattle.framing.specs.Sinks.{guid_of, object_field_lem, object_sink}
use Rattle.framing.specs.Grammar.{no_bits_lem, Num, num_bits, IsNum, Array, array_bits}
use Rattle.framing.specs.GrammarRules.{Reference, no_guid, guid, reference_bits, reference_in, IsObjectArray}
use Rattle.framing.proofs.GrammarBits.{Span, Below, read_num, num_read}
use Rattle.framing.proofs.GrammarFound.{Fine, Content, level_found}
use Rattle.framing.proofs.GrammarWalked.{window_at, num_below, array_trace, level_walked}
use Rattle.framing.proofs.GrammarStruct.{span_whole, whole_span, array_fine}

pub record InObject (w : Window) : Type 0 where
  pub it : Array Reference
  pub ok : IsObjectArray it
  pub span : Span w 0 w.size (array_bits reference_bits it)

-- ---- clean, so in the grammar

no_bits : (v : Window) → v.bits < 2 ^ v.size → v.size ≡ 0 → v.bits ≡ 0
no_bits v b e = let c : v.bits < 2 ^ 0 = subst (λ (k : ℕ). v.bits < 2 ^ k) e b in omega arith

empty_found : (first : Bool) (h : ℕ) (v : Window) → v.bits < 2 ^ v.size → v.size ≡ 0 → Content Reference reference_bits reference_in first h v
empty_found first h v b e =
    let n : 0 ≡ v.bits = sym (no_bits v b e) in
    record { it = no_guid; same = λ i. record { number = n i; size = sym e i }; ok = tt }

guid_found : (i h : ℕ) (v : Window) → v.bits < 2 ^ v.size → (r : Reading) → reading v 0 ≡ r → Fine (guid_of i v r) → Content Reference reference_bits reference_in true h v
guid_found i h v b failed e g = absurd (let z : Fine (error ∷ []) = g in omega arith)
guid_found i h v b (got x n) e g = go (eqb (8 * n) v.size) refl
  where
    go : (t : Bool) → eqb (8 * n) v.size ≡ t → Content Reference reference_bits reference_in true h v
    go true k =
        let r = read_num v 0 x n e in
        let fill : 0 + 8 * n ≡ v.size = (let z = eqb-true (8 * n) v.size k in omega arith) in
        let m : Num = record { value = x; bytes = n } in
        let sp : Span v 0 v.size (num_bits m) = subst (λ (q : ℕ). Span v 0 q (num_bits m)) fill r.1 in
        record { it = guid m; same = span_whole v (num_bits m) b sp; ok = (refl, r.0) }
    go false k = let g' : Fine (number (number_at v 0 n x) ∷ error ∷ []) = rw k at g in absurd (omega arith)

find : (i : ℕ) (path : List ℕ) (first : Bool) (h : ℕ) (v : Window) → v.bits < 2 ^ v.size → Fine (object_sink.field i path first h v) → Content Reference reference_bits reference_in first h v
unfolding object_sink
find i path first h v b g = go (eqb v.size 0) refl first g
  where
    go : (t : Bool) → eqb v.size 0 ≡ t → (f : Bool) → Fine (object_field_lem i f v) → Content Reference reference_bits reference_in f h v
    go true k f g = empty_found f h v b (eqb-true _ _ k)
    go false k true g = let g' : Fine (guid_of i v (reading v 0)) = rw k at g in guid_found i h v b (reading v 0) refl g'
    go false k false g =
        let g' : Fine (nested v.size ∷ []) = rw k at g in
        let z : v.size ≡ 0 = none v.size g' in
        absurd (eqb-false _ _ k z)
      where
        none : (n : ℕ) → Fine (nested n ∷ []) → n ≡ 0
        none n h = omega arith

-- A level of the object walk without fault is an object array.
pub found_object : (w : Window) (path : List ℕ) → Fine (level object_sink w path) → InObject w
unfolding object_sink
found_object w path g =
    let f = level_found object_sink Reference reference_bits reference_in find w (λ n h. omega arith) path g in
    record { it = f.array; ok = f.ok; span = f.span }

-- ---- in the grammar, so clean

pub reference_below : (first : Bool) (h : ℕ) (x : Reference) → reference_in first h x → Below (reference_bits x)
reference_below first h no_guid ok = omega arith
reference_below first h (guid n) ok = num_below n ok.1

-- the number that fills a payload is read
pub guid_read : (n : Num) → IsNum n → (o p : ℕ) → reading (window_at o p (num_bits n)) 0 ≡ got n.value n.bytes
guid_read n ok o p =
    let v = window_at o p (num_bits n) in
    num_read v 0 n v.size ok (whole_span v (num_bits n) (num_below n ok) refl)

pub guid_field : (i h : ℕ) (path : List ℕ) (n : Num) → IsNum n → (o p : ℕ)
    → object_sink.field i path true h (window_at o p (num_bits n))
    ≡ number (number_at (window_at o p (num_bits n)) 0 n.bytes n.value) ∷ pair (record { index = i; guid = n.value }) ∷ []
unfolding object_sink
guid_field i h path n ok o p =
    let some = ok.some in
    rw (ne_eqb (8 * n.bytes) 0 (λ z. omega arith), guid_read n ok o p, eq-eqb (8 * n.bytes) (8 * n.bytes) refl) refl

pub absent_field : (i h : ℕ) (path : List ℕ) (first : Bool) (o p : ℕ) → object_sink.field i path first h (window_at o p no_bits_lem) ≡ []
unfolding object_sink
absent_field i h path first o p = refl

always : (i : ℕ) (path : List ℕ) (first : Bool) (h : ℕ) (x : Reference) → reference_in first h x → (o p : ℕ)
    → Fine (object_sink.field i path first h (window_at o p (reference_bits x)))
always i path first h no_guid ok o p = subst Fine (sym (absent_field i h path first o p)) refl
always i path first h (guid n) ok o p =
    subst (λ (f : Bool). Fine (object_sink.field i path f h (window_at o p (num_bits n)))) (sym ok.0) (subst Fine (sym (guid_field i h path n ok.1 o p)) refl)

-- the level is walked as the array says
pub object_walked : (a : Array Reference) → IsObjectArray a → (w : Window) → Span w 0 w.size (array_bits reference_bits a) → (path : List ℕ)
    → level object_sink w path ≡ array_trace object_sink reference_bits w.origin path a
unfolding object_sink
object_walked a ok w sp path = level_walked reference_bits reference_in reference_below object_sink w path a ok sp

-- An object array's bits are walked without fault.
pub walked_object : (a : Array Reference) → IsObjectArray a → (w : Window) → Span w 0 w.size (array_bits reference_bits a) → (path : List ℕ) → Fine (level object_sink w path)
unfolding object_sink
walked_object a ok w sp path =
    subst Fine (sym (object_walked a ok w sp path))
    (array_fine object_sink reference_bits reference_in always refl w.origin true path a ok)
