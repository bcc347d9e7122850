-- The laws of parts: what holds of a refusal and of what comes after a step holds of both together; how large the numbers of three parts are.
use Rattle.std.specs.Prelude.{Result, Ok, Err, IfOk}
use Prim.Native.Nat.{ℕ, zero, suc, ◌+◌, ◌*◌, ◌/◌, ◌%◌, ◌^◌, ◌≤◌, ◌<◌}
use mathlib.Core.Path.{◌≡◌, refl, sym, ap, ◌∙◌, subst}
use mathlib.Core.Bool.{Bool, true, false}
use mathlib.Core.List.{List}
use native.Mathlib.Nat.{one-mul, div-one}
use native.Mathlib.Omega.{arith}
use lib.Dec.{leb, ltb, eqb}
use lib.Pow.{pow_pos, shl_exact}
use borrow.Author.Tests.{leb-false, le-leb, lt-leb}
use Rattle.bits.specs.Bits.{field}
use Rattle.bits.proofs.FieldLaws.{field_lt}
use Rattle.bits.proofs.ChoiceLaws.{by_cases}
use Rattle.bits.proofs.Never.{never}
use Rattle.bitio.specs.Cursors.{good, window, bad_cursor_lem, at_cursor, position_of}
use Rattle.bitio.specs.Reads.{read_bit_lem, read_bits_lem, widest_read}
use Rattle.bitio.specs.Numbers.{log2, serialized_top, serialized_at, read_serialized_int_lem}
use Rattle.bitio.proofs.CursorLaws.{at_bad, at_good, at_holds, asking_holds}
use Rattle.bitio.proofs.NumberLaws.{log2_zeros}
use Rattle.bitio.specs.declared.Cursor.{Cursor}
use Rattle.bitio.specs.declared.Read.{Read}
use Rattle.bitio.specs.declared.Refusal as bitio
use Rattle.geometry.specs.Parts.{at, up_to, and_then, unread, axis_after, axis_at, part_at, three, three_at, apart, together, components_at, Below}
use Rattle.geometry.specs.declared.parts.Part.{Part}
use Rattle.geometry.specs.declared.parts.Part.TheVariants.{Bits, Axis, Integer}
use Rattle.geometry.specs.declared.parts.Three.{Three}

-- ---- steps
pub then_holds : {A B E : Type 0} (Q : Result B E → Type 0) → ((r : E) → Q (Err r)) → (a : Result A E) (next : A → Result B E)
    → ((x : A) → a ≡ Ok x → Q (next x)) → Q (and_then a next)
unfolding and_then
then_holds Q fails (Ok x) next h = h x refl
then_holds Q fails (Err r) next h = fails r

-- a step of the bit reader that is read was read
pub was_read : {A : Type 0} (a : Result A bitio.Refusal) (x : A) → unread a ≡ Ok x → a ≡ Ok x
unfolding unread
was_read (Ok y) x e = cc
was_read (Err r) x e = let z : ◌≡◌ {A = ℕ} 0 1 = cc in never z

-- a read at a cursor that was moved to d: what the call gave is what the definition gives there
pub come : {A : Type 0} (f : Cursor → A) {c d : Cursor} {b k : A} → c ≡ d → b ≡ f c → b ≡ k → f d ≡ k
come f m e g = sym (ap f m) ∙ sym e ∙ g

-- three parts: the first, the second or the third is refused
module _ (s : List ℕ) (part : Part) (c : Cursor) {r : bitio.Refusal} where
  pub first_refused : Err r ≡ part_at s part c → Err r ≡ three_at s part c
  unfolding three_at and_then
  first_refused e = let e' = sym e in rw e'

  pub second_refused : {x : Read ℕ} → Ok x ≡ part_at s part c → Err r ≡ part_at s part (at c x.next) → Err r ≡ three_at s part c
  unfolding three_at and_then
  second_refused e f = let e' = sym e in let f' = sym f in rw (e', f')

  pub third_refused : {x y : Read ℕ} → Ok x ≡ part_at s part c → Ok y ≡ part_at s part (at c x.next) → Err r ≡ part_at s part (at c y.next)
      → Err r ≡ three_at s part c
  unfolding three_at and_then
  third_refused e f g = let e' = sym e in let f' = sym f in let g' = sym g in rw (e', f', g')

-- three parts that were read
pub three_read : (s : List ℕ) (part : Part) (c : Cursor) {x y z : Read ℕ} → Ok x ≡ part_at s part c → Ok y ≡ part_at s part (at c x.next)
    → Ok z ≡ part_at s part (at c y.next) → Ok (up_to (three x.value y.value z.value) z.next) ≡ three_at s part c
unfolding three_at and_then
three_read s part c e f g = let e' = sym e in let f' = sym f in let g' = sym g in rw (e', f', g')

-- ---- a rotation's axis, by its bit
module _ (s : List ℕ) (c : Cursor) (w p : ℕ) where
  pub axis_set : {x : Read ℕ} → Ok (up_to true p) ≡ read_bit_lem s c → Ok x ≡ read_bits_lem s (at c p) w → Ok x ≡ axis_at s c w
  unfolding axis_after and_then
  axis_set e g = let e' = sym e in rw e' g

  pub axis_clear : Ok (up_to false p) ≡ read_bit_lem s c → Ok (up_to 0 p) ≡ axis_at s c w
  unfolding axis_after and_then
  axis_clear e = let e' = sym e in rw e'

pub axis_refused : (s : List ℕ) (c : Cursor) (w : ℕ) {r : bitio.Refusal} → Err r ≡ read_bit_lem s c → Err r ≡ axis_at s c w
unfolding and_then
axis_refused s c w e = let e' = sym e in rw e'

-- ---- how large a number is
abbrev pub ValueBelow : (m : ℕ) → Result (Read ℕ) bitio.Refusal → Type 0
ValueBelow m r = IfOk r (λ x. x.value < m)

-- n bits
bits_below : (s : List ℕ) (n : ℕ) (c : Cursor) → ValueBelow (2 ^ n) (read_bits_lem s c n)
unfolding read_bits_lem
bits_below s n c =
    at_holds s c _ (ValueBelow (2 ^ n)) (λ r. tt) (λ g.
    by_cases (ltb widest_read n) (λ e. rw e tt)
    (λ e. rw e (asking_holds c.len c.pos n _ (ValueBelow (2 ^ n)) (λ r. tt) (λ k. field_lt (window s c) c.pos n))))

pub bits_lt : (s : List ℕ) (n : ℕ) (c : Cursor) {x : Read ℕ} → Ok x ≡ read_bits_lem s c n → x.value < 2 ^ n
bits_lt s n c e = subst (ValueBelow (2 ^ n)) (sym e) (bits_below s n c)

-- an axis of w bits
axis_below : (s : List ℕ) (w : ℕ) (c : Cursor) → ValueBelow (2 ^ w) (axis_at s c w)
unfolding axis_after
axis_below s w c =
    then_holds (ValueBelow (2 ^ w)) (λ r. tt) (read_bit_lem s c) (λ bit. axis_after s w c bit.value bit.next) (λ bit e. go bit.value bit.next)
  where
    go : (b : Bool) (p : ℕ) → ValueBelow (2 ^ w) (axis_after s w c b p)
    go true p = bits_below s w (at c p)
    go false p = pow_pos w

-- a serialized integer lies below its maximum
open_lt : (m b v t : ℕ) → v < 2 ^ b → t < 2 → v + 2 ^ b < m → v + t * 2 ^ b < m
open_lt m b v zero h k l = omega arith
open_lt m b v (suc zero) h k l = omega arith
open_lt m b v (suc (suc t)) h k l = absurd (omega arith)

top_below : (W len m b v pos : ℕ) → v < 2 ^ b → 2 ^ b ≤ m → ValueBelow m (serialized_top W len m b v pos)
unfolding serialized_top
top_below W len m b v pos h l =
    by_cases (leb m (v + 2 ^ b)) (λ e. rw e (omega arith))
    (λ e. rw e (asking_holds len pos 1 _ (ValueBelow m) (λ r. tt) (λ k. open_lt m b v (field W pos 1) h (field_lt W pos 1) (leb-false _ _ e))))

serialized_below : (s : List ℕ) (m : ℕ) → 0 < m → m < 2 ^ 32 → (c : Cursor) → ValueBelow m (read_serialized_int_lem s c m)
unfolding serialized_at
serialized_below s m lo hi c =
    at_holds s c _ (ValueBelow m) (λ r. tt) (λ g.
    by_cases (eqb m 0) (λ e. rw e tt)
    (λ e. rw e (asking_holds c.len c.pos (log2 m) _ (ValueBelow m) (λ r. tt)
    (λ k. top_below (window s c) c.len m (log2 m) (field (window s c) c.pos (log2 m)) (c.pos + log2 m) (field_lt (window s c) c.pos (log2 m)) (log2_zeros m lo hi).2))))

pub serialized_lt : (s : List ℕ) (m : ℕ) → 0 < m → m < 2 ^ 32 → (c : Cursor) {x : Read ℕ} → Ok x ≡ read_serialized_int_lem s c m → x.value < m
serialized_lt s m lo hi c e = subst (ValueBelow m) (sym e) (serialized_below s m lo hi c)

-- three numbers below m, each of which is
abbrev AllBelow : (m : ℕ) → Result (Read Three) bitio.Refusal → Type 0
AllBelow m r = IfOk r (λ t. Below m t.value)

three_below : (s : List ℕ) (part : Part) (m : ℕ) → ((d : Cursor) → ValueBelow m (part_at s part d)) → (c : Cursor) → AllBelow m (three_at s part c)
unfolding three_at
three_below s part m h c =
    then_holds (AllBelow m) (λ r. tt) (part_at s part c) _ (λ x ex.
    then_holds (AllBelow m) (λ r. tt) (part_at s part (at c x.next)) _ (λ y ey.
    then_holds (AllBelow m) (λ r. tt) (part_at s part (at c y.next)) _ (λ z ez.
    record {
      below_x = subst (ValueBelow m) ex (h c);
      below_y = subst (ValueBelow m) ey (h (at c x.next));
      below_z = subst (ValueBelow m) ez (h (at c y.next));
    })))

together_below : (w : ℕ) (r : Result (Read ℕ) bitio.Refusal) → AllBelow (2 ^ w) (together w r)
unfolding together
together_below w r =
    then_holds (AllBelow (2 ^ w)) (λ q. tt) r _ (λ x e.
    record { below_x = field_lt x.value 0 w; below_y = field_lt x.value w w; below_z = field_lt x.value (2 * w) w })

-- what the calls gave
module _ (s : List ℕ) (c : Cursor) {t : Read Three} where
  given_below : (m : ℕ) {r : Result (Read Three) bitio.Refusal} → Ok t ≡ r → AllBelow m r → Below m t.value
  given_below m e b = subst (AllBelow m) (sym e) b

  pub below_bits : (n : ℕ) → Ok t ≡ three_at s (Bits n) c → Below (2 ^ n) t.value
  unfolding part_at
  below_bits n e = given_below (2 ^ n) e (three_below s (Bits n) (2 ^ n) (bits_below s n) c)

  pub below_axes : (w : ℕ) → Ok t ≡ three_at s (Axis w) c → Below (2 ^ w) t.value
  unfolding part_at
  below_axes w e = given_below (2 ^ w) e (three_below s (Axis w) (2 ^ w) (axis_below s w) c)

  pub below_integers : (m : ℕ) → 0 < m → m < 2 ^ 32 → Ok t ≡ three_at s (Integer m) c → Below m t.value
  unfolding part_at
  below_integers m lo hi e = given_below m e (three_below s (Integer m) m (serialized_below s m lo hi) c)

  pub below_components : (w : ℕ) → Ok t ≡ components_at s w c → Below (2 ^ w) t.value
  unfolding components_at part_at
  below_components w e =
      given_below (2 ^ w) e
      (by_cases (leb (3 * w) widest_read)
      (λ k. rw k (together_below w (read_bits_lem s c (3 * w))))
      (λ k. rw k (three_below s (Bits w) (2 ^ w) (bits_below s w) c)))

-- the three numbers of a value
pub below_at : {m : ℕ} {t : Three} {x y z : ℕ} → t ≡ three x y z → Below m t → (x < m) × (y < m) × (z < m)
below_at {m} e b = let k = subst (Below m) e b in (k.below_x, k.below_y, k.below_z)

-- ---- components: one read, or three
module _ (s : List ℕ) (w : ℕ) (c : Cursor) {t : Result (Read Three) bitio.Refusal} where
  pub one_read : 3 * w ≤ 64 → t ≡ together w (read_bits_lem s c (3 * w)) → t ≡ components_at s w c
  unfolding components_at
  one_read h e = e ∙ sym (simp (le-leb _ _ h))

  pub three_reads : 64 < 3 * w → t ≡ three_at s (Bits w) c → t ≡ components_at s w c
  unfolding components_at
  three_reads h e = e ∙ sym (simp (lt-leb _ _ h))

-- three numbers of one read, as the code takes them apart: 2 ^ w by a shift
pub size_is : (w : ℕ) → w ≤ 21 → (1 * 2 ^ w) % 18446744073709551616 ≡ 2 ^ w
size_is w h = shl_exact 1 w 64 (omega arith) (omega arith) ∙ one-mul (2 ^ w)

pub size_pos : (w : ℕ) → w ≤ 21 → 0 < (1 * 2 ^ w) % 18446744073709551616
size_pos w h = rw (size_is w h) (pow_pos w)

pub apart_is : (w x : ℕ) → w ≤ 21 →
    let size = (1 * 2 ^ w) % 18446744073709551616 in
    three (x % size) (x / 2 ^ w % size) (x / 2 ^ (2 * w) % size) ≡ apart w x
unfolding field
apart_is w x h =
    rw (size_is w h) (ap (λ (k : ℕ). three (k % 2 ^ w) (x / 2 ^ w % 2 ^ w) (x / 2 ^ (2 * w) % 2 ^ w)) (sym (div-one x)))

pub together_refused : (w : ℕ) {b : Result (Read ℕ) bitio.Refusal} {r : bitio.Refusal} → b ≡ Err r → Err r ≡ together w b
unfolding together and_then
together_refused w g = rw g

-- ---- the test of a cursor, by asking for its position
apart_answers : {x : ℕ} {r : bitio.Refusal} → ◌≡◌ {A = Result ℕ bitio.Refusal} (Ok x) (Err r) → ◌≡◌ {A = ℕ} 0 1
apart_answers e = cc

same_refusal : {r q : bitio.Refusal} → ◌≡◌ {A = Result ℕ bitio.Refusal} (Err r) (Err q) → r ≡ q
same_refusal e = cc

module _ (s : List ℕ) (c : Cursor) {A : Type 0} (inside : Result A bitio.Refusal) {m : Result ℕ bitio.Refusal} (e : m ≡ position_of s c) where
  pub past_test : {n : ℕ} {x : Result A bitio.Refusal} → m ≡ Ok n → x ≡ inside → x ≡ at_cursor s c (λ W. inside)
  past_test g k =
      by_cases (good s c)
      (λ t. k ∙ sym (at_good s c (λ W. inside) t))
      (λ t. never (apart_answers (sym g ∙ e ∙ at_bad s c (λ W. Ok c.pos) t)))

  pub at_test : {r : bitio.Refusal} → m ≡ Err r → Err r ≡ at_cursor s c (λ W. inside)
  at_test {r} g =
      by_cases (good s c)
      (λ t. never (apart_answers (sym (at_good s c (λ W. Ok c.pos) t) ∙ sym e ∙ g)))
      (λ t.
      let q : r ≡ bad_cursor_lem s c = same_refusal (sym g ∙ e ∙ at_bad s c (λ W. Ok c.pos) t) in
      ap Err q ∙ sym (at_bad s c (λ W. inside) t))
