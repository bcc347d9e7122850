-- The laws of `num` and `field`.
use Prim.Native.Nat.{ℕ, zero, suc, ◌+◌, ◌-◌, ◌*◌, ◌/◌, ◌%◌, ◌^◌, ◌≤◌, ◌<◌}
use mathlib.Core.Path.{◌≡◌, refl, sym, ap, ap₂, ◌∙◌, subst}
use mathlib.Core.Bool.{Bool, true, false}
use mathlib.Core.List.{List, [], ◌∷◌}
use native.Mathlib.Nat.{mod-lt, zero-div, zero-mod, div-add-mod, mod-one, add-zero, mul_comm, add_comm, div-one, add-mul-div_left, add-mul-mod_self_left, div-eq_of_lt, mod-eq_of_lt, sub-add_cancel, zero-add, lt_of_lt_of_le}
use native.Mathlib.Numerals.{add-one}
use native.Mathlib.Omega.{arith}
use lib.ListN.{length, get_or, take, drop}
use lib.Dec.{lit<, eqb}
use borrow.Author.Tests.{eqb-true, eqb-false}
use lib.Seq.{get_or-drop}
use lib.Pow.{pow_pos, pow_mono, pow-add, shr-shr, shr_lt, mod-pow-add, mod-mod-pow}
use lib.Pow as P
use Rattle.bits.specs.Bits.{num, field, Bytes}

-- a field is a number of its width
pub field_lt : (N p n : ℕ) → field N p n < 2 ^ n
unfolding field
field_lt N p n = mod-lt (N / 2 ^ p) (pow_pos n)

-- no bits: zero
pub field_none : (N p : ℕ) → field N p 0 ≡ 0
unfolding field
field_none N p = mod-one (N / 2 ^ p)

-- a field of a + b bits is one of a bits and, above it, one of b bits
pub field_split : (N p a b : ℕ) → field N p (a + b) ≡ field N p a + 2 ^ a * field N (p + a) b
unfolding field
field_split N p a b =
    ap (λ (k : ℕ). N / 2 ^ p % 2 ^ k) (add_comm a b)
    ∙ mod-pow-add (N / 2 ^ p) b a
    ∙ ap (λ (x : ℕ). (x % 2 ^ b) * 2 ^ a + N / 2 ^ p % 2 ^ a) (shr-shr N p a)
    ∙ add_comm ((N / 2 ^ (p + a) % 2 ^ b) * 2 ^ a) (N / 2 ^ p % 2 ^ a)
    ∙ ap (λ (x : ℕ). N / 2 ^ p % 2 ^ a + x) (mul_comm (N / 2 ^ (p + a) % 2 ^ b) (2 ^ a))

-- the low bits of a field: a narrower one
pub field_low : (N p n w : ℕ) → n ≤ w → field N p w % 2 ^ n ≡ field N p n
unfolding field
field_low N p n w h =
    ap (λ (k : ℕ). N / 2 ^ p % 2 ^ k % 2 ^ n) (sym (sub-add_cancel h)) ∙ mod-mod-pow (N / 2 ^ p) (w - n) n

-- the high bits of a field: one that starts later
pub field_high : (N o w p : ℕ) → p ≤ w → field N o w / 2 ^ p ≡ field N (o + p) (w - p)
unfolding field
field_high N o w p h =
    ap (λ (k : ℕ). N / 2 ^ o % 2 ^ k / 2 ^ p) (sym (sub-add_cancel h))
    ∙ P.field (N / 2 ^ o) (w - p) p
    ∙ ap (λ (x : ℕ). x % 2 ^ (w - p)) (shr-shr N o p)

-- a field of a field
pub field_field : (N o w p n : ℕ) → p + n ≤ w → field (field N o w) p n ≡ field N (o + p) n
unfolding field
field_field N o w p n h =
    let le : p ≤ w = omega arith in
    let le₂ : n ≤ w - p = omega arith in
    ap (λ (x : ℕ). x % 2 ^ n) (field_high N o w p le) ∙ field_low N (o + p) n (w - p) le₂

-- a field of the number's low bits
pub field_prefix : (N m p n : ℕ) → p + n ≤ m → field (N % 2 ^ m) p n ≡ field N p n
unfolding field
field_prefix N m p n h =
    ap (λ (x : ℕ). x % 2 ^ m / 2 ^ p % 2 ^ n) (sym (div-one N))
    ∙ field_field N 0 m p n h
    ∙ ap (λ (k : ℕ). N / 2 ^ k % 2 ^ n) (zero-add p)

-- a field of a quotient
pub field_shr : (N a p n : ℕ) → field (N / 2 ^ a) p n ≡ field N (a + p) n
unfolding field
field_shr N a p n = ap (λ (x : ℕ). x % 2 ^ n) (shr-shr N a p)

-- a field that reaches past the number's last bit is all that is left
pub field_rest : (N p n m : ℕ) → N < 2 ^ m → m ≤ p + n → field N p n ≡ N / 2 ^ p
unfolding field
field_rest N p n m h l =
    mod-eq_of_lt (shr_lt n p (lt_of_lt_of_le h (pow_mono (subst (λ (k : ℕ). m ≤ k) (add_comm p n) l))))

-- ---- bytes

pub bytes_tail : (b : ℕ) (s : List ℕ) → Bytes (b ∷ s) → Bytes s
bytes_tail b s h i = h (suc i)

step : (b : ℕ) (s : List ℕ) → b < 2 ^ 8 → num (b ∷ s) / 2 ^ 8 ≡ num s
unfolding num
step b s h = add-mul-div_left b (num s) (lit< tt) ∙ ap (λ (x : ℕ). x + num s) (div-eq_of_lt h) ∙ zero-add (num s)

pub eight_suc : (i : ℕ) → 8 * suc i ≡ 8 + 8 * i
eight_suc i = omega arith

num_nil_shr : (k : ℕ) → num [] ≡ num [] / 2 ^ k
unfolding num
num_nil_shr k = sym (zero-div (2 ^ k))

-- leaving bytes off the front is a shift
pub num_drop : (a : ℕ) (s : List ℕ) → Bytes s → num (drop a s) ≡ num s / 2 ^ (8 * a)
num_drop zero s h = sym (div-one (num s))
num_drop (suc a) [] h = num_nil_shr (8 * suc a)
num_drop (suc a) (b ∷ s) h =
    num_drop a s (bytes_tail b s h)
    ∙ ap (λ (x : ℕ). x / 2 ^ (8 * a)) (sym (step b s (h 0)))
    ∙ shr-shr (num (b ∷ s)) 8 (8 * a)
    ∙ ap (λ (k : ℕ). num (b ∷ s) / 2 ^ k) (sym (eight_suc a))

-- the low byte
first : (s : List ℕ) → Bytes s → num s % 2 ^ 8 ≡ get_or s 0 0
unfolding num
first [] h = refl
first (b ∷ s) h = add-mul-mod_self_left b (2 ^ 8) (num s) ∙ mod-eq_of_lt (h 0)

-- eight bits from a byte's first bit are the byte, and zeros past the end
pub field_byte : (s : List ℕ) (i : ℕ) → Bytes s → field (num s) (8 * i) 8 ≡ get_or s i 0
unfolding field
field_byte s i h =
    ap (λ (x : ℕ). x % 2 ^ 8) (sym (num_drop i s h))
    ∙ first (drop i s) (λ j. subst (λ (x : ℕ). x < 2 ^ 8) (sym (get_or-drop i s j 0)) (h (i + j)))
    ∙ get_or-drop i s 0 0
    ∙ ap (λ (k : ℕ). get_or s k 0) (add-zero i)

-- the same of the bytes after the first a
pub bytes_drop : (a : ℕ) (s : List ℕ) → Bytes s → Bytes (drop a s)
bytes_drop a s h j = subst (λ (x : ℕ). x < 2 ^ 8) (sym (get_or-drop a s j 0)) (h (a + j))

-- the bytes' bit k stands in byte k / 8, at place k % 8
pub field_bit : (s : List ℕ) (k : ℕ) → Bytes s → field (num s) k 1 ≡ get_or s (k / 8) 0 / 2 ^ (k % 8) % 2
unfolding field
field_bit s k h =
    let lt : k % 8 + 1 ≤ 8 = omega arith in
    ap (λ (j : ℕ). field (num s) j 1) (sym (div-add-mod k 8))
    ∙ sym (field_field (num s) (8 * (k / 8)) 8 (k % 8) 1 lt)
    ∙ ap (λ (x : ℕ). field x (k % 8) 1) (field_byte s (k / 8) h)

-- all the bytes: a number of their width
eight_pow : (l : ℕ) → 2 ^ (8 * suc l) ≡ 256 * 2 ^ (8 * l)
eight_pow l = ap (λ (k : ℕ). 2 ^ k) (eight_suc l) ∙ pow-add 2 8 (8 * l)

pub num_lt : (s : List ℕ) → Bytes s → num s < 2 ^ (8 * length s)
unfolding num
num_lt [] h = lit< tt
num_lt (b ∷ s) h = subst (λ (x : ℕ). b + 256 * num s < x) (sym (eight_pow (length s))) (omega (arith, num_lt s (bytes_tail b s h), h 0))

nil_num : num [] ≡ 0
unfolding num
nil_num = refl

nil_mod : (k : ℕ) → num [] ≡ num [] % 2 ^ k
unfolding num
nil_mod k = sym (zero-mod (2 ^ k))

pub cons_num : (b : ℕ) (s : List ℕ) → num (b ∷ s) ≡ b + 2 ^ 8 * num s
unfolding num
cons_num b s = refl

turn : (x b : ℕ) → x * 2 ^ 8 + b ≡ b + 2 ^ 8 * x
turn x b = omega arith

-- the first m bytes: the low bits
pub num_take : (m : ℕ) (s : List ℕ) → Bytes s → num (take m s) ≡ num s % 2 ^ (8 * m)
num_take zero s h = nil_num ∙ sym (mod-one (num s))
num_take (suc m) [] h = nil_mod (8 * suc m)
num_take (suc m) (b ∷ s) h =
    cons_num b (take m s)
    ∙ ap (λ (x : ℕ). b + 2 ^ 8 * x) (num_take m s (bytes_tail b s h))
    ∙ sym
    (ap (λ (k : ℕ). num (b ∷ s) % 2 ^ k) (eight_suc m ∙ add_comm 8 (8 * m))
    ∙ mod-pow-add (num (b ∷ s)) (8 * m) 8
    ∙ ap₂ (λ (x y : ℕ). (x % 2 ^ (8 * m)) * 2 ^ 8 + y) (step b s (h 0)) (first (b ∷ s) h)
    ∙ turn (num s % 2 ^ (8 * m)) b)

-- a field of a part of a slice
pub field_part : (s : List ℕ) (a m p n : ℕ) → Bytes s → p + n ≤ 8 * m → field (num (take m (drop a s))) p n ≡ field (num s) (8 * a + p) n
field_part s a m p n h l =
    ap (λ (x : ℕ). field x p n) (num_take m (drop a s) (bytes_drop a s h))
    ∙ field_prefix (num (drop a s)) (8 * m) p n l
    ∙ ap (λ (x : ℕ). field x p n) (num_drop a s h)
    ∙ field_shr (num s) (8 * a) p n

-- what is a field is below the power of its width
pub bound : (r N p n : ℕ) → r ≡ field N p n → r < 2 ^ n
bound r N p n e = subst (λ (x : ℕ). x < 2 ^ n) (sym e) (field_lt N p n)

-- two fields next to each other, from bytes i and i + k on
pub joined : (N i k a b x y : ℕ) → a ≡ 8 * k → x ≡ field N (8 * i) a → y ≡ field N (8 * (i + k)) b → x + 2 ^ a * y ≡ field N (8 * i) (a + b)
joined N i k a b x y e ex ey =
    let e₂ : 8 * (i + k) ≡ 8 * i + a = omega arith in
    ap₂ (λ (u v : ℕ). u + 2 ^ a * v) ex (ey ∙ ap (λ (p : ℕ). field N p b) e₂) ∙ sym (field_split N (8 * i) a b)

-- a field cut out of a field, as the code computes it
pub inside : (N o w p n q x : ℕ) → o + p ≡ q → p + n ≤ w → x ≡ field N o w → x / 2 ^ p % 2 ^ n ≡ field N q n
unfolding field
inside N o w p n q x e l ex =
    ap (λ (y : ℕ). field y p n) ex ∙ field_field N o w p n l ∙ ap (λ (k : ℕ). field N k n) e

-- the same field, its place said in another way
pub placed : (N p q n x : ℕ) → p ≡ q → x ≡ field N p n → x ≡ field N q n
placed N p q n x e ex = ex ∙ ap (λ (k : ℕ). field N k n) e

pub field_empty : (N p n : ℕ) → n ≡ 0 → 0 ≡ field N p n
field_empty N p n e = sym (ap (λ (k : ℕ). field N p k) e ∙ field_none N p)

-- two fields that both reach the number's last bit are the same
pub field_all : (N p n k m : ℕ) → N < 2 ^ m → m ≤ p + n → m ≤ p + k → field N p n ≡ field N p k
field_all N p n k m h l₁ l₂ = field_rest N p n m h l₁ ∙ sym (field_rest N p k m h l₂)

-- one more bit on top
pub field_suc : (N p n : ℕ) → field N p (suc n) ≡ field N p n + 2 ^ n * field N (p + n) 1
field_suc N p n = ap (λ (k : ℕ). field N p k) (sym (add-one n)) ∙ field_split N p n 1

-- two fields whose bits are the same are the same
pub field_same : (N M p q n : ℕ) → ((k : ℕ) → k < n → field N (p + k) 1 ≡ field M (q + k) 1) → field N p n ≡ field M q n
field_same N M p q zero h = field_none N p ∙ sym (field_none M q)
field_same N M p q (suc n) h =
    field_suc N p n
    ∙ ap₂ (λ (x b : ℕ). x + 2 ^ n * b) (field_same N M p q n (λ k l. h k (omega arith))) (h n (omega arith))
    ∙ sym (field_suc M q n)

-- The two bytes from bit p: the bytes that hold them, shifted; the third is not looked at where p is a byte's first bit.
pub two_bytes : (N p x y : ℕ) → x ≡ field N (8 * (p / 8)) 16 → y ≡ field N (8 * ((p + 15) / 8)) 8 → (x + 65536 * y) / 2 ^ (p % 8) % 65536 ≡ field N p 16
two_bytes N p x y ex ey = go (eqb (p % 8) 0) refl
  where
    go : (t : Bool) → eqb (p % 8) 0 ≡ t → (x + 65536 * y) / 2 ^ (p % 8) % 65536 ≡ field N p 16
    go true t =
        let z : p % 8 ≡ 0 = eqb-true (p % 8) 0 t in
        let b : x < 65536 = bound x N (8 * (p / 8)) 16 ex in
        let l : (x + 65536 * y) / 1 % 65536 ≡ x = omega arith in
        let o : 8 * (p / 8) ≡ p = omega arith in
        ap (λ (k : ℕ). (x + 65536 * y) / 2 ^ k % 65536) z ∙ l ∙ placed N (8 * (p / 8)) p 16 x o ex
    go false t =
        let n = eqb-false (p % 8) 0 t in
        let z : 8 * ((p + 15) / 8) ≡ 8 * (p / 8 + 2) = omega (arith, n) in
        let o : 8 * (p / 8) + p % 8 ≡ p = omega arith in
        let r : p % 8 + 16 ≤ 24 = omega arith in
        inside N (8 * (p / 8)) 24 (p % 8) 16 p (x + 65536 * y) o r
        (joined N (p / 8) 2 16 8 x y refl ex (placed N (8 * ((p + 15) / 8)) (8 * (p / 8 + 2)) 8 y z ey))
