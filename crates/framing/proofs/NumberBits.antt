-- The bits of a packed number: what is read is a number whose bits stand there, and one whose bits stand there is read. Byte by byte: the first
-- is told from the rest by its eight bits, and the value's lowest seven by theirs.
use Prim.Native.Nat.{ℕ, zero, suc, ◌+◌, ◌*◌, ◌/◌, ◌%◌, ◌^◌, ◌≤◌, ◌<◌}
use mathlib.Core.Path.{◌≡◌, refl, sym, ap, ap₂, ◌∙◌, subst}
use mathlib.Core.Bool.{Bool, true, false}
use native.Mathlib.Nat.{mul_comm, add_comm, div-one}
use native.Mathlib.Omega.{arith}
use lib.Dec.{leb, eqb}
use lib.Pow.{pow-add, shr-shr, high, low}
use borrow.Author.Tests.{le-leb, leb-true, eq-eqb, ne_eqb, eqb-true, eqb-false}
use Rattle.bits.specs.Bits.{field}
use Rattle.bits.specs.Packed.{Packed, whole, after, earlier_byte, fifth_byte, fifth_most, packed_from}
use Rattle.bits.specs.declared.Broken.TheVariants.{Cut, GoesOn, Overflows}
use Rattle.std.specs.Prelude.{Ok, Err}
use Rattle.bits.proofs.PackedLaws.{same_value, same_bytes}
use Rattle.bits.proofs.FieldLaws.{field_lt, field_split}
use Rattle.framing.specs.Grammar.{packed_bits}

-- ---- a number of n bits below another

pub low_part : (a n b : ℕ) → a < 2 ^ n → (a + 2 ^ n * b) % 2 ^ n ≡ a
low_part a n b h = ap (λ (x : ℕ). x % 2 ^ n) (add_comm a (2 ^ n * b) ∙ ap (λ (x : ℕ). x + a) (mul_comm (2 ^ n) b)) ∙ low b n h

pub high_part : (a n b : ℕ) → a < 2 ^ n → (a + 2 ^ n * b) / 2 ^ n ≡ b
high_part a n b h = ap (λ (x : ℕ). x / 2 ^ n) (add_comm a (2 ^ n * b) ∙ ap (λ (x : ℕ). x + a) (mul_comm (2 ^ n) b)) ∙ high b n h

-- ---- packed numbers

seven_more : (n : ℕ) → 2 ^ (7 * suc n) ≡ 2 ^ 7 * 2 ^ (7 * n)
seven_more n = let e : 7 * suc n ≡ 7 + 7 * n = omega arith in ap (λ (k : ℕ). 2 ^ k) e ∙ pow-add 2 7 (7 * n)

-- what a number that is read is: how long, how large, and which bits
pub record Written (left W len p v b : ℕ) : Type 0 where
  pub some : 1 ≤ b
  pub most : b ≤ left + 1
  pub fits : v < 2 ^ (7 * b)
  pub last : b ≡ left + 1 → v < 2 ^ (7 * left + 4)
  pub inside : p + 8 * b ≤ len
  pub bits : field W p (8 * b) ≡ packed_bits b v

one_byte : (left W len p B : ℕ) → field W p 8 ≡ B → B % 2 ≡ 0 → p + 8 ≤ len → (1 ≡ left + 1 → B / 2 < 2 ^ (7 * left + 4)) → Written left W len p (B / 2) 1
unfolding packed_bits
one_byte left W len p B e even h l =
    let k : field W p 8 < 2 ^ 8 = field_lt W p 8 in
    record { some = omega arith; most = omega arith; fits = omega arith; last = l; inside = omega arith; bits = omega arith }

more_bits : (W p B v b : ℕ) → field W p 8 ≡ B → B < 2 ^ 8 → B % 2 ≡ 1 → 1 ≤ b → field W (p + 8) (8 * b) ≡ packed_bits b v
    → field W p (8 * suc b) ≡ packed_bits (suc b) (B / 2 + 2 ^ 7 * v)
unfolding packed_bits
more_bits W p B v zero e l odd h f = absurd (omega arith)
more_bits W p B v (suc n) e l odd h f =
    let s : 8 * suc (suc n) ≡ 8 + 8 * suc n = omega arith in
    let g : (B / 2 + 2 ^ 7 * v) % 2 ^ 7 ≡ B / 2 = low_part (B / 2) 7 v (omega arith) in
    let r : (B / 2 + 2 ^ 7 * v) / 2 ^ 7 ≡ v = high_part (B / 2) 7 v (omega arith) in
    let b₁ : B ≡ 2 * (B / 2) + 1 = omega arith in
    ap (λ (k : ℕ). field W p k) s
    ∙ field_split W p 8 (8 * suc n)
    ∙ ap₂ (λ (x y : ℕ). x + 2 ^ 8 * y) (e ∙ b₁) f
    ∙ ap₂ (λ (x y : ℕ). 2 * x + 1 + 2 ^ 8 * packed_bits (suc n) y) (sym g) (sym r)

more_bytes : (left W len p B v b : ℕ) → field W p 8 ≡ B → B % 2 ≡ 1 → Written left W len (p + 8) v b
    → Written (suc left) W len p (B / 2 + 2 ^ 7 * v) (suc b)
more_bytes left W len p B v b e odd r =
    let k : field W p 8 < 2 ^ 8 = field_lt W p 8 in
    let l : B < 2 ^ 8 = omega arith in
    let s : 2 ^ (7 * suc b) ≡ 2 ^ 7 * 2 ^ (7 * b) = seven_more b in
    let f = r.fits in
    let c : 7 * suc left + 4 ≡ 7 + (7 * left + 4) = omega arith in
    let t : 2 ^ (7 * suc left + 4) ≡ 2 ^ 7 * 2 ^ (7 * left + 4) = ap (λ (k : ℕ). 2 ^ k) c ∙ pow-add 2 7 (7 * left + 4) in
    record {
      some = omega arith;
      most = (let z = r.most in omega arith);
      fits = omega arith;
      last = λ h. (let z = r.last (omega arith) in omega arith);
      inside = (let z = r.inside in omega arith);
      bits = more_bits W p B v b e l odd r.some r.bits;
    }

after_whole : (g : ℕ) (r : Packed) (v b : ℕ) (A : Type 0) → after 1 g r ≡ whole v b
    → ((x n : ℕ) → r ≡ whole x n → v ≡ g + 2 ^ 7 * x → b ≡ suc n → A) → A
unfolding after
after_whole g (Ok x) v b A e f = let z : 1 + x.bytes ≡ b = same_bytes e in f x.value x.bytes refl (sym (same_value e)) (omega arith)
after_whole g (Err (Cut n)) v b A e f = let z : ◌≡◌ {A = ℕ} 0 1 = cc in absurd (omega arith)
after_whole g (Err GoesOn) v b A e f = let z : ◌≡◌ {A = ℕ} 0 1 = cc in absurd (omega arith)
after_whole g (Err Overflows) v b A e f = let z : ◌≡◌ {A = ℕ} 0 1 = cc in absurd (omega arith)

odd_byte : (B : ℕ) → (B % 2 ≡ 0 → ⊥) → B % 2 ≡ 1
odd_byte B h = omega arith

-- a fifth byte that ends a number
fifth_whole : (W len p B v b : ℕ) → p + 8 ≤ len → field W p 8 ≡ B → fifth_byte B ≡ whole v b → Written 0 W len p v b
unfolding fifth_byte
fifth_whole W len p B v b h f e = go (eqb (B % 2) 0) refl (leb (B / 2) fifth_most) refl
  where
    go : (x : Bool) → eqb (B % 2) 0 ≡ x → (y : Bool) → leb (B / 2) fifth_most ≡ y → Written 0 W len p v b
    go true k true l =
        let e' : whole (B / 2) 1 ≡ whole v b = rw (k, l) at e in
        let ev : B / 2 ≡ v = same_value e' in
        let eb : 1 ≡ b = same_bytes e' in
        let small : B / 2 ≤ 15 = leb-true _ _ l in
        subst (λ (n : ℕ). Written 0 W len p v n) eb
        (subst (λ (x : ℕ). Written 0 W len p x 1) ev (one_byte 0 W len p B f (eqb-true _ _ k) h (λ z. omega arith)))
    go true k false l = let e' : Err Overflows ≡ whole v b = rw (k, l) at e in let z : ◌≡◌ {A = ℕ} 0 1 = cc in absurd (omega arith)
    go false k y l = let e' : Err GoesOn ≡ whole v b = rw k at e in let z : ◌≡◌ {A = ℕ} 0 1 = cc in absurd (omega arith)

-- read, so written
pub written_from : (left W len p v b : ℕ) → packed_from left W len p ≡ whole v b → Written left W len p v b
unfolding packed_from earlier_byte
written_from zero W len p v b e = go (leb (p + 8) len) refl
  where
    go : (x : Bool) → leb (p + 8) len ≡ x → Written zero W len p v b
    go true k = fifth_whole W len p (field W p 8) v b (leb-true _ _ k) refl (rw k at e)
    go false k = let e' : Err (Cut 0) ≡ whole v b = rw k at e in let z : ◌≡◌ {A = ℕ} 0 1 = cc in absurd (omega arith)
written_from (suc left) W len p v b e = go (λ x n r. written_from left W len (p + 8) x n r) (leb (p + 8) len) refl (eqb (field W p 8 % 2) 0) refl
  where
    go : ((x n : ℕ) → packed_from left W len (p + 8) ≡ whole x n → Written left W len (p + 8) x n)
        → (x : Bool) → leb (p + 8) len ≡ x → (y : Bool) → eqb (field W p 8 % 2) 0 ≡ y → Written (suc left) W len p v b
    go rest true k true l =
        let e' : whole (field W p 8 / 2) 1 ≡ whole v b = rw (k, l) at e in
        let ev : field W p 8 / 2 ≡ v = same_value e' in
        let eb : 1 ≡ b = same_bytes e' in
        subst (λ (n : ℕ). Written (suc left) W len p v n) eb
        (subst (λ (x : ℕ). Written (suc left) W len p x 1) ev
        (one_byte (suc left) W len p (field W p 8) refl (eqb-true _ _ l) (leb-true _ _ k) (λ z. absurd (omega arith))))
    go rest true k false l =
        let e' : after 1 (field W p 8 / 2) (packed_from left W len (p + 8)) ≡ whole v b = rw (k, l) at e in
        let odd : field W p 8 % 2 ≡ 1 = odd_byte (field W p 8) (eqb-false _ _ l) in
        after_whole (field W p 8 / 2) (packed_from left W len (p + 8)) v b (Written (suc left) W len p v b) e'
        (λ x n r ev eb.
        subst (λ (m : ℕ). Written (suc left) W len p v m) (sym eb)
        (subst (λ (y : ℕ). Written (suc left) W len p y (suc n)) (sym ev)
        (more_bytes left W len p (field W p 8) x n refl odd (rest x n r))))
    go rest false k y l = let e' : Err (Cut 0) ≡ whole v b = rw k at e in let z : ◌≡◌ {A = ℕ} 0 1 = cc in absurd (omega arith)

-- written, so read
seven_less : (v n : ℕ) → v < 2 ^ (7 * suc n) → v / 2 ^ 7 < 2 ^ (7 * n)
seven_less v n h = let s = seven_more n in omega arith

eleven_less : (v left : ℕ) → v < 2 ^ (7 * suc left + 4) → v / 2 ^ 7 < 2 ^ (7 * left + 4)
eleven_less v left h =
    let c : 7 * suc left + 4 ≡ 7 + (7 * left + 4) = omega arith in
    let t : 2 ^ (7 * suc left + 4) ≡ 2 ^ 7 * 2 ^ (7 * left + 4) = ap (λ (k : ℕ). 2 ^ k) c ∙ pow-add 2 7 (7 * left + 4) in
    omega arith

-- the first byte and the rest of a number of two bytes and more
first_byte : (W p v n : ℕ) → field W p (8 * suc (suc n)) ≡ packed_bits (suc (suc n)) v
    → (field W p 8 ≡ 2 * (v % 2 ^ 7) + 1) × (field W (p + 8) (8 * suc n) ≡ packed_bits (suc n) (v / 2 ^ 7))
unfolding packed_bits
first_byte W p v n e =
    let s : 8 * suc (suc n) ≡ 8 + 8 * suc n = omega arith in
    let f : field W p 8 + 2 ^ 8 * field W (p + 8) (8 * suc n) ≡ 2 * (v % 2 ^ 7) + 1 + 2 ^ 8 * packed_bits (suc n) (v / 2 ^ 7) =
    sym (field_split W p 8 (8 * suc n)) ∙ ap (λ (k : ℕ). field W p k) (sym s) ∙ e in
    let k : field W p 8 < 2 ^ 8 = field_lt W p 8 in
    let m : 2 * (v % 2 ^ 7) + 1 < 2 ^ 8 = omega arith in (
      sym (low_part (field W p 8) 8 (field W (p + 8) (8 * suc n)) k)
          ∙ ap (λ (x : ℕ). x % 2 ^ 8) f
          ∙ low_part (2 * (v % 2 ^ 7) + 1) 8 (packed_bits (suc n) (v / 2 ^ 7)) m,
      sym (high_part (field W p 8) 8 (field W (p + 8) (8 * suc n)) k)
          ∙ ap (λ (x : ℕ). x / 2 ^ 8) f
          ∙ high_part (2 * (v % 2 ^ 7) + 1) 8 (packed_bits (suc n) (v / 2 ^ 7)) m,
    )

single_bits : (W p v : ℕ) → field W p (8 * 1) ≡ packed_bits 1 v → field W p 8 ≡ 2 * v
unfolding packed_bits
single_bits W p v e = e

pub read_from : (left W len p v b : ℕ) → Written left W len p v b → packed_from left W len p ≡ whole v b
unfolding packed_from earlier_byte fifth_byte after
read_from zero W len p v b r =
    let eb : b ≡ 1 = (let x = r.some in let y = r.most in omega arith) in
    let h = r.inside in
    let f : field W p 8 ≡ 2 * v = single_bits W p v (rw eb at r.bits) in
    let l : v < 2 ^ (7 * 0 + 4) = r.last (omega arith) in
    let e₁ : 2 * v % 2 ≡ 0 = omega arith in
    let e₂ : 2 * v / 2 ≡ v = omega arith in
    rw (le-leb (p + 8) len (omega arith), f, eq-eqb (2 * v % 2) 0 e₁, e₂, le-leb v fifth_most (omega arith), eb) refl
read_from (suc left) W len p v zero r = absurd (let x = r.some in omega arith)
read_from (suc left) W len p v (suc zero) r =
    let h = r.inside in
    let f : field W p 8 ≡ 2 * v = single_bits W p v r.bits in
    let e₁ : 2 * v % 2 ≡ 0 = omega arith in
    let e₂ : 2 * v / 2 ≡ v = omega arith in
    rw (le-leb (p + 8) len (omega arith), f, eq-eqb (2 * v % 2) 0 e₁, e₂) refl
read_from (suc left) W len p v (suc (suc n)) r =
    let h = r.inside in
    let f = first_byte W p v n r.bits in
    let m = r.most in
    let e₁ : (2 * (v % 2 ^ 7) + 1) % 2 ≡ 1 = omega arith in
    let e₂ : (2 * (v % 2 ^ 7) + 1) / 2 ≡ v % 2 ^ 7 = omega arith in
    let rest : packed_from left W len (p + 8) ≡ whole (v / 2 ^ 7) (suc n) =
    read_from left W len (p + 8) (v / 2 ^ 7) (suc n)
    (record {
      some = omega arith;
      most = omega arith;
      fits = seven_less v (suc n) r.fits;
      last = λ z. eleven_less v left (r.last (omega arith));
      inside = omega arith;
      bits = f.1;
    }) in
    rw (le-leb (p + 8) len (omega arith), f.0, ne_eqb ((2 * (v % 2 ^ 7) + 1) % 2) 0 (λ z. omega arith), e₂, rest)
    (ap₂ whole (omega arith) (omega arith))

-- no more bits than its bytes have
pub packed_below : (b v : ℕ) → v < 2 ^ (7 * b) → packed_bits b v < 2 ^ (8 * b)
unfolding packed_bits
packed_below zero v h = omega arith
packed_below (suc zero) v h = omega arith
packed_below (suc (suc n)) v h =
    let e : 2 ^ (8 * suc (suc n)) ≡ 2 ^ 8 * 2 ^ (8 * suc n) = eight n in
    let r : packed_bits (suc n) (v / 2 ^ 7) < 2 ^ (8 * suc n) = packed_below (suc n) (v / 2 ^ 7) (seven_less v (suc n) h) in
    omega arith
  where
    eight : (n : ℕ) → 2 ^ (8 * suc (suc n)) ≡ 2 ^ 8 * 2 ^ (8 * suc n)
    eight n = let s : 8 * suc (suc n) ≡ 8 + 8 * suc n = omega arith in ap (λ (k : ℕ). 2 ^ k) s ∙ pow-add 2 8 (8 * suc n)

-- the last byte holds the value's highest group, above a 0
pub last_byte : (W p v n : ℕ) → field W p (8 * suc n) ≡ packed_bits (suc n) v → field W (p + 8 * n) 8 ≡ 2 * (v / 2 ^ (7 * n))
last_byte W p v zero e =
    let z : p + 8 * 0 ≡ p = omega arith in
    ap (λ (k : ℕ). field W k 8) z ∙ single_bits W p v e ∙ ap (λ (x : ℕ). 2 * x) (sym (div-one v))
last_byte W p v (suc n) e =
    let z : p + 8 * suc n ≡ p + 8 + 8 * n = omega arith in
    let s : 7 + 7 * n ≡ 7 * suc n = omega arith in
    ap (λ (k : ℕ). field W k 8) z
    ∙ last_byte W (p + 8) (v / 2 ^ 7) n (first_byte W p v n e).1
    ∙ ap (λ (x : ℕ). 2 * x) (shr-shr v 7 (7 * n) ∙ ap (λ (k : ℕ). v / 2 ^ k) s)
