-- Laws of words of 64 bits: masks, and fields cut out of loaded words.
use Prim.Native.Nat.{ℕ, ◌+◌, ◌-◌, ◌*◌, ◌/◌, ◌%◌, ◌^◌, ◌≤◌, ◌<◌}
use mathlib.Core.Path.{◌≡◌, sym, ap, ap₂, ◌∙◌}
use native.Mathlib.Nat.{mul-mod_left, mul_comm, add_comm, add-zero}
use native.Mathlib.Omega.{arith}
use lib.Bits.{bit_and, bit_or, and_mask, or_shifted_r}
use lib.Pow.{ones_lt, ones_split, high, shl-shr, shr-shr, mod-pow-add}
use Rattle.bits.specs.Bits.{field}
use Rattle.bits.proofs.FieldLaws.{field_lt, field_low, field_high, field_split, field_rest}

-- all ones, shifted down to count bits
ones_shr : (count : ℕ) → count ≤ 64 → (2 ^ 64 - 1) / 2 ^ (64 - count) ≡ 2 ^ count - 1
ones_shr count h =
    let e : 64 ≡ count + (64 - count) = omega arith in
    ap (λ (m : ℕ). (2 ^ m - 1) / 2 ^ (64 - count)) e
    ∙ ap (λ (x : ℕ). x / 2 ^ (64 - count)) (ones_split count (64 - count))
    ∙ high (2 ^ count - 1) (64 - count) (ones_lt (64 - count))

-- the mask keeps count bits
pub cut : (x count : ℕ) → count ≤ 64 → bit_and x ((2 ^ 64 - 1) / 2 ^ (64 - count)) ≡ x % 2 ^ count
cut x count h = ap (λ (m : ℕ). bit_and x m) (ones_shr count h) ∙ and_mask x count

-- a shift to the left keeps the low bits
shl_mod : (a j k : ℕ) → (a * 2 ^ k) % 2 ^ (j + k) ≡ (a % 2 ^ j) * 2 ^ k
shl_mod a j k =
    mod-pow-add (a * 2 ^ k) j k
    ∙ ap₂ (λ (x y : ℕ). (x % 2 ^ j) * 2 ^ k + y) (shl-shr a k) (mul-mod_left a (2 ^ k))
    ∙ add-zero ((a % 2 ^ j) * 2 ^ k)

module _ (N i off at : ℕ) (at-is : 8 * i + off ≡ at) (off-lt : off < 8) where
  -- what is left of a word above its first bits
  pub low_word : (x : ℕ) → x ≡ field N (8 * i) 64 → x / 2 ^ off ≡ field N at (64 - off)
  low_word x e =
      let l : off ≤ 64 = omega arith in
      ap (λ (y : ℕ). y / 2 ^ off) e ∙ field_high N (8 * i) 64 off l ∙ ap (λ (p : ℕ). field N p (64 - off)) at-is

  -- one word holds the field
  pub one_word : (count x : ℕ) → off + count ≤ 64 → x ≡ field N (8 * i) 64
      → bit_and (x / 2 ^ off) ((2 ^ 64 - 1) / 2 ^ (64 - count)) ≡ field N at count
  one_word count x h e =
      let l₁ : count ≤ 64 = omega arith in
      let l₂ : count ≤ 64 - off = omega arith in
      cut (x / 2 ^ off) count l₁ ∙ ap (λ (y : ℕ). y % 2 ^ count) (low_word x e) ∙ field_low N at count (64 - off) l₂

  -- a whole word, from one word and the byte after it
  pub whole : (x y : ℕ) → x ≡ field N (8 * i) 64 → y ≡ field N (8 * (i + 8)) 8
      → bit_or (x / 2 ^ off) ((y * 2 ^ (64 - off)) % 2 ^ 64) ≡ field N at 64
  whole x y ex ey =
      let e₁ : 64 ≡ off + (64 - off) = omega arith in
      let e₂ : 64 ≡ (64 - off) + off = omega arith in
      let e₃ : 8 * (i + 8) ≡ at + (64 - off) = omega arith in
      let l : off ≤ 8 = omega arith in
      let y' : y % 2 ^ off ≡ field N (at + (64 - off)) off =
      ap (λ (z : ℕ). z % 2 ^ off) ey ∙ field_low N (8 * (i + 8)) off 8 l ∙ ap (λ (p : ℕ). field N p off) e₃ in
      ap₂ (λ (u v : ℕ). bit_or u v) (low_word x ex) (ap (λ (m : ℕ). (y * 2 ^ (64 - off)) % 2 ^ m) e₁ ∙ shl_mod y off (64 - off))
      ∙ or_shifted_r (y % 2 ^ off) (64 - off) (field N at (64 - off)) (field_lt N at (64 - off))
      ∙ ap (λ (u : ℕ). u * 2 ^ (64 - off) + field N at (64 - off)) y'
      ∙ add_comm (field N (at + (64 - off)) off * 2 ^ (64 - off)) (field N at (64 - off))
      ∙ ap (λ (u : ℕ). field N at (64 - off) + u) (mul_comm (field N (at + (64 - off)) off) (2 ^ (64 - off)))
      ∙ sym (field_split N at (64 - off) off)
      ∙ ap (λ (m : ℕ). field N at m) (sym e₂)

  -- a word and the byte after it hold the field
  pub two_words : (count x y : ℕ) → count ≤ 64 → x ≡ field N (8 * i) 64 → y ≡ field N (8 * (i + 8)) 8
      → bit_and (bit_or (x / 2 ^ off) ((y * 2 ^ (64 - off)) % 2 ^ 64)) ((2 ^ 64 - 1) / 2 ^ (64 - count)) ≡ field N at count
  two_words count x y h ex ey =
      cut (bit_or (x / 2 ^ off) ((y * 2 ^ (64 - off)) % 2 ^ 64)) count h
      ∙ ap (λ (z : ℕ). z % 2 ^ count) (whole x y ex ey)
      ∙ field_low N at count 64 h

-- the last word of n bytes, shifted: the word from byte i, with zeros past the end
pub tail_word : (N n i x : ℕ) → N < 2 ^ (8 * n) → 8 ≤ n → i < n → n < i + 8 → x ≡ field N (8 * (n - 8)) 64
    → x / 2 ^ (8 * (i + 8 - n)) ≡ field N (8 * i) 64
tail_word N n i x h l₁ l₂ l₃ e =
    let m₁ : 8 * n ≤ 8 * (n - 8) + 64 = omega arith in
    let m₂ : 8 * n ≤ 8 * i + 64 = omega arith in
    let e₂ : 8 * (n - 8) + 8 * (i + 8 - n) ≡ 8 * i = omega arith in
    ap (λ (y : ℕ). y / 2 ^ (8 * (i + 8 - n))) (e ∙ field_rest N (8 * (n - 8)) 64 (8 * n) h m₁)
    ∙ shr-shr N (8 * (n - 8)) (8 * (i + 8 - n))
    ∙ ap (λ (k : ℕ). N / 2 ^ k) e₂
    ∙ sym (field_rest N (8 * i) 64 (8 * n) h m₂)
