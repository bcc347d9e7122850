-- What padded means (request 01): of a number that is accepted, that some bits which are read as the same value are fewer bytes. A value is read from
-- n bytes exactly if it is below 2^(7n), and below 2^32 from five: so one that is padded is read from a byte less, and one that is read from fewer
-- bytes is below their power, and all the more below that of one byte less. Equally its last group is 0: this is what that power divides off.
use Prim.Native.Nat.{ℕ, suc, ◌+◌, ◌-◌, ◌*◌, ◌/◌, ◌%◌, ◌^◌, ◌≤◌, ◌<◌}
use mathlib.Core.Path.{◌≡◌, sym, ap, ◌∙◌, subst}
use mathlib.Core.Bool.{true}
use native.Mathlib.Nat.{zero-add, zero-mul, mod-lt, div-one, div-eq_of_lt, lt_of_lt_of_le}
use native.Mathlib.Omega.{arith}
use lib.Pow.{pow_pos, pow_mono, split}
use Rattle.bits.specs.Bits.{field}
use Rattle.bits.specs.Packed.{whole, packed, most_bytes}
use Rattle.bits.specs.Padded.{padded, ShorterForm}
use Rattle.bits.proofs.FieldLaws.{field_rest}
use Rattle.bits.proofs.PackedLaws.{whole_bytes}
use Rattle.bits.proofs.PaddedLaws.{two_bytes, fits_without, is_padded_lem}
use Rattle.framing.specs.Grammar.{packed_bits}
use Rattle.framing.proofs.NumberBits.{Written, written_from, read_from, packed_below, last_byte}

-- a number that is read, as it is written
written : (W len p v n : ℕ) → packed W len p ≡ whole v n → Written 4 W len p v n
unfolding packed
written W len p v n e = written_from 4 W len p v n e

-- ---- a shorter form

-- the bits of a value in n bytes, by themselves, are read as that value
alone : (v n : ℕ) → 1 ≤ n → n ≤ 4 → v < 2 ^ (7 * n) → packed (packed_bits n v) (8 * n) 0 ≡ whole v n
unfolding packed
alone v n h l f =
    read_from 4 (packed_bits n v) (8 * n) 0 v n
    (record {
      some = h;
      most = omega arith;
      fits = f;
      last = λ z. absurd (omega arith);
      inside = omega arith;
      bits = field_rest (packed_bits n v) 0 (8 * n) (8 * n) (packed_below n v f) (omega arith) ∙ div-one (packed_bits n v);
    })

pub shorter_exists : (v n : ℕ) → n ≤ most_bytes → padded v n ≡ true → ShorterForm v n
shorter_exists v n most e =
    let two : 1 < n = two_bytes v n e in
    record {
      window = packed_bits (n - 1) v;
      size = 8 * (n - 1);
      place = 0;
      fewer = n - 1;
      reads = alone v (n - 1) (omega arith) (omega arith) (fits_without v n e);
      less = omega arith;
    }

pub shorter_padded : (v n : ℕ) → ShorterForm v n → padded v n ≡ true
shorter_padded v n s =
    let w = written s.window s.size s.place v s.fewer s.reads in
    let one : 1 ≤ s.fewer = w.some in
    let less : s.fewer < n = s.less in
    is_padded_lem v n (omega arith) (lt_of_lt_of_le w.fits (pow_mono {j = 7 * (n - 1)} (omega arith)))

-- Whether a number is padded is whether a shorter form of its value exists; over all five lengths, so of every number that is read.
pub few_exactly : (v n : ℕ) → n ≤ most_bytes → (padded v n ≡ true → ShorterForm v n) × (ShorterForm v n → padded v n ≡ true)
few_exactly v n most = (shorter_exists v n most, shorter_padded v n)

pub padded_exactly : (W len p v n : ℕ) → packed W len p ≡ whole v n
    → (padded v n ≡ true → ShorterForm v n) × (ShorterForm v n → padded v n ≡ true)
padded_exactly W len p v n r = few_exactly v n (whole_bytes W len p v n r)

-- ---- the last group

-- the seven bits of value in the last of a number's n bytes, which stand from bit p on
abbrev pub last_group : (W p n : ℕ) → ℕ
last_group W p n = field W (p + 8 * (n - 1)) 8 / 2

last_of : (W len p v n : ℕ) → packed W len p ≡ whole v n → last_group W p n ≡ v / 2 ^ (7 * (n - 1))
last_of W len p v n r =
    let w = written W len p v n r in
    let some : 1 ≤ n = w.some in
    let e : suc (n - 1) ≡ n = omega arith in
    let b : field W p (8 * suc (n - 1)) ≡ packed_bits (suc (n - 1)) v = subst (λ (k : ℕ). field W p (8 * k) ≡ packed_bits k v) (sym e) w.bits in
    let f = last_byte W p v (n - 1) b in
    omega arith

below_power : (v k : ℕ) → v / 2 ^ k ≡ 0 → v < 2 ^ k
below_power v k e = subst (λ (x : ℕ). x < 2 ^ k) rest (mod-lt v (pow_pos k))
  where
    rest : v % 2 ^ k ≡ v
    rest = sym (zero-add (v % 2 ^ k)) ∙ ap (λ (x : ℕ). x + v % 2 ^ k) (sym (zero-mul (2 ^ k)) ∙ ap (λ (x : ℕ). x * 2 ^ k) (sym e)) ∙ split v k

module _ (W len p v n : ℕ) (r : packed W len p ≡ whole v n) where
  pub last_group_lem : padded v n ≡ true → (1 < n) × (last_group W p n ≡ 0)
  last_group_lem e = (two_bytes v n e, last_of W len p v n r ∙ div-eq_of_lt (fits_without v n e))

  pub last_group_padded : (1 < n) × (last_group W p n ≡ 0) → padded v n ≡ true
  last_group_padded h = is_padded_lem v n h.0 (below_power v (7 * (n - 1)) (sym (last_of W len p v n r) ∙ h.1))
