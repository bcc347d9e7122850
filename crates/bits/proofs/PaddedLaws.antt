-- The laws of padded numbers: one byte is never padded, more are exactly if the value fits without the last; two lists have as many as both; and what
-- the code finds where a number is due tells the truth.
use Rattle.std.specs.Prelude.{Result, Ok, Err}
use Prim.Native.Nat.{ℕ, ◌+◌, ◌-◌, ◌*◌, ◌^◌, ◌≤◌, ◌<◌}
use mathlib.Core.Path.{◌≡◌, refl, sym, ap, ◌∙◌}
use mathlib.Core.Bool.{Bool, true, false}
use mathlib.Core.List.{List, [], ◌∷◌, ◌++◌}
use native.Mathlib.Nat.{add_assoc}
use native.Mathlib.Omega.{arith}
use lib.Dec.{ltb}
use borrow.Author.Tests.{lt-ltb, le-ltb, ltb-true}
use Rattle.bits.specs.Packed.{Packed, whole, after, packed_from, packed, Number}
use Rattle.bits.specs.Padded.{padded, found, is_padded, once, padded_among}
use Rattle.bits.specs.declared.Broken.{Broken}
use Rattle.bits.specs.declared.Broken.TheVariants.{Cut}
use Rattle.bits.proofs.PackedLaws.{byte_cut, packed_cut}
use Rattle.bits.specs.declared.Found.{Found}
use Rattle.bits.proofs.ChoiceLaws.{and_true}
use Rattle.bits.proofs.Never.{never}

pub one_byte : (v n : ℕ) → n ≤ 1 → padded v n ≡ false
unfolding padded
one_byte v n h = simp (le-ltb 1 n h)

pub more_bytes : (v n : ℕ) → 1 < n → padded v n ≡ ltb v (2 ^ (7 * (n - 1)))
unfolding padded
more_bytes v n h = simp (lt-ltb 1 n h)

-- what is padded has two bytes at least, and fits without the last of them; what does is padded
pub two_bytes : (v n : ℕ) → padded v n ≡ true → 1 < n
unfolding padded
two_bytes v n e = ltb-true 1 n (and_true (ltb 1 n) _ e).0

pub fits_without : (v n : ℕ) → padded v n ≡ true → v < 2 ^ (7 * (n - 1))
fits_without v n e = ltb-true v (2 ^ (7 * (n - 1))) (sym (more_bytes v n (two_bytes v n e)) ∙ e)

pub is_padded_lem : (v n : ℕ) → 1 < n → v < 2 ^ (7 * (n - 1)) → padded v n ≡ true
is_padded_lem v n h l = more_bytes v n h ∙ lt-ltb v (2 ^ (7 * (n - 1))) l

pub among_append : (a b : List Number) → padded_among (a ++ b) ≡ padded_among a + padded_among b
unfolding padded_among
among_append [] b = omega arith
among_append (x ∷ a) b =
    ap (λ (k : ℕ). once (is_padded x) + k) (among_append a b) ∙ sym (add_assoc (once (is_padded x)) (padded_among a) (padded_among b))

-- ---- as the code finds them

abbrev pub found_whole : (value bytes : ℕ) (padded : Bool) → Result Found Broken
found_whole v n b = Ok (record { value = v; bytes = n; padded = b })

pub found_one : (v : ℕ) → found_whole v 1 false ≡ found (whole v 1)
unfolding found
found_one v = ap (found_whole v 1) (sym (one_byte v 1 (omega arith)))

-- the last of n + 1 bytes is worth nothing to a value below its weight
pub found_more : (v n : ℕ) → 1 ≤ n → found_whole v (n + 1) (ltb v (2 ^ (7 * n))) ≡ found (whole v (n + 1))
unfolding found
found_more v n h =
    let e : n + 1 - 1 ≡ n = omega arith in
    ap (λ (k : ℕ). found_whole v (n + 1) (ltb v (2 ^ (7 * k)))) (sym e) ∙ ap (found_whole v (n + 1)) (sym (more_bytes v (n + 1) (omega arith)))

-- the window ends in the next byte
pub found_cut : (n v left W len p : ℕ) {why : Broken} → (len < p + 8) × (why ≡ Cut n) → Err why ≡ found (after n v (packed_from left W len p))
unfolding found
found_cut n v left W len p h =
    ap (λ (x : Broken). found (Err x)) h.1 ∙ ap found (sym (byte_cut n v W len p left h.0))

pub found_first_cut : (W len p : ℕ) {why : Broken} → (len < p + 8) × (why ≡ Cut 0) → Err why ≡ found (packed W len p)
unfolding found
found_first_cut W len p h = ap (λ (x : Broken). found (Err x)) h.1 ∙ ap found (sym (packed_cut W len p h.0))

-- what was found, without whether it is padded
abbrev pub plain : Result Found Broken → Packed
plain (Ok x) = whole x.value x.bytes
plain (Err why) = Err why

pub plain_found : (r : Packed) {x : Result Found Broken} → x ≡ found r → r ≡ plain x
unfolding found
plain_found r e = go r ∙ sym (ap plain e)
  where
    go : (s : Packed) → s ≡ plain (found s)
    go (Ok x) = refl
    go (Err why) = refl

-- and that it tells the truth
pub found_padded : (r : Packed) {x : Found} → Ok x ≡ found r → x.padded ≡ padded x.value x.bytes
unfolding found
found_padded (Ok x) e = cc
found_padded (Err why) e = let z : ◌≡◌ {A = ℕ} 0 1 = cc in never z
