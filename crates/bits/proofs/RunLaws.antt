-- The laws of `put` and `store`, for elements of any type, and of `bytes_of`.
use Prim.Native.Nat.{ℕ, zero, suc, ◌+◌, ◌-◌, ◌*◌, ◌/◌, ◌%◌, ◌^◌, ◌≤◌, ◌<◌, zero-le}
use mathlib.Core.Path.{◌≡◌, refl, sym, ap, ap₂, ◌∙◌}
use mathlib.Core.Bool.{Bool, true, false}
use mathlib.Core.List.{List, [], ◌∷◌, ◌++◌, append_assoc, append-nil}
use native.Mathlib.Omega.{arith}
use lib.Dec.{leb}
use borrow.Author.Tests.{le-leb, lt-leb, leb-true}
use borrow.Rule.Slice.PartMut.{put_mid}
use native.Mathlib.Nat.{div-div-eq-div-mul, zero-add, add-zero, suc-add, add_assoc, div-one}
use lib.ListN.{length, take, drop, set, replicate, length-append, length-replicate, take-append-drop}
use native.Mathlib.Numerals.{add-one, add-two, add-three, add-four, add_five}
use lib.Seq.{take-suc-set, take_at, drop-drop, drop-append-add, sets, sets-eq, length-sets, length-take-le}
use lib.Pow.{shr-shr, mod-mod-pow}
use lib.Pow as P
use Rattle.bits.specs.Bits as B
use Rattle.bits.proofs.FieldLaws.{eight_suc, field_field, field_high}
use Rattle.bits.specs.Runs.{bytes_of, bytes_for, put, store}

module _ {A : Type 0} where
  put_seam : (X Y vs : List A) (k : ℕ) → length X ≡ k → put (X ++ Y) k vs ≡ (X ++ vs) ++ drop (length vs) Y
  unfolding put
  put_seam X Y vs k e =
      ap₂ (λ (a b : List A). (a ++ vs) ++ b) (take_at X Y k e) (ap (λ (j : ℕ). drop (j + length vs) (X ++ Y)) (sym e) ∙ drop-append-add X Y (length vs))

  -- two runs, one after the other, are one
  pub put_put : (d X Y : List A) (i k : ℕ) → i ≤ length d → length X ≡ k → put (put d i X) (i + k) Y ≡ put d i (X ++ Y)
  unfolding put
  put_put d X Y i k h e =
      put_seam (take i d ++ X) (drop (i + length X) d) Y (i + k) (length-append (take i d) X ∙ ap₂ (λ (a b : ℕ). a + b) (length-take-le i d h) e)
      ∙ ap₂ (λ (l r : List A). l ++ r) (append_assoc (take i d) X Y)
      (drop-drop (length Y) (i + length X) d ∙ ap (λ (j : ℕ). drop j d) (add_assoc i (length X) (length Y) ∙ ap (λ (j : ℕ). i + j) (sym (length-append X Y))))

  pub put_none : (d : List A) (i : ℕ) → put d i [] ≡ d
  unfolding put
  put_none d i =
      ap (λ (k : ℕ). take i d ++ [] ++ drop k d) (add-zero i) ∙ ap (λ (r : List A). r ++ drop i d) (append-nil (take i d)) ∙ take-append-drop i d

  -- a part that is written anew from end to end is a run
  pub part_run : (d part run : List A) (i k : ℕ) → part ≡ run → k ≡ length run → put_mid i k d part ≡ put d i run
  unfolding put
  part_run d part run i k e l =
      ap₂ (λ (p : List A) (n : ℕ). take i d ++ (p ++ drop n (drop i d))) e l
      ∙ ap (λ (r : List A). take i d ++ (run ++ r)) (drop-drop (length run) i d)
      ∙ sym (append_assoc (take i d) run (drop (i + length run) d))

  -- single stores, one after the other, are a run
  pub put_sets : (run d : List A) (i : ℕ) → i + length run ≤ length d → sets d i run ≡ put d i run
  unfolding put
  put_sets run d i h = sets-eq run d i h

  pub put_one : (d : List A) (i : ℕ) (a : A) → i + 1 ≤ length d → set d i a ≡ put d i (a ∷ [])
  put_one d i a h = put_sets (a ∷ []) d i h

  pub put_two : (d : List A) (i : ℕ) (a b : A) → i + 2 ≤ length d → set (set d i a) (i + 1) b ≡ put d i (a ∷ b ∷ [])
  put_two d i a b h = simp add-one (put_sets (a ∷ b ∷ []) d i h)

  pub put_four : (d : List A) (i : ℕ) (a b c e : A) → i + 4 ≤ length d
      → set (set (set (set d i a) (i + 1) b) (i + 2) c) (i + 3) e ≡ put d i (a ∷ b ∷ c ∷ e ∷ [])
  put_four d i a b c e h = simp (add-one, add-two, add-three) (put_sets (a ∷ b ∷ c ∷ e ∷ []) d i h)

  pub put_six : (d : List A) (i : ℕ) (a b c e f g : A) → i + 6 ≤ length d
      → set (set (set (set (set (set d i a) (i + 1) b) (i + 2) c) (i + 3) e) (i + 4) f) (i + 5) g ≡ put d i (a ∷ b ∷ c ∷ e ∷ f ∷ g ∷ [])
  put_six d i a b c e f g h = simp (add-one, add-two, add-three, add-four, add_five) (put_sets (a ∷ b ∷ c ∷ e ∷ f ∷ g ∷ []) d i h)

  pub length_put : (d vs : List A) (i : ℕ) → i + length vs ≤ length d → length (put d i vs) ≡ length d
  length_put d vs i h = ap length (sym (put_sets vs d i h)) ∙ length-sets d i vs

  -- a run that fits is written; one that doesn't leaves the buffer as it is
  pub store_fits : (d : List A) (i : ℕ) (run : List A) → i + length run ≤ length d → store d i run ≡ put d i run
  unfolding store
  store_fits d i run h = rw (le-leb (i + length run) (length d) h)

  pub store_out : (d : List A) (i : ℕ) (run : List A) → length d < i + length run → store d i run ≡ d
  unfolding store
  store_out d i run h = rw (lt-leb (i + length run) (length d) h)

  pub length_store : (d : List A) (i : ℕ) (run : List A) → length (store d i run) ≡ length d
  unfolding store
  length_store d i run = go (leb (i + length run) (length d)) refl
    where
      go : (x : Bool) → leb (i + length run) (length d) ≡ x → length (store d i run) ≡ length d
      go true e = rw e (length_put d run i (leb-true (i + length run) (length d) e))
      go false e = rw e

  -- a run written to the front of the part from i on (`f(&mut d[i..], ..)`) is a run written at i
  pub part_put : (d : List A) (i : ℕ) (run : List A) → take i d ++ put (drop i d) 0 run ≡ put d i run
  unfolding put
  part_put d i run =
      ap (λ (k : ℕ). take i d ++ (run ++ drop k (drop i d))) (zero-add (length run))
      ∙ ap (λ (r : List A). take i d ++ (run ++ r)) (drop-drop (length run) i d)
      ∙ sym (append_assoc (take i d) run (drop (i + length run) d))

-- a filled array's length, at any size: a check doesn't count the elements
pub length_filled : {A : Type 0} (n : ℕ) (x : A) → n ≡ length (replicate n x)
length_filled n x = sym (length-replicate n x)

pub length_bytes_of : (k N : ℕ) → length (bytes_of k N) ≡ k
unfolding bytes_of
length_bytes_of zero N = refl
length_bytes_of (suc k) N = ap suc (length_bytes_of k (N / 2 ^ 8))

-- a run of bytes is one run, and then another of what is above it
pub bytes_of_add : (a b N : ℕ) → bytes_of (a + b) N ≡ bytes_of a N ++ bytes_of b (N / 2 ^ (8 * a))
unfolding bytes_of
bytes_of_add zero b N = ap₂ bytes_of (zero-add b) (sym (div-one N))
bytes_of_add (suc a) b N =
    ap (λ (k : ℕ). bytes_of k N) (suc-add a b)
    ∙ ap (λ (l : List ℕ). N % 2 ^ 8 ∷ l)
    (bytes_of_add a b (N / 2 ^ 8)
    ∙ ap (λ (x : ℕ). bytes_of a (N / 2 ^ 8) ++ bytes_of b x) (shr-shr N 8 (8 * a) ∙ ap (λ (k : ℕ). N / 2 ^ k) (sym (eight_suc a))))

-- k bytes depend on 8 * k bits alone
pub bytes_of_mod : (k N : ℕ) → bytes_of k (N % 2 ^ (8 * k)) ≡ bytes_of k N
unfolding bytes_of
bytes_of_mod zero N = refl
bytes_of_mod (suc k) N =
    ap₂ (λ (x : ℕ) (l : List ℕ). x ∷ l)
    (ap (λ (j : ℕ). N % 2 ^ j % 2 ^ 8) (turned k) ∙ mod-mod-pow N (8 * k) 8)
    (ap (bytes_of k) (ap (λ (j : ℕ). N % 2 ^ j / 2 ^ 8) (turned k) ∙ P.field N (8 * k) 8) ∙ bytes_of_mod k (N / 2 ^ 8))
  where
    turned : (k : ℕ) → 8 * suc k ≡ 8 * k + 8
    turned k = omega arith

-- after k bytes of N, the next m
pub put_next : (d : List ℕ) (i k m N w : ℕ) → i ≤ length d → bytes_of m w ≡ bytes_of m (N / 2 ^ (8 * k))
    → put (put d i (bytes_of k N)) (i + k) (bytes_of m w) ≡ put d i (bytes_of (k + m) N)
put_next d i k m N w h e =
    put_put d (bytes_of k N) (bytes_of m w) i k h (length_bytes_of k N)
    ∙ ap (λ (l : List ℕ). put d i l) (ap (λ (v : List ℕ). bytes_of k N ++ v) e ∙ sym (bytes_of_add k m N))

-- the same from the front
pub put_front : (d : List ℕ) (k m N w : ℕ) → bytes_of m w ≡ bytes_of m (N / 2 ^ (8 * k))
    → put (put d 0 (bytes_of k N)) k (bytes_of m w) ≡ put d 0 (bytes_of (k + m) N)
put_front d k m N w e =
    ap (λ (j : ℕ). put (put d 0 (bytes_of k N)) j (bytes_of m w)) (sym (zero-add k)) ∙ put_next d 0 k m N w zero-le e

-- the bytes of a word of F: as many as there are bits for, or all that is left
pub word_bytes : (F o w : ℕ) → w ≡ B.field F (8 * o) 64 → bytes_of 8 w ≡ bytes_of 8 (F / 2 ^ (8 * o))
unfolding B.field
word_bytes F o w e = ap (bytes_of 8) e ∙ bytes_of_mod 8 (F / 2 ^ (8 * o))

pub put_no_bytes : (d : List ℕ) (i N : ℕ) → d ≡ put d i (bytes_of 0 N)
unfolding bytes_of
put_no_bytes d i N = sym (put_none d i)

-- a word's bytes, as the library has them
pub word_run : (w : ℕ)
    → w % 256 ∷ w / 256 % 256 ∷ w / 65536 % 256 ∷ w / 16777216 % 256 ∷ w / 4294967296 % 256 ∷ w / 1099511627776 % 256 ∷ w / 281474976710656 % 256
    ∷ w / 72057594037927936 % 256 ∷ [] ≡ bytes_of 8 w
unfolding bytes_of
word_run w = simp div-div-eq-div-mul

-- one more byte of w, behind the j that stand in a part
pub tail_step : (part : List ℕ) (j w v : ℕ) → j < length part → take j part ≡ bytes_of j w → v ≡ w / 2 ^ (8 * j)
    → (take (j + 1) (set part j (v % 2 ^ 8)) ≡ bytes_of (j + 1) w) × (v / 2 ^ 8 ≡ w / 2 ^ (8 * (j + 1)))
unfolding bytes_of
tail_step part j w v h e ev =
    let e₂ : 8 * j + 8 ≡ 8 * (j + 1) = omega arith in (
      rw add-one (take-suc-set part j (v % 2 ^ 8) h)
          ∙ ap₂ (λ (l : List ℕ) (x : ℕ). l ++ (x % 2 ^ 8 ∷ [])) e ev
          ∙ sym (bytes_of_add j 1 w),
      ap (λ (x : ℕ). x / 2 ^ 8) ev ∙ shr-shr w (8 * j) 8 ∙ ap (λ (k : ℕ). w / 2 ^ k) e₂,
    )

-- one more word of a field
pub words_step : (d₀ : List ℕ) (N at count k w : ℕ) → 64 * k + 64 ≤ count → w ≡ B.field N (at + 64 * k) 64
    → put (put d₀ 0 (bytes_of (8 * k) (B.field N at count))) (8 * k) (bytes_of 8 w) ≡ put d₀ 0 (bytes_of (8 * (k + 1)) (B.field N at count))
words_step d₀ N at count k w h e =
    let e₁ : 64 * k ≡ 8 * (8 * k) = omega arith in
    let e₂ : 8 * k + 8 ≡ 8 * (k + 1) = omega arith in
    let F = B.field N at count in
    put_front d₀ (8 * k) 8 F w
    (word_bytes F (8 * k) w (e ∙ sym (field_field N at count (64 * k) 64 h) ∙ ap (λ (p : ℕ). B.field F p 64) e₁))
    ∙ ap (λ (j : ℕ). put d₀ 0 (bytes_of j F)) e₂

-- the last bits of a field
pub words_last : (d₀ : List ℕ) (N at count w : ℕ) → w ≡ B.field N (at + 64 * (count / 64)) (count % 64)
    → put (put d₀ 0 (bytes_of (8 * (count / 64)) (B.field N at count))) (8 * (count / 64)) (bytes_of ((count % 64 + 7) / 8) w)
    ≡ put d₀ 0 (bytes_of (bytes_for count) (B.field N at count))
words_last d₀ N at count w e =
    let q = 64 * (count / 64) in
    let l : q ≤ count = omega arith in
    let e₁ : count % 64 ≡ count - q = omega arith in
    let e₂ : q ≡ 8 * (8 * (count / 64)) = omega arith in
    let e₃ : 8 * (count / 64) + (count % 64 + 7) / 8 ≡ (count + 7) / 8 = omega arith in
    let F = B.field N at count in
    put_front d₀ (8 * (count / 64)) ((count % 64 + 7) / 8) F w
    (ap (bytes_of ((count % 64 + 7) / 8))
    (e ∙ ap (λ (n : ℕ). B.field N (at + q) n) e₁ ∙ sym (field_high N at count q l) ∙ ap (λ (k : ℕ). F / 2 ^ k) e₂))
    ∙ ap (λ (j : ℕ). put d₀ 0 (bytes_of j F)) e₃

-- the same two, as a chain of equations, which is how code leaves them
pub words_more : (d₀ d d' : List ℕ) (N at count k w : ℕ) → 64 * k + 64 ≤ count → w ≡ B.field N (at + 64 * k) 64
    → d ≡ put d₀ 0 (bytes_of (8 * k) (B.field N at count)) → d' ≡ put d (8 * k) (bytes_of 8 w)
    → d' ≡ put d₀ 0 (bytes_of (8 * (k + 1)) (B.field N at count))
words_more d₀ d d' N at count k w h ew e e' =
    e' ∙ ap (λ (x : List ℕ). put x (8 * k) (bytes_of 8 w)) e ∙ words_step d₀ N at count k w h ew

pub words_end : (d₀ d d' : List ℕ) (N at count w : ℕ) → w ≡ B.field N (at + 64 * (count / 64)) (count % 64)
    → d ≡ put d₀ 0 (bytes_of (8 * (count / 64)) (B.field N at count)) → d' ≡ put d (8 * (count / 64)) (bytes_of ((count % 64 + 7) / 8) w)
    → d' ≡ put d₀ 0 (bytes_of (bytes_for count) (B.field N at count))
words_end d₀ d d' N at count w ew e e' =
    e' ∙ ap (λ (x : List ℕ). put x (8 * (count / 64)) (bytes_of ((count % 64 + 7) / 8) w)) e ∙ words_last d₀ N at count w ew
