-- Records stored one after the other.
use Prim.Native.Nat.{ℕ, ◌+◌, ◌*◌, ◌≤◌}
use mathlib.Core.Path.{◌≡◌, refl, sym, ap, ◌∙◌}
use mathlib.Core.List.{List, [], ◌∷◌, ◌++◌}
use native.Mathlib.Nat.{add_assoc, add-zero}
use native.Mathlib.Omega.{arith}
use lib.ListN.{length, drop, length-append}
use Rattle.bits.specs.Runs.{put, store, filled}
use Rattle.bits.proofs.RunLaws.{put_put, put_none, store_fits, length_store}
use Rattle.fastarray.specs.Records.{records, store_all}

module _ {A B : Type 0} (f : B → List A) where
  -- records that fit stand one after the other
  pub stored_all : (l : List B) (d : List A) (i : ℕ) → i + length (records f l) ≤ length d → store_all f d i l ≡ put d i (records f l)
  unfolding store_all records
  stored_all [] d i h = sym (put_none d i)
  stored_all (x ∷ l) d i h =
      let n = length-append (f x) (records f l) in
      let m = length_store d i (f x) in
      let h₁ : i + length (f x) ≤ length d = omega arith in
      let h₂ : i ≤ length d = omega arith in
      stored_all l (store d i (f x)) (i + length (f x)) (omega arith)
      ∙ ap (λ (y : List A). put y (i + length (f x)) (records f l)) (store_fits d i (f x) h₁)
      ∙ put_put d (f x) (records f l) i (length (f x)) h₂ refl

  -- from the front: the buffer's front holds them
  pub stored_front : (l : List B) (d : List A) → length (records f l) ≤ length d → store_all f d 0 l ≡ filled (records f l) d
  unfolding put
  stored_front l d h =
      stored_all l d 0 (omega arith) ∙ ap (λ (k : ℕ). records f l ++ drop k d) (let e : 0 + length (records f l) ≡ length (records f l) = omega arith in e)

  pub store_append : (l m : List B) (d : List A) (i : ℕ) → store_all f d i (l ++ m) ≡ store_all f (store_all f d i l) (i + length (records f l)) m
  unfolding store_all records
  store_append [] m d i = ap (λ (k : ℕ). store_all f d k m) (sym (add-zero i))
  store_append (x ∷ l) m d i =
      store_append l m (store d i (f x)) (i + length (f x))
      ∙ ap (λ (k : ℕ). store_all f (store_all f (store d i (f x)) (i + length (f x)) l) k m)
      (add_assoc i (length (f x)) (length (records f l)) ∙ ap (λ (k : ℕ). i + k) (sym (length-append (f x) (records f l))))

  -- records of n numbers each
  pub records_length : (n : ℕ) → ((x : B) → length (f x) ≡ n) → (l : List B) → length (records f l) ≡ n * length l
  unfolding records
  records_length n h [] = omega arith
  records_length n h (x ∷ l) = omega (arith, length-append (f x) (records f l), h x, records_length n h l)
