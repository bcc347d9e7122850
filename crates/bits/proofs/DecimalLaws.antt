-- The laws of decimals: the last digit apart, how many digits there are, and a run of bytes that grows to the left.
use Rattle.std.specs.Prelude.{if◌then◌else◌}
use mathlib.Core.Path.{◌≡◌, refl, sym, ap, ◌∙◌}
use mathlib.Core.List.{List, [], ◌∷◌, ◌++◌, append_assoc}
use mathlib.Core.Bool.{Bool, true, false}
use Prim.Native.Nat.{ℕ, zero, suc, ◌+◌, ◌-◌, ◌*◌, ◌/◌, ◌%◌, ◌^◌, ◌≤◌, ◌<◌}
use native.Mathlib.Nat.{pow-suc, div-lt_iff_lt-mul, zero-lt-suc}
use native.Mathlib.Numerals.{add-one}
use native.Mathlib.Omega.{arith}
use lib.Dec.{ltb}
use lib.ListN.{length, get_or, take, drop, set, length-append}
use lib.Seq.{take-suc, set_at, length-take-le}
use borrow.Author.Tests.{lt-ltb, le-ltb, ltb-true, ltb-false}
use Rattle.bits.proofs.ChoiceLaws.{by_cases}
use Rattle.bits.specs.Runs.{put}
use Rattle.bits.specs.Decimals.{digits, decimal}

-- digits that a number does not have are not written
digits_enough : (more n : ℕ) → n < 10 ^ (more + 1) → digits more n ≡ digits (suc more) n
unfolding digits
digits_enough zero n h = sym (rw (lt-ltb n 10 h))
digits_enough (suc more) n h =
    let e : suc more + 1 ≡ suc (more + 1) = omega arith in
    let p = ap (λ (k : ℕ). 10 ^ k) e ∙ pow-suc 10 (more + 1) in
    ap (λ (l : List ℕ). if ltb n 10 then (48 + n) ∷ [] else l ++ ((48 + n % 10) ∷ [])) (digits_enough more (n / 10) (omega (arith, p, h)))

-- a number below ten has one digit; another has those of its tenth, and one more
pub decimal_one : (v : ℕ) → v < 10 → decimal v ≡ (48 + v) ∷ []
unfolding decimal digits
decimal_one v h = rw (lt-ltb v 10 h)

pub decimal_more : (v : ℕ) → 10 ≤ v → v < 10000000000 → decimal v ≡ decimal (v / 10) ++ ((48 + v % 10) ∷ [])
unfolding decimal digits
decimal_more v h k =
    rw (le-ltb v 10 h) (ap (λ (l : List ℕ). l ++ ((48 + v % 10) ∷ [])) (digits_enough 8 (v / 10) (omega arith)))

pub length_more : (v : ℕ) → 10 ≤ v → v < 10000000000 → length (decimal v) ≡ length (decimal (v / 10)) + 1
length_more v h k = ap length (decimal_more v h k) ∙ length-append (decimal (v / 10)) ((48 + v % 10) ∷ [])

pub length_one : (v : ℕ) → v < 10 → length (decimal v) ≡ 1
length_one v h = ap length (decimal_one v h)

-- from one digit to ten
digits_some : (more n : ℕ) → (1 ≤ length (digits more n)) × (length (digits more n) ≤ more + 1)
unfolding digits
digits_some zero n = (omega arith, omega arith)
digits_some (suc more) n = go (ltb n 10) (digits_some more (n / 10))
  where
    go : (b : Bool) → (1 ≤ length (digits more (n / 10))) × (length (digits more (n / 10)) ≤ more + 1)
        → (1 ≤ length (if b then (48 + n) ∷ [] else digits more (n / 10) ++ ((48 + n % 10) ∷ [])))
        × (length (if b then (48 + n) ∷ [] else digits more (n / 10) ++ ((48 + n % 10) ∷ [])) ≤ suc more + 1)
    go true h = (omega arith, omega arith)
    go false h = let e = length-append (digits more (n / 10)) ((48 + n % 10) ∷ []) in (omega (arith, e), omega (arith, e))

pub decimal_some : (n : ℕ) → (1 ≤ length (decimal n)) × (length (decimal n) ≤ 10)
unfolding decimal
decimal_some n = digits_some 9 n

-- a number below 10 ^ (k + 1) has at most k + 1 of them: each but the last takes a tenth
digits_few : (more k n : ℕ) → n < 10 ^ suc k → length (digits more n) ≤ suc k
unfolding digits
digits_few zero k n h = omega arith
digits_few (suc more) k n h = go (ltb n 10) refl k h (λ j. digits_few more j (n / 10))
  where
    go : (b : Bool) → ltb n 10 ≡ b → (j : ℕ) → n < 10 ^ suc j → ((i : ℕ) → n / 10 < 10 ^ suc i → length (digits more (n / 10)) ≤ suc i)
        → length (digits (suc more) n) ≤ suc j
    go true e j lt f = rw e (omega arith)
    go false e zero lt f = let ge = ltb-false n 10 e in absurd (omega arith)
    go false e (suc j) lt f =
        let lt' : n < 10 ^ suc j * 10 = rw pow-suc at lt in
        let r = f j ((div-lt_iff_lt-mul (zero-lt-suc 9)).1 lt') in
        rw (e, length-append) (omega arith)

pub decimal_few : (k n : ℕ) → n < 10 ^ suc k → length (decimal n) ≤ suc k
unfolding decimal
decimal_few k n h = digits_few 9 k n h

-- a run that is written from its end on
pub put_before : (d run : List ℕ) (k x : ℕ) → k < length d → set (put d (k + 1) run) k x ≡ put d k (x ∷ run)
unfolding put
put_before d run k x h =
    let rest = drop (k + 1 + length run) d in
    let e : k + 1 + length run ≡ k + suc (length run) = omega arith in
    let t : take (k + 1) d ≡ take k d ++ (get_or d k 0 ∷ []) = ap (λ (j : ℕ). take j d) (add-one k) ∙ take-suc d k 0 h in
    ap (λ (l : List ℕ). set ((l ++ run) ++ rest) k x) t
    ∙ ap (λ (l : List ℕ). set l k x)
    (append_assoc (take k d ++ (get_or d k 0 ∷ [])) run rest ∙ append_assoc (take k d) (get_or d k 0 ∷ []) (run ++ rest))
    ∙ set_at (take k d) (get_or d k 0) (run ++ rest) x k (length-take-le k d (omega arith))
    ∙ ap (λ (j : ℕ). take k d ++ (x ∷ (run ++ drop j d))) e
    ∙ sym (append_assoc (take k d) (x ∷ run) (drop (k + suc (length run)) d))

-- digits that stand in a buffer from j on, with those of v still to be written before them
pub record Written (d₀ d : List ℕ) (at n v j : ℕ) : Type 0 where
  pub run : List ℕ
  pub whole : decimal v ++ run ≡ decimal n
  pub place : j ≡ at + length (decimal v)
  pub now_is : d ≡ put d₀ j run
  pub same : length d ≡ length d₀
  pub room : at + length (decimal n) ≤ length d₀
  pub below : j ≤ at + length (decimal n)
  pub small : v < 10000000000

module _ (d₀ d : List ℕ) (at n v j : ℕ) (w : Written d₀ d at n v j) where
  -- where the next digit goes
  pub digit_there : (at < j) × (j ≤ length d)
  digit_there =
      let s = decimal_some v in
      let a = w.place in
      let b = w.below in
      let r = w.room in
      let e = w.same in
      (omega arith, omega arith)

  -- whether another stands before it
  pub digits_left : at + 1 < j → 10 ≤ v
  digits_left h =
      by_cases (ltb v 10)
      (λ e. let o = length_one v (ltb-true v 10 e) in let a = w.place in absurd (omega arith))
      (λ e. ltb-false v 10 e)

  pub digit_left : j ≤ at + 1 → v < 10
  digit_left h =
      by_cases (ltb v 10)
      (λ e. ltb-true v 10 e)
      (λ e. let m = length_more v (ltb-false v 10 e) w.small in let s = decimal_some (v / 10) in let a = w.place in absurd (omega arith))

  pub digit_written : 10 ≤ v → set d (j - 1) (48 + v % 10) ≡ put d₀ (j - 1) ((48 + v % 10) ∷ w.run)
  digit_written h =
      let t = digit_there in
      let e = w.same in
      let f : j ≡ j - 1 + 1 = omega arith in
      ap (λ (l : List ℕ). set l (j - 1) (48 + v % 10)) (w.now_is ∙ ap (λ (i : ℕ). put d₀ i w.run) f)
      ∙ put_before d₀ w.run (j - 1) (48 + v % 10) (omega arith)

  pub written_more : 10 ≤ v → (d' : List ℕ) → d' ≡ set d (j - 1) (48 + v % 10) → length d' ≡ length d → Written d₀ d' at n (v / 10) (j - 1)
  written_more h d' q l =
      let t = digit_there in
      let m = length_more v h w.small in
      let a = w.place in
      let b = w.below in
      let s = w.small in
      record {
        run = (48 + v % 10) ∷ w.run;
        whole = sym (append_assoc (decimal (v / 10)) ((48 + v % 10) ∷ []) w.run) ∙ ap (λ (l : List ℕ). l ++ w.run) (sym (decimal_more v h w.small)) ∙ w.whole;
        place = omega arith;
        now_is = q ∙ digit_written h;
        same = l ∙ w.same;
        room = w.room;
        below = omega arith;
        small = omega arith;
      }

  pub written_last : v < 10 → set d at (48 + v) ≡ put d₀ at (decimal n)
  written_last h =
      let t = digit_there in
      let o = length_one v h in
      let a = w.place in
      let e = w.same in
      let f : j ≡ at + 1 = omega arith in
      ap (λ (l : List ℕ). set l at (48 + v)) (w.now_is ∙ ap (λ (i : ℕ). put d₀ i w.run) f)
      ∙ put_before d₀ w.run at (48 + v) (omega arith)
      ∙ ap (λ (l : List ℕ). put d₀ at l) (ap (λ (l : List ℕ). l ++ w.run) (sym (decimal_one v h)) ∙ w.whole)
