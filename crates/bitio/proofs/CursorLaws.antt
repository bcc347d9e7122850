-- The laws of cursors: what is good, what a bad one gets, and the window's fields as fields of the bytes.
use Rattle.std.proofs.Common.{◌≡◌, ℕ, ◌+◌, ◌<◌, ◌≤◌, Bool, true, false, leb, List, refl, sym, ap, ◌∙◌, subst, le-ltb, lt-ltb, le-leb, leb-false, leb-true, Result, Ok, Err}
use Rattle.std.specs.Prelude.{IsErrAnd}
use Rattle.bits.specs.Bits.{num, field}
use Rattle.bits.proofs.ChoiceLaws.{by_cases, and_true}
use Rattle.bits.proofs.FieldLaws.{field_field, bound}
use Rattle.bits.proofs.Never.{never}
use Rattle.bitio.specs.Cursors.{bits_of, good, window, bad_cursor_lem, at_cursor, good_or_refused_lem, asking, skipped}
use Rattle.bitio.specs.declared.Cursor.{Cursor}
use Rattle.bitio.specs.declared.Refusal.{Refusal}
use Rattle.bitio.specs.declared.Refusal.TheVariants.{TooFew}

apart : {A : Type 0} {r : Refusal} {x : A} → Err r ≡ Ok x → ⊥
apart e = absurd (never (let z : ◌≡◌ {A = ℕ} 0 1 = cc in z))

same_refusal : {A : Type 0} (q r : Refusal) → ◌≡◌ {A = Result A Refusal} (Err q) (Err r) → q ≡ r
same_refusal q r e = cc

same_value : (x y : ℕ) → ◌≡◌ {A = Result ℕ Refusal} (Ok x) (Ok y) → x ≡ y
same_value x y e = cc

module _ (s : List ℕ) (c : Cursor) where
  pub good_true : c.pos ≤ c.len → c.start + c.len ≤ bits_of s → good s c ≡ true
  unfolding good
  good_true h k = simp (le-leb _ _ h, le-leb _ _ k)

  pub good_le : good s c ≡ true → (c.pos ≤ c.len) × (c.start + c.len ≤ bits_of s)
  unfolding good
  good_le e = let p = and_true _ _ e in (leb-true _ _ p.0, leb-true _ _ p.1)

  pub good_within : good s c ≡ true → c.pos ≤ c.len
  good_within e = (good_le e).0

  pub good_ends : good s c ≡ true → c.start + c.len ≤ bits_of s
  good_ends e = (good_le e).1

  -- a field of the window is a field of the bytes
  pub window_field : (p n : ℕ) → p + n ≤ c.len → field (window s c) p n ≡ field (num s) (c.start + p) n
  unfolding window
  window_field p n h = field_field (num s) c.start c.len p n h

  -- what a test of the cursor says
  pub passed : (b : Bool) → b ≡ good s c → b ≡ true → good s c ≡ true
  passed b e h = sym e ∙ h

  pub failed : (b : Bool) → b ≡ good s c → b ≡ false → good s c ≡ false
  failed b e h = sym e ∙ h

  module _ {A : Type 0} (inside : ℕ → Result A Refusal) where
    pub at_bad : good s c ≡ false → at_cursor s c inside ≡ Err (bad_cursor_lem s c)
    unfolding at_cursor
    at_bad e = simp e

    pub at_good : good s c ≡ true → at_cursor s c inside ≡ inside (window s c)
    unfolding at_cursor
    at_good e = simp e

    -- what holds of every refusal and of what is made of the window holds of the answer
    pub at_holds : (E : Result A Refusal → Type 0) → ((r : Refusal) → E (Err r)) → (good s c ≡ true → E (inside (window s c))) → E (at_cursor s c inside)
    at_holds E fails holds = by_cases (good s c) (λ g. subst E (sym (at_good g)) (holds g)) (λ g. subst E (sym (at_bad g)) (fails (bad_cursor_lem s c)))

    -- the way out for a bad cursor, by a test of it
    pub bad_way : (b : Bool) (r : Refusal) → b ≡ good s c → b ≡ false → r ≡ bad_cursor_lem s c → Err r ≡ at_cursor s c inside
    bad_way b r e h er = ap Err er ∙ sym (at_bad (failed b e h))

    -- and the way on for a good one
    pub good_way : (b : Bool) (x : Result A Refusal) → b ≡ good s c → b ≡ true → x ≡ inside (window s c) → x ≡ at_cursor s c inside
    good_way b x e h ex = ex ∙ sym (at_good (passed b e h))

  -- what the code's test of the cursor says, which answers with the refusal
  pub ok_good : {u : Unit {0}} → Ok u ≡ good_or_refused_lem s c → good s c ≡ true
  ok_good e = by_cases (good s c) (λ g. g) (λ g. absurd (apart (sym (e ∙ at_bad (λ W. Ok tt) g))))

  pub err_bad : {r : Refusal} → Err r ≡ good_or_refused_lem s c → (good s c ≡ false) × (r ≡ bad_cursor_lem s c)
  err_bad e =
      by_cases (good s c)
      (λ g. absurd (apart (e ∙ at_good (λ W. Ok tt) g)))
      (λ g. (g, same_refusal _ _ (e ∙ at_bad (λ W. Ok tt) g)))

-- the code's way out for a bad cursor
pub err_way : {A : Type 0} (s : List ℕ) (c : Cursor) (inside : ℕ → Result A Refusal) (r : Refusal)
    → Err r ≡ good_or_refused_lem s c → at_cursor s c inside ≡ Err r
err_way s c inside r e = let f = err_bad s c e in sym (bad_way s c inside (good s c) r refl f.0 f.1)

-- and the way on for a good one
pub ok_way : {A : Type 0} (s : List ℕ) (c : Cursor) (inside : ℕ → Result A Refusal) (u : Unit {0})
    → Ok u ≡ good_or_refused_lem s c → at_cursor s c inside ≡ inside (window s c)
ok_way s c inside u e = sym (good_way s c inside (good s c) _ refl (ok_good s c e) refl)

module _ {A : Type 0} (len pos n : ℕ) (enough : Result A Refusal) where
  pub asking_few : len < pos + n → asking len pos n enough ≡ Err (TooFew pos len n)
  unfolding asking
  asking_few h = simp (lt-ltb _ _ h)

  pub asking_enough : pos + n ≤ len → asking len pos n enough ≡ enough
  unfolding asking
  asking_enough h = simp (le-ltb _ _ h)

  pub asking_holds : (E : Result A Refusal → Type 0) → ((r : Refusal) → E (Err r)) → (pos + n ≤ len → E enough) → E (asking len pos n enough)
  asking_holds E fails holds =
      by_cases (leb (pos + n) len)
      (λ h. let k = leb-true (pos + n) len h in subst E (sym (asking_enough k)) (holds k))
      (λ h. subst E (sym (asking_few (leb-false (pos + n) len h))) (fails (TooFew pos len n)))

-- the code's way out where there are too few bits
pub few_way : {A : Type 0} (len pos n : ℕ) (enough : Result A Refusal) (r : Refusal)
    → Err r ≡ asking len pos n (Ok (pos + n)) → asking len pos n enough ≡ Err r
few_way len pos n enough r e =
    by_cases (leb (pos + n) len)
    (λ h. absurd (apart (e ∙ asking_enough len pos n (Ok (pos + n)) (leb-true _ _ h))))
    (λ h. let few = leb-false _ _ h in
    asking_few len pos n enough few ∙ ap Err (sym (same_refusal _ _ (e ∙ asking_few len pos n (Ok (pos + n)) few))))

-- and the way on where there are enough
pub enough_way : {A : Type 0} (len pos n : ℕ) (enough : Result A Refusal) (next : ℕ)
    → Ok next ≡ asking len pos n (Ok (pos + n)) → asking len pos n enough ≡ enough
enough_way len pos n enough next e =
    by_cases (leb (pos + n) len)
    (λ h. asking_enough len pos n enough (leb-true _ _ h))
    (λ h. absurd (apart (sym (e ∙ asking_few len pos n (Ok (pos + n)) (leb-false _ _ h)))))

pub past_is : (len pos n next : ℕ) → Ok next ≡ asking len pos n (Ok (pos + n)) → next ≡ pos + n
past_is len pos n next e = same_value _ _ (e ∙ enough_way len pos n (Ok (pos + n)) next e)

-- bits that were skipped lie in the window, and the window in the bytes
pub skip_done : (s : List ℕ) (c : Cursor) (n next : ℕ) → skipped s c n ≡ Ok next → (good s c ≡ true) × (c.pos + n ≤ c.len)
skip_done s c n next e =
    by_cases (good s c)
    (λ g. by_cases (leb (c.pos + n) c.len)
    (λ h. (g, leb-true _ _ h))
    (λ h. absurd (apart (sym (sym e ∙ at_good s c _ g ∙ asking_few c.len c.pos n (Ok (c.pos + n)) (leb-false _ _ h))))))
    (λ g. absurd (apart (sym (sym e ∙ at_bad s c _ g))))

module _ (s : List ℕ) (c : Cursor) (n next : ℕ) (e : Ok next ≡ skipped s c n) where
  pub skip_within : c.pos + n ≤ c.len
  skip_within = (skip_done s c n next (sym e)).1

  pub skip_ends : c.start + c.len ≤ bits_of s
  skip_ends = good_ends s c (skip_done s c n next (sym e)).0

-- a refusal that is passed on stays as it is
pub passed_on : {A : Type 0} (x : Result A Refusal) (r : Refusal) → IsErrAnd x (λ q. q ≡ r) → x ≡ Err r
passed_on (Ok y) r h = absurd h
passed_on (Err q) r h = ap Err h

-- what the code's steps make of the definitions
pub ruleset ways = (err_way, ok_way, few_way, enough_way, good_within, good_ends, skip_within, skip_ends, window_field, bound)
