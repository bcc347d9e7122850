-- The laws of lists by their members, and of orders of a list.
use Prim.Native.Nat.{ℕ, zero, suc, ◌<◌}
use mathlib.Core.Path.{◌≡◌, refl, sym, ap, ◌∙◌, subst}
use mathlib.Core.List.{List, [], ◌∷◌, ◌++◌}
use native.Mathlib.Omega.{arith}
use lib.ListN.{length}
use Rattle.bits.specs.Members.{All, Any, first, later, StandsAt, Reorders}
use Rattle.bits.proofs.Never.{never}

-- What holds of all members of two lists holds of all of both.
pub all_append : {A : Type 0} (holds : A → Type 0) (a b : List A) → All holds a → All holds b → All holds (a ++ b)
all_append holds [] b h k = k
all_append holds (x ∷ a) b h k = (h.0, all_append holds a b h.1 k)

pub all_map : {A : Type 0} (holds also : A → Type 0) → ((x : A) → holds x → also x) → (l : List A) → All holds l → All also l
all_map holds also f [] h = tt
all_map holds also f (x ∷ l) h = (f x h.0, all_map holds also f l h.1)

-- What holds of all members holds of each that stands among them.
pub all_at : {A : Type 0} (holds : A → Type 0) (m : List A) → All holds m → (x : A) (i : ℕ) → StandsAt x i m → holds x
all_at {A = A} holds m h x i s = go s.before (subst (All holds) s.whole h)
  where
    go : (before : List A) → All holds (before ++ (x ∷ s.after)) → holds x
    go [] k = k.0
    go (y ∷ before) k = go before k.1

-- A list has a number i for every i below its length.
pub member : {A : Type 0} (l : List A) (i : ℕ) → i < length l → A
member [] i h = absurd (omega arith)
member (x ∷ l) zero h = x
member (x ∷ l) (suc i) h = member l i (omega arith)

pub member_stands : {A : Type 0} (l : List A) (i : ℕ) (h : i < length l) → StandsAt (member l i h) i l
unfolding member
member_stands [] i h = absurd (omega arith)
member_stands (x ∷ l) zero h = record { before = []; after = l; whole = refl; many = refl }
member_stands (x ∷ l) (suc i) h =
    let s = member_stands l i (omega arith) in
    record { before = x ∷ s.before; after = s.after; whole = ap (λ r. x ∷ r) s.whole; many = ap suc s.many }

-- An empty list has none.
pub none_stands : {A : Type 0} (a : A) (i : ℕ) → StandsAt a i [] → ⊥
none_stands {A = A} a i s = go s.before s.whole
  where
    go : (before : List A) → [] ≡ before ++ (a ∷ s.after) → ⊥
    go [] e = let z : ◌≡◌ {A = ℕ} 0 1 = cc in never z
    go (y ∷ before) e = let z : ◌≡◌ {A = ℕ} 0 1 = cc in never z

-- The first of a list, and one behind it, among those behind it.
module _ {A : Type 0} (x : A) (l : List A) where
  pub stands_first : (a : A) → StandsAt a 0 (x ∷ l) → x ≡ a
  stands_first a s = go s.before s.whole s.many
    where
      go : (before : List A) → x ∷ l ≡ before ++ (a ∷ s.after) → length before ≡ 0 → x ≡ a
      go [] e z = cc
      go (y ∷ before) e z = absurd (omega arith)

  pub stands_later : (a : A) (i : ℕ) → StandsAt a (suc i) (x ∷ l) → StandsAt a i l
  stands_later a i s = go s.before s.whole s.many
    where
      go : (before : List A) → x ∷ l ≡ before ++ (a ∷ s.after) → length before ≡ suc i → StandsAt a i l
      go [] e z = absurd (omega arith)
      go (y ∷ before) e z = record { before = before; after = s.after; whole = cc; many = omega arith }

-- A number of a list is below its length, and is one.
pub stands_below : {A : Type 0} (l : List A) (a : A) (i : ℕ) → StandsAt a i l → i < length l
stands_below [] a i s = absurd (none_stands a i s)
stands_below (x ∷ l) a zero s = omega arith
stands_below (x ∷ l) a (suc i) s = let z = stands_below l a i (stands_later x l a i s) in omega arith

pub one_stands : {A : Type 0} (l : List A) (a b : A) (i : ℕ) → StandsAt a i l → StandsAt b i l → a ≡ b
one_stands [] a b i s t = absurd (none_stands a i s)
one_stands (x ∷ l) a b zero s t = sym (stands_first x l a s) ∙ stands_first x l b t
one_stands (x ∷ l) a b (suc i) s t = one_stands l a b i (stands_later x l a i s) (stands_later x l b i t)

-- What holds of each member and the next, and what holds of each member and all behind it.
module _ {A : Type 0} (holds : A → A → Type 0) where
  abbrev pub EachNext : List A → Type 0
  EachNext [] = Unit {0}
  EachNext (x ∷ []) = Unit {0}
  EachNext (x ∷ y ∷ l) = holds x y × EachNext (y ∷ l)

  abbrev pub EachBehind : List A → Type 0
  EachBehind [] = Unit {0}
  EachBehind (x ∷ l) = All (holds x) l × EachBehind l

  pub next_at : (l : List A) → EachNext l → (a b : A) (i : ℕ) → StandsAt a i l → StandsAt b (suc i) l → holds a b
  next_at [] h a b i s t = absurd (none_stands a i s)
  next_at (x ∷ []) h a b i s t = absurd (none_stands b i (stands_later x [] b i t))
  next_at (x ∷ y ∷ l) h a b zero s t =
      subst (λ c. holds c b) (stands_first x (y ∷ l) a s)
      (subst (holds x) (stands_first y l b (stands_later x (y ∷ l) b 0 t)) h.0)
  next_at (x ∷ y ∷ l) h a b (suc i) s t = next_at (y ∷ l) h.1 a b i (stands_later x (y ∷ l) a i s) (stands_later x (y ∷ l) b (suc i) t)

  pub behind_at : (l : List A) → EachBehind l → (a b : A) (i j : ℕ) → i < j → StandsAt a i l → StandsAt b j l → holds a b
  behind_at [] h a b i j lt s t = absurd (none_stands a i s)
  behind_at (x ∷ l) h a b i zero lt s t = absurd (omega arith)
  behind_at (x ∷ l) h a b zero (suc j) lt s t =
      subst (λ c. holds c b) (stands_first x l a s) (all_at (holds x) l h.0 b j (stands_later x l b j t))
  behind_at (x ∷ l) h a b (suc i) (suc j) lt s t = behind_at l h.1 a b i j (omega arith) (stands_later x l a i s) (stands_later x l b j t)

-- What holds of one member holds of one of a longer list.
pub any_before : {A : Type 0} (holds : A → Type 0) (a b : List A) → Any holds a → Any holds (a ++ b)
any_before {A = A} holds [] b h = elim h [ ]
any_before holds (x ∷ a) b (first h) = first h
any_before holds (x ∷ a) b (later h) = later (any_before holds a b h)

pub any_behind : {A : Type 0} (holds : A → Type 0) (a b : List A) → Any holds b → Any holds (a ++ b)
any_behind holds [] b h = h
any_behind holds (x ∷ a) b h = later (any_behind holds a b h)

-- A list is an order of itself: its first stands in front of the rest.
pub same_order : {A : Type 0} (l : List A) → Reorders l l
same_order [] = refl
same_order (x ∷ l) = record { before = []; after = l; whole = refl; rest = same_order l }

-- What holds of all members holds of them in every order: of the first, wherever it stands, and of the others.
module _ {A : Type 0} (holds : A → Type 0) where
  put_in : (x : A) (before after : List A) → holds x → All holds (before ++ after) → All holds (before ++ (x ∷ after))
  put_in x [] after h k = (h, k)
  put_in x (y ∷ before) after h k = (k.0, put_in x before after h k.1)

  pub all_reordered : (l m : List A) → Reorders l m → All holds l → All holds m
  all_reordered [] m o h = subst (All holds) (sym o) h
  all_reordered (x ∷ l) m o h =
      subst (All holds) (sym o.whole) (put_in x o.before o.after h.0 (all_reordered l (o.before ++ o.after) o.rest h.1))

-- A total that adds one member after another, where of two members either may be added first, is that of every order: each member can be brought to
-- the front, past those before it.
module _ {A S : Type 0} (add : A → S → S) (swap : (x y : A) (s : S) → add x (add y s) ≡ add y (add x s)) (total : List A → S)
    (one_more : (x : A) (l : List A) → total (x ∷ l) ≡ add x (total l)) where
  to_front : (x : A) (before after : List A) → total (before ++ (x ∷ after)) ≡ add x (total (before ++ after))
  to_front x [] after = one_more x after
  to_front x (y ∷ before) after =
      one_more y (before ++ (x ∷ after))
      ∙ ap (add y) (to_front x before after)
      ∙ swap y x (total (before ++ after))
      ∙ ap (add x) (sym (one_more y (before ++ after)))

  pub any_order : (l m : List A) → Reorders l m → total l ≡ total m
  any_order [] m o = ap total (sym o)
  any_order (x ∷ l) m o =
      one_more x l
      ∙ ap (add x) (any_order l (o.before ++ o.after) o.rest)
      ∙ sym (to_front x o.before o.after)
      ∙ ap total (sym o.whole)
