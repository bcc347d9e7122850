-- What holds of all members of a list, and of one at least; and when two lists have the same members, in the same order or another.
use Rattle.std.specs.Prelude.{ℕ, ◌≡◌, List, [], ◌∷◌, ◌++◌, length}

abbrev pub All : {A : Type 0} → (A → Type 0) → List A → Type 0
All holds [] = Unit {0}
All holds (x ∷ l) = holds x × All holds l

-- it holds of the first, or of one behind it
pub data Any {A : Type 0} (holds : A → Type 0) : List A → Type 0 where
  first : {x : A} {l : List A} → holds x → Any holds (x ∷ l)
  later : {x : A} {l : List A} → Any holds l → Any holds (x ∷ l)

-- x is number i of l: that many stand before it
pub record StandsAt {A : Type 0} (x : A) (i : ℕ) (l : List A) : Type 0 where
  pub before : List A
  pub after : List A
  pub whole : l ≡ before ++ (x ∷ after)
  pub many : length before ≡ i

-- x stands somewhere in m, and m without that one x is as `others` says
pub record StandsIn {A : Type 0} (x : A) (others : List A → Type 0) (m : List A) : Type 0 where
  pub before : List A
  pub after : List A
  pub whole : m ≡ before ++ (x ∷ after)
  pub rest : others (before ++ after)

-- m has the members of l, each as often as l has it, in any order
abbrev pub Reorders : {A : Type 0} → (l m : List A) → Type 0
Reorders [] m = m ≡ []
Reorders (x ∷ l) m = StandsIn x (Reorders l) m
