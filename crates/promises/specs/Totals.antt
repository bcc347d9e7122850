-- Request 13: what a total of many sets of counters doesn't depend on, which is the order of its merges and how they are bracketed. `adds a b r` is a
-- merge's contract: r may be answered for a on the left and b on the right. The laws hold of any such answers. The counters that a refused merge gives
-- back are left aside.
use Rattle.std.specs.Prelude.{◌≡◌, true, false, List, [], ◌∷◌, ◌++◌, eqb, if◌then◌else◌, Ok, Err}
use Rattle.std.proofs.Math.Option.{Option, none, some}
use Rattle.bits.specs.Members.{All, Reorders}
use Rattle.framing.specs.Counters.{Counters, counted, sums, is_clean}
use Rattle.framing.specs.Verdicts as F
use Rattle.array.specs.Merges.{bounded}
use Rattle.array.specs.Refusals.{Merged, counters_of_lem}
use Rattle.array.specs.declared.ArrayDecodeStats.{ArrayDecodeStats}
use Rattle.exports.specs.WalkResults.{counters_in, no_counters_lem}
use Rattle.exports.specs.declared.VrfCounters.{VrfCounters}
use Rattle.exports.specs.declared.VrfMerge.{VrfMerge}
use Rattle.promises.specs.Verdicts.{Exactly}

-- ---- sets and answers of a merge

-- how sets (A) and answers of a merge (R) are read
pub record ReadAs (A R : Type 0) : Type 0 where
  pub counts : A → Counters  -- its seven counters
  pub zero : A  -- the set whose counters are all 0
  pub sum_in : R → Option A  -- the sum that an answer gives; none if it is a refusal

-- a set whose counters are all below 2 ^ 64, as in every set that a program holds: in these records a counter is a number of any size
abbrev pub Held : {A R : Type 0} → ReadAs A R → A → Type 0
Held f a = bounded (f.counts a) ≡ true

abbrev pub AllHeld : {A R : Type 0} → ReadAs A R → List A → Type 0
AllHeld f l = All (Held f) l

-- ---- totals

-- a way to a total: from zero, from one set, or from two totals merged
pub data Plan (A : Type 0) : Type 0 where
  from_zero : Plan A
  one : A → Plan A
  both : (left right : Plan A) → Plan A

-- the sets in it, from left to right
abbrev pub sets : {A : Type 0} → Plan A → List A
sets from_zero = []
sets (one a) = a ∷ []
sets (both p q) = sets p ++ sets q

-- a list of sets merged one after another into what a plan gives
abbrev pub onto : {A : Type 0} → Plan A → List A → Plan A
onto p [] = p
onto p (a ∷ l) = onto (both p (one a)) l

-- one after another into zero
abbrev pub in_turn : {A : Type 0} → List A → Plan A
in_turn l = onto from_zero l

-- an answer that meets the contract, and its sum
pub record Given {A R : Type 0} (adds : A → A → R → Type 0) (f : ReadAs A R) (a b : A) (z : Option A) : Type 0 where
  pub answer : R
  pub meets : adds a b answer
  pub sum : z ≡ f.sum_in answer

-- what merging two totals gives: the sum in an answer that meets the contract, none if that is a refusal; none too if one of the two was refused
-- already, since then there is no set to merge. So a total ends with its first refusal: going on with the counters that it gives back is not meant.
abbrev pub MergesTo : {A R : Type 0} → (adds : A → A → R → Type 0) → ReadAs A R → (x y z : Option A) → Type 0
MergesTo adds f (some a) (some b) z = Given adds f a b z
MergesTo adds f (some a) none z = z ≡ none
MergesTo adds f none y z = z ≡ none

-- both parts of a plan come to something, and z is what merging these gives
pub record BothCome {A R : Type 0} (adds : A → A → R → Type 0) (f : ReadAs A R) (left right : Option A → Type 0) (z : Option A) : Type 0 where
  pub left_total : Option A
  pub right_total : Option A
  pub comes_left : left left_total
  pub comes_right : right right_total
  pub merges : MergesTo adds f left_total right_total z

-- z is what a plan comes to: a total, or none if one of its merges is refused
abbrev pub ComesTo : {A R : Type 0} → (adds : A → A → R → Type 0) → ReadAs A R → Plan A → Option A → Type 0
ComesTo adds f from_zero z = z ≡ some f.zero
ComesTo adds f (one a) z = z ≡ some a
ComesTo adds f (both p q) z = BothCome adds f (ComesTo adds f p) (ComesTo adds f q) z

-- the sums over a list of sets, counter by counter, as numbers of any size
abbrev pub sums_over : {A R : Type 0} → ReadAs A R → List A → Counters
sums_over f [] = counted 0 0 0 0 0 0 0
sums_over f (a ∷ l) = sums (f.counts a) (sums_over f l)

-- ---- the laws

-- 1. Whichever of two sets stands left: either both merges are refused, or neither is and their sums are equal.
abbrev pub Commutes : {A R : Type 0} → (adds : A → A → R → Type 0) → ReadAs A R → Type 0
Commutes {A} {R} adds f = (a b : A) (r s : R) → adds a b r → adds b a s → f.sum_in r ≡ f.sum_in s

-- 2. Three sets, grouped to the left or to the right: either both groupings are refused, each in its inner or its outer merge, or neither is and their
-- sums are equal.
abbrev pub Associates : {A R : Type 0} → (adds : A → A → R → Type 0) → ReadAs A R → Type 0
Associates {A} {R} adds f =
    (a b c : A) (x y : Option A) → ComesTo adds f (both (both (one a) (one b)) (one c)) x → ComesTo adds f (both (one a) (both (one b) (one c))) y → x ≡ y

-- 3. A set of 64-bit counters merged with zero, on either side, is never refused and comes back as it was.
pub record ZeroKeeps {A R : Type 0} (adds : A → A → R → Type 0) (f : ReadAs A R) : Type 0 where
  pub all_zero : f.counts f.zero ≡ counted 0 0 0 0 0 0 0
  pub on_the_left : (a : A) (r : R) → Held f a → adds f.zero a r → f.sum_in r ≡ some a
  pub on_the_right : (a : A) (r : R) → Held f a → adds a f.zero r → f.sum_in r ≡ some a

-- something that a plan comes to
pub record Comes {A R : Type 0} (adds : A → A → R → Type 0) (f : ReadAs A R) (p : Plan A) : Type 0 where
  pub outcome : Option A
  pub comes : ComesTo adds f p outcome

-- 4. Merged one after another into zero, a list in two orders is refused in both or has one total (orders); so it is in any two bracketings, also of two
-- orders (brackets). It is refused exactly if the sum over the list passes 2 ^ 64 - 1 in some counter (refused); if not, its total has those sums
-- (has_sums). Every plan comes to something, so that none of this is said of nothing (all_come). `AllHeld` is asked of bracketings alone: from zero on
-- every set goes through a merge, which tests it, but the plan `one a` tests nothing.
pub record Totals {A R : Type 0} (adds : A → A → R → Type 0) (f : ReadAs A R) : Type 0 where
  pub orders : (l m : List A) → Reorders l m → (x y : Option A) → ComesTo adds f (in_turn l) x → ComesTo adds f (in_turn m) y → x ≡ y
  pub brackets : (p q : Plan A) → AllHeld f (sets p) → Reorders (sets p) (sets q) → (x y : Option A) → ComesTo adds f p x → ComesTo adds f q y → x ≡ y
  pub refused : (l : List A) (x : Option A) → ComesTo adds f (in_turn l) x → Exactly (x ≡ none) (bounded (sums_over f l) ≡ false)
  pub brackets_refused : (p : Plan A) → AllHeld f (sets p) → (x : Option A) → ComesTo adds f p x → Exactly (x ≡ none) (bounded (sums_over f (sets p)) ≡ false)
  pub has_sums : (l : List A) (t : A) → ComesTo adds f (in_turn l) (some t) → f.counts t ≡ sums_over f l
  pub brackets_have_sums : (p : Plan A) (t : A) → ComesTo adds f p (some t) → f.counts t ≡ sums_over f (sets p)
  pub all_come : (p : Plan A) → Comes adds f p

-- ---- clean totals

-- the five counters that tell of something broken, cut off, over a limit or unread are 0
pub record Faultless (c : Counters) : Type 0 where
  pub truncations : c.truncations ≡ 0
  pub errors : c.errors ≡ 0
  pub nested_bits_lem : c.nested_bits_lem ≡ 0
  pub root_bits_lem : c.root_bits_lem ≡ 0
  pub implicits : c.implicits ≡ 0

abbrev pub AllFaultless : {A R : Type 0} → ReadAs A R → List A → Type 0
AllFaultless f l = All (λ a. Faultless (f.counts a)) l

-- What is said of a merged set with the counters c; `faultlessParts` says that all its parts are faultless. How many bits its parts' windows had isn't
-- asked, so request 05's rule on windows of no bits is not applied: no verdict on the set is empty, and it is clean if all its parts are of struct or
-- exact walks of no bits, which count nothing. An object walk of no bits counts an error, and a set with that one is not clean.
pub record OnMerged {U : Type 0} (form : F.Verdict → U) (judged : U → Type 0) (c : Counters) (faultlessParts : Type 0) : Type 0 where
  pub counters : Exactly (is_clean c ≡ true) faultlessParts
  pub clean : (v : U) → judged v → Exactly (v ≡ form F.clean) faultlessParts
  pub not_empty : (v : U) → judged v → v ≡ form F.empty → ⊥

-- 5. An accepted sum is clean exactly if neither part counts anything in the five; an accepted total, of a list or however bracketed, exactly if none of
-- its sets does. `judges` is the contract of the verdict on a set, and `form` says how it is told.
pub record CleanParts {A R U : Type 0} (adds : A → A → R → Type 0) (f : ReadAs A R) (judges : A → U → Type 0) (form : F.Verdict → U) : Type 0 where
  pub of_two : (a b s : A) (r : R) → adds a b r → f.sum_in r ≡ some s
      → OnMerged form (judges s) (f.counts s) (Faultless (f.counts a) × Faultless (f.counts b))
  pub of_list : (l : List A) (t : A) → ComesTo adds f (in_turn l) (some t) → OnMerged form (judges t) (f.counts t) (AllFaultless f l)
  pub of_brackets : (p : Plan A) (t : A) → ComesTo adds f p (some t) → OnMerged form (judges t) (f.counts t) (AllFaultless f (sets p))

-- ---- the two merges

abbrev pub no_stats : ArrayDecodeStats
no_stats =
    record {
      elements_decoded = 0;
      fields_emitted = 0;
      truncations = 0;
      errors = 0;
      unconsumed_nested_bits = 0;
      unconsumed_root_bits = 0;
      implicit_terminations = 0;
    }

abbrev pub sum_of : Merged → Option ArrayDecodeStats
sum_of (Ok s) = some s
sum_of (Err o) = none

-- of `merge_from`
abbrev pub in_rattle : ReadAs ArrayDecodeStats Merged
in_rattle = record { counts = counters_of_lem; zero = no_stats; sum_in = sum_of }

-- of `vrf_merge`
abbrev pub in_c : ReadAs VrfCounters VrfMerge
in_c = record { counts = counters_in; zero = no_counters_lem; sum_in = λ r. if eqb r.refusal 0 then some r.counters else none }
