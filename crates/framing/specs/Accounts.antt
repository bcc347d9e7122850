-- How the events of a walk account for the bits of its window (request 06): which bits each of them takes, and how they add up.
use Rattle.std.specs.Prelude.{ℕ, ◌+◌, ◌*◌, ◌≤◌, ◌≡◌, true, List, [], ◌∷◌}
use Rattle.bits.specs.Members.{Any}
use Rattle.bits.specs.Packed.{Number}
use Rattle.framing.specs.Events.{Leaf, Entered, Pair, number, element, array, leaf, pair, truncation, error, implicit, nested, root, leaves, taken, arrays, Trace}
use Rattle.framing.specs.Places.{Range, range}
use Rattle.framing.specs.Counters.{Counters, is_clean}
use Rattle.framing.specs.Sinks.{Walker, Leafy}

-- ---- the window, cut up from left to right

-- In a walk k, the events t take the window's bits from bit p up to bit q, one stretch behind the other, with no gap and no overlap. A number and a leaf
-- take the bits that they say they have, where they say they start; bits that were stepped past or left are counted by their event. Behind an error
-- the bits up to an end go unread; so they do behind a limit in an object walk, which keeps no tail. All other events take none.
pub data Divides (k : Walker) (End : ℕ → Type 0) : (p : ℕ) → Trace → (q : ℕ) → Type 0 where
  nothing_more : {p q : ℕ} → p ≡ q → Divides k End p [] q
  takes_number : {p q : ℕ} {x : Number} {t : Trace} → x.start ≡ p → Divides k End (p + 8 * x.bytes) t q → Divides k End p (number x ∷ t) q
  takes_leaf : {p q : ℕ} {x : Leaf} {t : Trace} → x.start ≡ p → Divides k End (p + x.width) t q → Divides k End p (leaf x ∷ t) q
  steps_past : {p q n : ℕ} {t : Trace} → Divides k End (p + n) t q → Divides k End p (nested n ∷ t) q
  left_at_root : {p q n : ℕ} {t : Trace} → Divides k End (p + n) t q → Divides k End p (root n ∷ t) q
  stops_at_error : {p q : ℕ} {t : Trace} (unread : ℕ) → End (p + unread) → Divides k End (p + unread) t q → Divides k End p (error ∷ t) q
  skips_tail : {p q : ℕ} {t : Trace} (unread : ℕ) → (Leafy k → ⊥) → End (p + unread) → Divides k End (p + unread) t q → Divides k End p (truncation ∷ t) q
  meets_limit : {p q : ℕ} {t : Trace} → Divides k End p t q → Divides k End p (truncation ∷ t) q
  ends_early : {p q : ℕ} {t : Trace} → Divides k End p t q → Divides k End p (implicit ∷ t) q
  enters_element : {p q : ℕ} {path : List ℕ} {t : Trace} → Divides k End p t q → Divides k End p (element path ∷ t) q
  enters_array : {p q : ℕ} {a : Entered} {t : Trace} → Divides k End p t q → Divides k End p (array a ∷ t) q
  gives_pair : {p q : ℕ} {x : Pair} {t : Trace} → Divides k End p t q → Divides k End p (pair x ∷ t) q

-- Up to where bits may go unread, in a walk k of n bits that gave the trace t: bit e is the window's end, or the end of an array that was entered, or in
-- an object walk as many bits behind a number that was taken as this number says, which is a payload's end if it is the payload's width.
pub data EndIn (k : Walker) (n : ℕ) (t : Trace) (e : ℕ) : Type 0 where
  of_window : e ≡ n → EndIn k n t e
  of_array : Any (λ (a : Entered). a.start + a.width ≡ e) (arrays t) → EndIn k n t e
  of_payload : (Leafy k → ⊥) → Any (λ (x : Number). x.start + 8 * x.bytes + x.value ≡ e) (taken t) → EndIn k n t e

-- a walk k of n bits that gave the trace t divides them all
abbrev pub Divided : Walker → (n : ℕ) → Trace → Type 0
Divided k n t = Divides k (EndIn k n t) 0 t n

-- all bits that went unread behind errors and, in an object walk, behind limits
abbrev pub unread_in : {k : Walker} {End : ℕ → Type 0} {p q : ℕ} {t : Trace} → Divides k End p t q → ℕ
unread_in (nothing_more e) = 0
unread_in (takes_number e d) = unread_in d
unread_in (takes_leaf e d) = unread_in d
unread_in (steps_past d) = unread_in d
unread_in (left_at_root d) = unread_in d
unread_in (stops_at_error m end d) = m + unread_in d
unread_in (skips_tail m leafless end d) = m + unread_in d
unread_in (meets_limit d) = unread_in d
unread_in (ends_early d) = unread_in d
unread_in (enters_element d) = unread_in d
unread_in (enters_array d) = unread_in d
unread_in (gives_pair d) = unread_in d

-- the bits that some leaves have, and those of all leaves of a trace; number_bits (specs/Counters) has those of all numbers that were taken
abbrev pub widths_among : List Leaf → ℕ
widths_among [] = 0
widths_among (x ∷ l) = x.width + widths_among l

abbrev pub leaf_bits : Trace → ℕ
leaf_bits t = widths_among (leaves t)

-- ---- what overlaps nowhere

-- the bits of every number that was taken and of every leaf, in the order of the trace
abbrev pub stretches : Trace → List Range
stretches [] = []
stretches (number x ∷ t) = range x.start (8 * x.bytes) ∷ stretches t
stretches (leaf x ∷ t) = range x.start x.width ∷ stretches t
stretches (element p ∷ t) = stretches t
stretches (array a ∷ t) = stretches t
stretches (pair x ∷ t) = stretches t
stretches (truncation ∷ t) = stretches t
stretches (error ∷ t) = stretches t
stretches (implicit ∷ t) = stretches t
stretches (nested n ∷ t) = stretches t
stretches (root n ∷ t) = stretches t

-- each starts at or behind bit p and the end of the one before it, and the last ends at or before bit q
abbrev pub InOrder : (p : ℕ) → List Range → (q : ℕ) → Type 0
InOrder p [] q = p ≤ q
InOrder p (r ∷ l) q = (p ≤ r.start) × InOrder (r.start + r.width) l q

-- ---- the sum

-- Of a walk k of n bits that gave the trace t and counted c: `ofLeaves` bits of leaves and `ofNumbers` bits of numbers overlap nowhere and lie in the
-- window, so they are n at most. What is missing are the bits that were stepped past or left, which are counted, and those that went unread: none
-- without an error, except behind a limit in an object walk. With nothing counted but elements and fields, leaves and numbers are all of the window.
pub record Accounts (k : Walker) (n : ℕ) (t : Trace) (c : Counters) (ofLeaves ofNumbers : ℕ) : Type 0 where
  pub divided : Divided k n t
  pub in_order : InOrder 0 (stretches t) n
  pub at_most : ofLeaves + ofNumbers ≤ n
  pub sum : ofLeaves + ofNumbers + c.nested_bits_lem + c.root_bits_lem + unread_in divided ≡ n
  pub without_errors : Leafy k → c.errors ≡ 0 → unread_in divided ≡ 0
  pub without_errors_or_limits : c.errors ≡ 0 → c.truncations ≡ 0 → unread_in divided ≡ 0
  pub all_of_it : is_clean c ≡ true → ofLeaves + ofNumbers ≡ n
