-- The seven counters of a walk, and whether they are clean (01, Walking an array, behind rule 9); beside them, how many numbers were padded.
use Rattle.std.specs.Prelude.{ℕ, ◌+◌, Bool, [], ◌∷◌, eqb}
use Rattle.bits.specs.Packed.{bits_among}
use Rattle.bits.specs.Padded.{padded_among}
use Rattle.framing.specs.Events.{Event, number, element, array, leaf, pair, truncation, error, implicit, nested, root, Trace, taken}

pub record Counters : Type 0 where
  pub elements : ℕ
  pub fields : ℕ  -- leaves, kept tails among them; in an object walk pairs
  pub truncations : ℕ
  pub errors : ℕ
  pub nested_bits_lem : ℕ
  pub root_bits_lem : ℕ
  pub implicits : ℕ

abbrev pub counted : (elements fields truncations errors nested_bits_lem root_bits_lem implicits : ℕ) → Counters
counted e f t r n b i = record { elements = e; fields = f; truncations = t; errors = r; nested_bits_lem = n; root_bits_lem = b; implicits = i }

abbrev pub sums : Counters → Counters → Counters
sums a b =
    counted (a.elements + b.elements) (a.fields + b.fields) (a.truncations + b.truncations) (a.errors + b.errors)
    (a.nested_bits_lem + b.nested_bits_lem) (a.root_bits_lem + b.root_bits_lem) (a.implicits + b.implicits)

-- what one event adds
abbrev pub count_of : Event → Counters
count_of (number x) = counted 0 0 0 0 0 0 0
count_of (element p) = counted 1 0 0 0 0 0 0
count_of (array a) = counted 0 0 0 0 0 0 0
count_of (leaf x) = counted 0 1 0 0 0 0 0
count_of (pair x) = counted 0 1 0 0 0 0 0
count_of truncation = counted 0 0 1 0 0 0 0
count_of error = counted 0 0 0 1 0 0 0
count_of (nested n) = counted 0 0 0 0 n 0 0
count_of (root n) = counted 0 0 0 0 0 n 0
count_of implicit = counted 0 0 0 0 0 0 1

abbrev pub counters : Trace → Counters
counters [] = counted 0 0 0 0 0 0 0
counters (e ∷ t) = sums (count_of e) (counters t)

-- clean: nothing but elements and fields was counted
abbrev pub faults : Counters → ℕ
faults c = c.truncations + c.errors + c.nested_bits_lem + c.root_bits_lem + c.implicits

abbrev pub is_clean : Counters → Bool
is_clean c = eqb (faults c) 0

-- Beside the counters and not among them: how many of the numbers that were taken are padded (request 01). Clean, verdict and sums don't look at it.
abbrev pub padded_in : Trace → ℕ
padded_in t = padded_among (taken t)

-- The bits that all numbers that were taken have, at all levels, eight for each byte (request 06): added up from the numbers' own events, and shown in
-- no answer.
abbrev pub number_bits : Trace → ℕ
number_bits t = bits_among (taken t)
