-- What is promised of verdicts (01, Walking an array, behind rule 9; request 05): which window is clean, which partial, which empty; and which set of
-- counters is clean.
use Rattle.std.specs.Prelude.{ℕ, ◌≤◌, ◌≡◌, true, false}
use Rattle.framing.specs.Counters.{Counters, counted, is_clean}
use Rattle.framing.specs.Sinks.{Walker, Leafy}
use Rattle.framing.specs.Verdicts as F
use Rattle.exports.specs.WalkResults.{verdict_number_lem}

-- each follows from the other
abbrev pub Exactly : (A B : Type 0) → Type 0
Exactly A B = (A → B) × (B → A)

-- The verdict v on a window of so many bits whose walk was not refused and gave these counters; form says how verdicts are told, by name or by
-- number. It is empty exactly if a struct or exact walk was sent no bits; clean exactly if there are bits, and nothing but elements and fields was
-- counted; partial exactly if something else was counted. Of no bits a struct or exact walk counts nothing, and an object walk one error.
pub record OnWindow {A : Type 0} (form : F.Verdict → A) (k : Walker) (bits : ℕ) (c : Counters) (v : A) : Type 0 where
  pub empty : Exactly (v ≡ form F.empty) (Leafy k × (bits ≡ 0))
  pub clean : Exactly (v ≡ form F.clean) ((1 ≤ bits) × (is_clean c ≡ true))
  pub partial : Exactly (v ≡ form F.partial) (is_clean c ≡ false)
  pub nothing_counted : Leafy k → bits ≡ 0 → c ≡ counted 0 0 0 0 0 0 0
  pub error_counted : (Leafy k → ⊥) → bits ≡ 0 → c ≡ counted 0 0 0 1 0 0 0

-- A walk's verdict for C, beside its refusal. A refused walk has none; in its place stands 0, which is clean's number too: the refusal is to be
-- asked for first.
pub record InC (k : Walker) (bits refusal : ℕ) (c : Counters) (v : ℕ) : Type 0 where
  pub refused : (refusal ≡ 0 → ⊥) → v ≡ 0
  pub accepted : refusal ≡ 0 → OnWindow verdict_number_lem k bits c v

-- The verdict on a set of counters, of one walk or of several added up. However few bits were walked, it isn't empty: only windows are.
pub record OnSet {A : Type 0} (form : F.Verdict → A) (c : Counters) (v : A) : Type 0 where
  pub clean : Exactly (v ≡ form F.clean) (is_clean c ≡ true)
  pub partial : Exactly (v ≡ form F.partial) (is_clean c ≡ false)
  pub not_empty : v ≡ form F.empty → ⊥
