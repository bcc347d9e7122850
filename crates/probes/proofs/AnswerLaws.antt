-- What a struct says of the form that an answer has, it says of the answer; and what it says of a proved call's answer, it says of the definition
-- that the call's contract cites.
use mathlib.Core.Path.{◌≡◌, sym, ap, ◌∙◌}
use Prim.Native.Nat.{ℕ, ◌%◌, ◌^◌}
use Rattle.bitio.specs.Refusals.{numbered, saying_of, stands_after_lem}
use Rattle.bitio.specs.declared.Cursor.{Cursor}
use Rattle.std.specs.Prelude.{Result, Ok, Err, MatchResult, pos, false}
use Rattle.bitio.specs.declared.Read.{Read}
use Rattle.bitio.specs.declared.Refusal.{Refusal}
use Rattle.bitio.specs.declared.said.Saying.{Saying}
use Rattle.probes.specs.Answers.{cursor_of_lem, refused_at, refusal_given, value_given_lem, number_gives_lem, NumberGiven}
use Rattle.probes.specs.declared.VrfProbe.{VrfProbe}
use Rattle.probes.specs.declared.VrfProbeCursor.{VrfProbeCursor}

pub by_form : {A B : Type 0} (f : A → B) {a k : A} {r : B} → a ≡ k → r ≡ f k → r ≡ f a
by_form f e h = h ∙ sym (ap f e)

-- a refusal: what it says, and where it leaves the cursor
pub as_said : (at : ℕ) (why : Refusal) {s : Saying} {p : ℕ} → s ≡ saying_of (numbered why) → p ≡ stands_after_lem at why % 2 ^ 64
    → refused_at s.number s.first s.second s.third p ≡ refusal_given at why
as_said at why e f = λ i. refused_at (e i).number (e i).first (e i).second (e i).third (f i)

-- a call at the cursor that was handed in
pub read_as : {A B : Type 0} (f : ℕ → A → B) (g : Cursor → A) {c : Cursor} {k : VrfProbeCursor} {a : A} {r : B} → c ≡ cursor_of_lem k
    → a ≡ g c → r ≡ f c.pos a → r ≡ f k.pos (g (cursor_of_lem k))
read_as f g {c} e h s = s ∙ ap (f c.pos) h ∙ ap (λ (x : Cursor). f x.pos (g x)) e

-- a number of any width
pub number_given : (at : ℕ) (a : Result (Read ℕ) Refusal) (r : VrfProbe)
    → MatchResult a (λ x. NumberGiven (λ n. n ≡ x.value) x.next r) (λ why. r ≡ refusal_given at why) → r ≡ number_gives_lem at a
number_given at (Ok x) r h = h.2 ∙ ap (λ (n : ℕ). value_given_lem n (pos 0) false x.next) h.1
number_given at (Err why) r h = h
