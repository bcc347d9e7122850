-- The order of the refusals (01, Refusal numbers; fast array: 1, 6, 3): the first whose condition holds is given, and none if none holds.
use Rattle.std.specs.Prelude.{false, not, List, [], ◌∷◌, length, ltb, Option, None, Some}
pub use Rattle.std.specs.Prelude.{is_none}
use Rattle.bits.specs.Refusals.{Numbered, refusal, Rule, when}
use Rattle.bits.specs.Sizes.{longest_window}
use Rattle.fastarray.specs.Body.{Body, fields_of}
use Rattle.fastarray.specs.Answers.{Call, Lent, found, fits_in}

-- refusal 3: the needs, whichever buffer is short; no rule where there is no body
abbrev pub short_of : Lent → Option Body → Rule Numbered
short_of l None = when false (refusal 0 0 0 0)
short_of l (Some b) = when (not (fits_in b l)) (refusal 3 (length b.deleted) (length b.items) (length (fields_of b.items)))

abbrev pub rules : Call → Lent → List (Rule Numbered)
rules c l = when (ltb longest_window c.bits) (refusal 1 0 0 0) ∷ when (is_none (found c)) (refusal 6 0 0 0) ∷ short_of l (found c) ∷ []
