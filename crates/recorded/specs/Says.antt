-- What an answer says of a refusal: its number and its values.
use Rattle.std.specs.Prelude.{◌≡◌}
use Rattle.bits.specs.Refusals.{Numbered}
use Rattle.recorded.specs.declared.answers.Answer.{Answer}

abbrev pub Says : Answer → Numbered → Type 0
Says a n = (a.number ≡ n.number) × (a.first ≡ n.first) × (a.second ≡ n.second) × (a.third ≡ n.third)
