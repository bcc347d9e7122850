-- What is lent stays the same over a step that counts, and over two steps.
use Rattle.std.proofs.Common.{refl, ◌∙◌}
use Rattle.steps.specs.Steps.{SameLent}
use Rattle.steps.specs.declared.tally.Tally.{Tally}
use Rattle.steps.specs.declared.writes.Outputs.{Outputs}

pub lent_same : (o : Outputs) → SameLent o o
lent_same o =
    record { path = refl; records = refl; paths = refl; payloads = refl; records_held = refl; paths_held = refl; payloads_held = refl }

-- the tally has other numbers
pub lent_counted : (o : Outputs) (tally : Tally) → SameLent o (record o { tally = tally })
lent_counted o tally =
    record { path = refl; records = refl; paths = refl; payloads = refl; records_held = refl; paths_held = refl; payloads_held = refl }

pub lent_then : (o p q : Outputs) → SameLent o p → SameLent p q → SameLent o q
lent_then o p q a b =
    record {
      path = b.path ∙ a.path;
      records = b.records ∙ a.records;
      paths = b.paths ∙ a.paths;
      payloads = b.payloads ∙ a.payloads;
      records_held = b.records_held ∙ a.records_held;
      paths_held = b.paths_held ∙ a.paths_held;
      payloads_held = b.payloads_held ∙ a.payloads_held;
    }
