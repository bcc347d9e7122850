-- The fourteen proved cases hold: the walks' table and the movements' were computed where their definitions stand.
use mathlib.Core.Path.{◌≡◌, refl}
use mathlib.Core.List.{[], ◌∷◌, ◌++◌, map}
use Rattle.framing.proofs.CasesProved.{cases_hold}
use Rattle.geometry.proofs.CasesProved.{case_14}
use Rattle.promises.specs.Cases.{walked, outcome, CaseRow, table}

-- What the definitions give is what 01 says, in every row.
pub all_cases : map (λ (r : CaseRow). r.given) table ≡ map (λ (r : CaseRow). r.stated) table
all_cases = λ i. map walked (cases_hold i) ++ (outcome (case_14.0 i) ∷ outcome (case_14.1 i) ∷ [])

-- No case is missing.
pub every_case : map (λ (r : CaseRow). r.number) table ≡ 1 ∷ 2 ∷ 3 ∷ 4 ∷ 5 ∷ 6 ∷ 7 ∷ 8 ∷ 9 ∷ 10 ∷ 11 ∷ 11 ∷ 11 ∷ 12 ∷ 13 ∷ 14 ∷ 14 ∷ []
every_case = refl
