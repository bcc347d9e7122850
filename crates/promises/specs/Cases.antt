-- The fourteen proved cases of document 01 as one table: the walks of framing's table and the two movements. A row has 01's number of the case,
-- what the definitions give, and what 01 says, of case 11 as request 05 changes it. Case 11 is three rows, case 14 two.
use Rattle.std.specs.Prelude.{ℕ, List, [], ◌∷◌, ◌++◌, Result, Ok, Err}
use Rattle.bits.specs.Refusals.{Numbered, refusal}
use Rattle.framing.specs.Cases.{CaseAnswer, Case, cases, found}
use Rattle.geometry.specs.Cases.{bytes, moved}
use Rattle.geometry.specs.Movements.{read_movement}
use Rattle.geometry.specs.Refusals.{numbered}
use Rattle.geometry.specs.declared.Movement.{Movement}
use Rattle.bitio.specs.declared.Read.{Read}
use Rattle.geometry.specs.declared.Refusal.{Refusal}
use Rattle.geometry.specs.declared.RotatorQuantization.TheVariants.{ByteComponents}
use Rattle.geometry.specs.declared.VectorQuantization.TheVariants.{RoundWholeNumber}

-- a walk's leaves, pairs, counters and verdict; a movement and the bits that it used; or a refusal
pub data Outcome : Type 0 where
  walked : CaseAnswer → Outcome
  moves : Movement → (used : ℕ) → Outcome
  refuses : Numbered → Outcome

pub record CaseRow : Type 0 where
  pub number : ℕ
  pub given : Outcome
  pub stated : Outcome

abbrev pub walk_row : (number : ℕ) → Case → CaseRow
walk_row n c = record { number = n; given = walked (found c); stated = walked c.answer }

abbrev pub walk_rows : (numbers : List ℕ) → List Case → List CaseRow
walk_rows [] cs = []
walk_rows (n ∷ ns) [] = []
walk_rows (n ∷ ns) (c ∷ cs) = walk_row n c ∷ walk_rows ns cs

abbrev pub outcome : Result (Read Movement) Refusal → Outcome
outcome (Ok m) = moves m.value m.next
outcome (Err r) = refuses (numbered r)

-- scale 1, width 8
abbrev pub move_row : (number bits : ℕ) → Outcome → CaseRow
move_row n bits o = record { number = n; given = outcome (read_movement bytes bits ByteComponents RoundWholeNumber); stated = o }

abbrev pub table : List CaseRow
table =
    walk_rows (1 ∷ 2 ∷ 3 ∷ 4 ∷ 5 ∷ 6 ∷ 7 ∷ 8 ∷ 9 ∷ 10 ∷ 11 ∷ 11 ∷ 11 ∷ 12 ∷ 13 ∷ []) cases ++
    (move_row 14 27 (moves moved 27) ∷ move_row 14 26 (refuses (refusal 7 24 26 3)) ∷ [])
