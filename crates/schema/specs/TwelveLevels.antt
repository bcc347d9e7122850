-- The twelve levels of schema.rs as one table, and those of them that schema.rs makes public, by number.
use Rattle.std.specs.Prelude.{ℕ, Result, Ok, Err, ◌≡◌, List, [], ◌∷◌, Bool, ◌&&◌, length, leb, if◌then◌else◌}
use Prim.Native.Char.{code}
use Prim.Native.String.{String}
use Prim.Native.String as S
use Rattle.bits.specs.Runs.{put}
use Rattle.schema.specs.Tables.{Tables, tables}
use Rattle.schema.specs.declared.Short.{Short}

abbrev pub leaves_level : ℕ
leaves_level = 0

abbrev pub combat_rounds : ℕ
combat_rounds = 1

abbrev pub ability_casts : ℕ
ability_casts = 2

abbrev pub ability_effects : ℕ
ability_effects = 3

abbrev pub life_change_damage : ℕ
life_change_damage = 4

abbrev pub life_change_section : ℕ
life_change_section = 5

abbrev pub life_change_by_section : ℕ
life_change_by_section = 6

abbrev pub dealt_interaction : ℕ
dealt_interaction = 7

abbrev pub received_interaction : ℕ
received_interaction = 8

abbrev pub participant : ℕ
participant = 9

abbrev pub character_report : ℕ
character_report = 10

abbrev pub affected_target : ℕ
affected_target = 11

-- the levels that schema.rs makes public; any level of a table may be the root of a walk
abbrev pub public_levels_lem : List ℕ
public_levels_lem = combat_rounds ∷ ability_casts ∷ ability_effects ∷ life_change_damage ∷ life_change_section ∷ life_change_by_section ∷ []

-- a text of ASCII characters as bytes
unfoldable pub ascii : String → List ℕ
ascii S.[] = []
ascii (S.◌∷◌ c rest) = code c ∷ ascii rest

-- level, kind, handle, a, b
unfoldable pub schema_rows : List ℕ
schema_rows =
    1 ∷ 0 ∷ 4 ∷ 10 ∷ 0 ∷
    1 ∷ 1 ∷ 4 ∷ 0 ∷ 7 ∷
    2 ∷ 0 ∷ 13 ∷ 3 ∷ 0 ∷
    2 ∷ 1 ∷ 13 ∷ 7 ∷ 7 ∷
    3 ∷ 0 ∷ 18 ∷ 11 ∷ 0 ∷
    3 ∷ 1 ∷ 14 ∷ 14 ∷ 9 ∷
    3 ∷ 1 ∷ 15 ∷ 23 ∷ 13 ∷
    3 ∷ 1 ∷ 16 ∷ 36 ∷ 5 ∷
    3 ∷ 1 ∷ 17 ∷ 41 ∷ 4 ∷
    3 ∷ 1 ∷ 18 ∷ 45 ∷ 20 ∷
    4 ∷ 1 ∷ 10 ∷ 65 ∷ 16 ∷
    4 ∷ 1 ∷ 11 ∷ 81 ∷ 10 ∷
    4 ∷ 1 ∷ 12 ∷ 91 ∷ 9 ∷
    4 ∷ 1 ∷ 13 ∷ 100 ∷ 17 ∷
    5 ∷ 1 ∷ 1 ∷ 65 ∷ 16 ∷
    5 ∷ 1 ∷ 2 ∷ 81 ∷ 10 ∷
    5 ∷ 1 ∷ 3 ∷ 91 ∷ 9 ∷
    5 ∷ 1 ∷ 4 ∷ 100 ∷ 17 ∷
    6 ∷ 1 ∷ 2 ∷ 65 ∷ 16 ∷
    6 ∷ 1 ∷ 3 ∷ 81 ∷ 10 ∷
    6 ∷ 1 ∷ 4 ∷ 91 ∷ 9 ∷
    6 ∷ 1 ∷ 5 ∷ 100 ∷ 17 ∷
    7 ∷ 0 ∷ 44 ∷ 0 ∷ 0 ∷
    7 ∷ 1 ∷ 44 ∷ 117 ∷ 7 ∷
    8 ∷ 0 ∷ 79 ∷ 0 ∷ 0 ∷
    8 ∷ 1 ∷ 79 ∷ 117 ∷ 7 ∷
    9 ∷ 0 ∷ 26 ∷ 7 ∷ 0 ∷
    9 ∷ 0 ∷ 61 ∷ 8 ∷ 0 ∷
    9 ∷ 1 ∷ 26 ∷ 124 ∷ 17 ∷
    9 ∷ 1 ∷ 61 ∷ 141 ∷ 20 ∷
    10 ∷ 0 ∷ 10 ∷ 9 ∷ 0 ∷
    10 ∷ 1 ∷ 10 ∷ 161 ∷ 12 ∷
    11 ∷ 1 ∷ 19 ∷ 173 ∷ 14 ∷
    11 ∷ 1 ∷ 20 ∷ 36 ∷ 5 ∷ []

-- the names, one behind the other
unfoldable pub schema_names : List ℕ
schema_names =
    ascii
    "ReportsEffectsStatisticLocalizedStatValueTimeAffectedTargetsArrayChangedComponentLifeResultDeltaLifebAliveAfterChangeRegionsDealtInteractionsReceivedInteractionsInteractionsAffectedPlayer"

abbrev pub twelve_levels : Tables
twelve_levels = tables schema_rows schema_names [] []

-- the levels, the numbers of the rows, and the bytes of the names
abbrev pub level_count : ℕ
level_count = 12

abbrev pub row_numbers : ℕ
row_numbers = 170

abbrev pub name_bytes : ℕ
name_bytes = 187

-- The table is written to the front of two lent buffers. Where one is too short nothing is written, and the answer says what both need.
unfoldable pub enough : (rows names : List ℕ) → Bool
enough rows names = leb row_numbers (length rows) && leb name_bytes (length names)

-- what both need
abbrev pub needs : Short
needs = record { rows = row_numbers; names = name_bytes }

unfoldable pub fill_answer : (rows names : List ℕ) → Result Unit Short
fill_answer rows names = if enough rows names then Ok tt else Err needs

unfoldable pub filled_rows : (rows names : List ℕ) → List ℕ
filled_rows rows names = if enough rows names then put rows 0 schema_rows else rows

unfoldable pub filled_names : (rows names : List ℕ) → List ℕ
filled_names rows names = if enough rows names then put names 0 schema_names else names

-- the contract: what is answered, and what the two buffers hold at the exit
abbrev pub FillsSchema : (rows names : List ℕ) → Result Unit Short → (endRows endNames : List ℕ) → Type 0
FillsSchema rows names r endRows endNames =
    (r ≡ fill_answer rows names) × (endRows ≡ filled_rows rows names) × (endNames ≡ filled_names rows names)
