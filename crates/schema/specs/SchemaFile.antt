-- What schema.rs states: for each level the handles that are arrays, with the level of their elements, and the names of handles.
use Rattle.std.specs.Prelude.{ℕ, Option, Some, None, Bool, true, false, ◌&&◌, List, [], ◌∷◌, eqb, if◌then◌else◌}
use Prim.Native.String.{String}
use Rattle.schema.specs.Labels.{unnamed}
use Rattle.schema.specs.TwelveLevels.{ascii, leaves_level, combat_rounds, ability_casts, ability_effects, life_change_damage, life_change_section, life_change_by_section, dealt_interaction, received_interaction, participant, character_report, affected_target}

pub record Stated : Type 0 where
  pub level : ℕ
  pub handle : ℕ
  pub elements : Option ℕ
  pub name : List ℕ

abbrev pub states : (level handle : ℕ) (elements : Option ℕ) (name : String) → Stated
states level handle elements name = record { level = level; handle = handle; elements = elements; name = ascii name }

abbrev pub stated : List Stated
stated =
    states dealt_interaction 44 (Some leaves_level) "Regions" ∷
    states received_interaction 79 (Some leaves_level) "Regions" ∷
    states participant 26 (Some dealt_interaction) "DealtInteractions" ∷
    states participant 61 (Some received_interaction) "ReceivedInteractions" ∷
    states character_report 10 (Some participant) "Interactions" ∷
    states combat_rounds 4 (Some character_report) "Reports" ∷
    states affected_target 19 None "AffectedPlayer" ∷
    states affected_target 20 None "Value" ∷
    states ability_effects 14 None "Statistic" ∷
    states ability_effects 15 None "LocalizedStat" ∷
    states ability_effects 16 None "Value" ∷
    states ability_effects 17 None "Time" ∷
    states ability_effects 18 (Some affected_target) "AffectedTargetsArray" ∷
    states ability_casts 13 (Some ability_effects) "Effects" ∷
    states life_change_damage 10 None "ChangedComponent" ∷
    states life_change_damage 11 None "LifeResult" ∷
    states life_change_damage 12 None "DeltaLife" ∷
    states life_change_damage 13 None "bAliveAfterChange" ∷
    states life_change_section 1 None "ChangedComponent" ∷
    states life_change_section 2 None "LifeResult" ∷
    states life_change_section 3 None "DeltaLife" ∷
    states life_change_section 4 None "bAliveAfterChange" ∷
    states life_change_by_section 2 None "ChangedComponent" ∷
    states life_change_by_section 3 None "LifeResult" ∷
    states life_change_by_section 4 None "DeltaLife" ∷
    states life_change_by_section 5 None "bAliveAfterChange" ∷ []

-- What is stated of a handle of a level, and `none` where nothing is.
abbrev pub about : Stated → (level handle : ℕ) → Bool
about s level handle = eqb s.level level && eqb s.handle handle

unfoldable pub of_stated : {A : Type 0} → (what : Stated → A) → (none : A) → List Stated → (level handle : ℕ) → A
of_stated what none [] level handle = none
of_stated what none (s ∷ rest) level handle = if about s level handle then what s else of_stated what none rest level handle

-- whether anything is; the level of the elements; the label as a container's
abbrev pub is_stated : (level handle : ℕ) → Bool
is_stated level handle = of_stated (λ s. true) false stated level handle

abbrev pub child_stated : (level handle : ℕ) → Option ℕ
child_stated level handle = of_stated (λ s. s.elements) None stated level handle

abbrev pub label_stated : (level handle : ℕ) → List ℕ
label_stated level handle = of_stated (λ s. s.name) (unnamed handle) stated level handle
