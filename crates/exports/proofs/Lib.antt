pub mod ResultLaws
pub mod MovementLaws
pub mod PackedPositions
