pub mod StatsLaws
pub mod PassLaws
pub mod CallLaws
pub mod OneAnswer
