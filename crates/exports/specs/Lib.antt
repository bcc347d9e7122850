pub mod WalkResults
pub mod ReadResults
pub mod MoveResults
pub mod Calls
