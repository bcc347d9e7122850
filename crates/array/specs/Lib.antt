pub mod Merges
pub mod Refusals
pub mod Calls
pub mod Passing
