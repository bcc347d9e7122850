pub mod Tally
pub mod Steps
pub mod Views
pub mod Heads
pub mod Paths
pub mod Kinds
pub mod Gives
pub mod Lent
