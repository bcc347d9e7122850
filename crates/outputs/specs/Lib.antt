pub mod Records
pub mod World
pub mod Answers
