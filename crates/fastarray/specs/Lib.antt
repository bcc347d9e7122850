pub mod Body
pub mod Records
pub mod Parts
pub mod Answers
pub mod Refusals
pub mod Order
