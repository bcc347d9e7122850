pub mod Refusals
pub mod Parts
pub mod Vectors
pub mod Rotations
pub mod Movements
pub mod Cases
pub mod ByteAngles
pub mod Finite
