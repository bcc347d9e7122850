pub mod ByteAngles
pub mod Rounding
pub mod Finite
pub mod Patterns
pub mod Table
