pub mod ByteAngles
pub mod Numbers
