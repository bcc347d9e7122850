pub mod Cursors
pub mod Reads
pub mod Numbers
pub mod Copies
pub mod Refusals
pub mod Order
