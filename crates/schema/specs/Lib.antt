pub mod Tables
pub mod Layout
pub mod Spans
pub mod Labels
pub mod TwelveLevels
pub mod SchemaFile
pub mod Refusals
