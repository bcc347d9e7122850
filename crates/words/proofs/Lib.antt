pub mod FloatLaws
pub mod InputLaws
pub mod OutputLaws
pub mod SignLaws
