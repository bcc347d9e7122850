pub mod CursorLaws
pub mod NumberLaws
pub mod ReadLaws
pub mod CopyLaws
pub mod RefusalOrder
pub mod Outside
pub mod Ends
