pub mod RowLaws
pub mod SpanLaws
pub mod LayoutLaws
pub mod LabelLaws
pub mod LaidLaws
pub mod TwelveLaws
pub mod PathLengths
