pub mod Widths
pub mod RowLines
pub mod Drawing
