pub mod Feed
pub mod Rows
