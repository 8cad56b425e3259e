pub mod Inside
pub mod Prefix
mod RestOfReport
pub mod ByRecord
mod Feeding
pub mod Pieces
