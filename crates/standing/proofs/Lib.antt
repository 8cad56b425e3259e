pub mod Marks
pub mod Turns
pub mod Standing
