pub mod Shown
pub mod Pairs
pub mod Held
