pub mod Kept
pub mod Pruned
