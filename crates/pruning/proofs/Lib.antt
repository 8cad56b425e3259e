pub mod Stays
pub mod Fronts
pub mod Parts
pub mod Rooted
