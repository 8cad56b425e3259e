pub mod Part
pub mod Allowed
