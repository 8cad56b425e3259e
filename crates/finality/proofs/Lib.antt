pub mod Conflicting
pub mod Answered
pub mod Front
