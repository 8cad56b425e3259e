pub mod Part
pub mod Moved
pub mod Run
pub mod Allowed
pub mod Cases
