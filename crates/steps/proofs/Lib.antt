mod Turning
pub mod Waiting
