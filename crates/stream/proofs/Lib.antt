mod Turned
pub mod Report
