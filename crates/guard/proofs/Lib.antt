pub mod Rows
pub mod Calls
pub mod Safe
pub mod Rising
pub mod Members
pub mod Cases
