pub mod Many
pub mod Storing
