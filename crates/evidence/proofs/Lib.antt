pub mod Bytes
pub mod Listing
