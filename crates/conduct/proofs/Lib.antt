pub mod Gathering
pub mod Pairs
pub mod Members
pub mod Heights
pub mod Sorting
