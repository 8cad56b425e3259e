pub mod Tables
pub mod Steps
pub mod Ancestry
pub mod Sound
pub mod Keys
pub mod Taken
