pub mod State
pub mod Sound
pub mod Tables
pub mod Reading
