-- What a move of the root gives back.
pub mod Moved
