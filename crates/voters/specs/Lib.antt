-- What the functions on voters say.
pub mod Bits
pub mod Weights
