-- What the functions of the tally say.
pub mod Chains
pub mod Marks
pub mod Weights
pub mod Ready
