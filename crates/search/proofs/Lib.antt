pub mod Search
pub mod Below
pub mod Pointwise
pub mod Filled
pub mod Chains
