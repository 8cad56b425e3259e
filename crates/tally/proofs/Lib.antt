pub mod Chains
pub mod Totals
pub mod Backed
pub mod Ready
pub mod Heaviest
pub mod Below
