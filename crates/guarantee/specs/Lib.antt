pub mod Demand3
pub mod LogRead
pub mod Demand2
pub mod CallsAreRuns
pub mod Bundles
pub mod Moves
