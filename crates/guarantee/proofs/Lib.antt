pub mod Demand
pub mod FirstRecords
pub mod ManyRuns
pub mod FedRuns
pub mod PiecesRuns
pub mod Bundles
pub mod Moves
