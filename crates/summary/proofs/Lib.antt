pub mod Named
pub mod Lines
