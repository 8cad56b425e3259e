-- What is said of a decision, beside what it means.
pub mod Decision
