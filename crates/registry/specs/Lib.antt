-- How the code says what is decided on a record.
pub mod Decision
