-- What the searches over the table of names say.
pub mod Rows
pub mod Slots
