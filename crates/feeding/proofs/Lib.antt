pub mod Told
mod Rows
mod Onward
