mod Onward
mod Calls
