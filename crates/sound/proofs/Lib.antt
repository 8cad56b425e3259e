pub mod Ends
pub mod Lent
pub mod Tests
pub mod Guarded
