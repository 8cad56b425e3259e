-- What the searches over the held tables say.
pub mod Places
pub mod Keys
