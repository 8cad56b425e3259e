-- What the leaves over bytes say, where the model has no word for it.
pub mod Words
pub mod Kinds
