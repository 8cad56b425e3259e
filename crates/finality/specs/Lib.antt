-- What the functions of finality say.
pub mod Answers
