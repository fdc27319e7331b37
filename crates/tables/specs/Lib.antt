-- What the answers of the calls say.
pub mod Answers
