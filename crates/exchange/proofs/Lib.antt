-- What the functions' proofs share.
pub mod Least
pub mod Rules
pub mod Steps
