-- What the functions' proofs share, and what an accepted table says to those who ask for one.
pub mod Accepts
pub mod Completes
