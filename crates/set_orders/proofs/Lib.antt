-- What the functions' proofs share.
pub mod Copies
pub mod Halves
pub mod Merges
