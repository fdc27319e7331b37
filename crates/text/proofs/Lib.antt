-- What the functions' proofs share.
pub mod Puts
pub mod Prints
pub mod Lengths
