-- What the functions' proofs share.
pub mod Lists
pub mod Loops
pub mod Matches
pub mod Parts
