-- Laws behind the proofs of this crate's functions.
pub mod Prints
