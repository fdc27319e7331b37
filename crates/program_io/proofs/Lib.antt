-- Laws behind the proofs of this crate's functions, and of the programs'.
mod KnownBytes
pub mod Texts
