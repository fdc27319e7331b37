-- What the functions' proofs share.
pub mod Lengths
pub mod RunPrograms
