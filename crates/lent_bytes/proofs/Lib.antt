-- What the functions' proofs share.
pub mod Buffers
pub mod FieldWrites
pub mod Parts
