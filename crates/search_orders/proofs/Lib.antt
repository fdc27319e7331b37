-- What the functions' proofs share.
pub mod Rearranging
