-- What the functions' proofs share.
pub mod ByMask
pub mod Smallest
pub mod Keeping
