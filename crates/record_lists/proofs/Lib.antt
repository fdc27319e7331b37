-- What the functions' proofs share.
mod Turns
