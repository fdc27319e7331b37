-- What the functions' proofs share.
mod Simulates
