-- Laws behind the proofs of this crate's functions.
mod Prefixes
