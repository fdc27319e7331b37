-- A drive's state as a struct of numbers, for C.
pub mod Crossing
