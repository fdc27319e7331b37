-- The theorems of verdicts.
pub mod Blocks
pub mod Firsts
pub mod Intersection
pub mod Search
