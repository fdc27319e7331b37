-- The definitions of sets of drives, of lists, of positions in them and of refusals, the laws of tests and of optional
-- values, and the laws of loops.
pub mod Bools
pub mod Filled
pub mod Limits
pub mod Options
pub mod Positions
pub mod Lists
pub mod Loops
pub mod Masks
pub mod Counts
pub mod Refusals
pub mod Lent
