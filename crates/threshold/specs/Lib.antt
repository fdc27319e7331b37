-- Tables from n and t: groups of so many out of n drives, the table of their numbers, and the call.
pub mod Groups
pub mod Counts
pub mod Threshold
