-- What a survivor table means: orders of sets and the normal form, minimal hitting sets, cores from executions, and
-- tables with their cores, the way back and the calls given n and sets.
pub mod Order
pub mod Lists
pub mod Hitting
pub mod Executions
pub mod Tables
