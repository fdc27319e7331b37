-- The search for minimal hitting sets: its fuel, its look-ahead, the drives with which it goes on, and its marks.
pub mod Fuel
pub mod LookAhead
pub mod Candidates
pub mod Marks
