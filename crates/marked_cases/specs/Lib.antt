-- The marked cases.
pub mod MarkedCases
