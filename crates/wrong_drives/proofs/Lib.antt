-- That the statements of demand 3 are false of wrong drives: for each a run by its calls in which the conclusion fails.
pub mod ValidScenarios
pub mod Refuting
pub mod Rejected
pub mod TightRejected
pub mod NoRuns
