-- Fault lists, and what they say of failures.
pub mod FaultLists
pub mod FailureModels
