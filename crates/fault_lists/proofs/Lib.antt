-- The laws of fault lists and failure models.
pub mod FailureModels
pub mod FaultLists
