-- The laws of failure models.
pub mod Laws
