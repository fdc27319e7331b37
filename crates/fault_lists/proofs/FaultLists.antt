-- The laws of fault lists.
pub mod Largest
pub mod Laws
