-- The laws of the steps of a controller.
pub mod Laws
pub mod Kept
