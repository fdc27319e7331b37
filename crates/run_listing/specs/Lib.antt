-- The text of the run program, and its parts.
pub mod RunListing
pub mod RunParts
