-- The state of a drive, and its messages.
pub mod State
pub mod Messages
