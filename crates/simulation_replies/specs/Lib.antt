-- The reply of the simulated exchange.
pub mod Replies
