-- Replies as structs of numbers.
pub mod Replies
