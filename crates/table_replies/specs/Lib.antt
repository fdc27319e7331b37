-- The reply of a reader, and what a reader holds.
pub mod Replies
pub mod Reading
