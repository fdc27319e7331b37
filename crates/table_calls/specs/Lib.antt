-- The replies of the calls given n and sets.
pub mod Replies
