-- What the answers of the calls say, and a controller that keeps the drives' states from call to call.
pub mod Replies
pub mod Steps
