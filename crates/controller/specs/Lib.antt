-- The replies of the calls, the list of a drive's sends, and a controller that keeps states from call to call.
pub mod Replies
pub mod Receivers
pub mod Controllers
