-- What one search leaves in its list.
pub mod Attempts
