-- The verdict of a call, what it means for splits with the theorems, and what the code's values say.
pub mod Calls
pub mod Partitions
pub mod Held
