-- The verdict on k, what it means, the theorems, what the code's values say, and the columns by which it asks first.
pub mod Verdicts
pub mod Meaning
pub mod Held
pub mod Columns
pub mod Sharing
