-- The theorems of tables.
pub mod Laws
