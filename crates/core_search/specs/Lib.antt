-- What the search leaves in a lent slice.
pub mod Found
