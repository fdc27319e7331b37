-- The text of the table program.
pub mod TableListing
