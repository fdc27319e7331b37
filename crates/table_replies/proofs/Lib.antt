-- What the readers hold.
pub mod ReadTables
