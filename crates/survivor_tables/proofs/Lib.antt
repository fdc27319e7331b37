-- The laws of the search for minimal hitting sets and the theorems of tables.
pub mod Hitting
pub mod Tables
