-- What the programs print.
pub mod Programs
