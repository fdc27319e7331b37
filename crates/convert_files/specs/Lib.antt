-- What the convert program writes.
pub mod ConvertFiles
