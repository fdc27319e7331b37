-- Lists of masks as bytes, reading as the code does it, and tables read with their cores.
pub mod Files
pub mod Reading
pub mod WithCores
