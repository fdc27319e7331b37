-- What the function's proof rests on.
pub mod Opens
