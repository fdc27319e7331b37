-- What a call that writes into a lent buffer promises.
pub mod LentBuffers
