-- Laws of the code: the drives by their places in the array, and a round's closes, messages and calls.
pub mod Places
pub mod Walks
pub mod Deliveries
pub mod Closes
pub mod SenderCalls
pub mod RoundCalls
