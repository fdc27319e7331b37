-- Lists put into another order.
pub mod Rearranged
