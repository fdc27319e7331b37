-- Numbers and lines as text, and a text in a lent buffer.
pub mod Text
pub mod Printing
