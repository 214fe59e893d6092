-- A list of calls in cells, what the drive of it leaves, and that it is safe.
pub mod Encoded
pub mod Driven
pub mod Laws
pub mod Safely
pub mod Encoding
pub mod Room
