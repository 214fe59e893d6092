-- What is read of bytes, by the definitions, and how much a table holds.
pub mod Listed
pub mod Held
pub mod Optional
