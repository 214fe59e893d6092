-- Instructions that look a class up: what their answers mean, and the laws that decide on them.
pub mod Declarers
pub mod Accesses
pub mod Members
pub mod Passing
pub mod Remainders
pub mod Makings
