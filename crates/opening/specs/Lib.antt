-- What is decided on a start.
pub mod Openings
