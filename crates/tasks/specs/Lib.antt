-- Whose turn it is, read off the counts.
pub mod Turns
