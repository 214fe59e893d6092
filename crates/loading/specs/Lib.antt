-- What the decisions of loads mean, and what is written by them.
pub mod Writing
pub mod Posting
pub mod Stages
pub mod Entering
pub mod Plans
