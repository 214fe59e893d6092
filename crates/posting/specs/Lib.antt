-- Ties that a step posts.
pub mod Postings
