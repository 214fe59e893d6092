-- What a copy leaves.
pub mod Copied
