-- Laws that the proofs of this crate share.
pub mod Posted
pub mod Turns
