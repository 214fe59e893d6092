-- Laws that the proofs of this crate share.
pub mod Filling
pub mod Rooting
pub mod Claiming
pub mod Tying
pub mod Answering
pub mod Numbering
