-- Laws that the proofs of this crate share.
pub mod Copies
pub mod Cells
pub mod Later
pub mod Judging
pub mod Changing
