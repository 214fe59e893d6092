-- Laws that the proofs of this crate share.
pub mod Reading
pub mod Steps
pub mod Asked
pub mod Turns
pub mod Tried
pub mod Rising
pub mod Replays
pub mod Sought
