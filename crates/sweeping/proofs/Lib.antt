-- Laws that the proofs of several functions cite, and what a sweep comes to.
pub mod Laws
pub mod Reaching
pub mod Freed
pub mod Swept
