-- What the verifier's code answers, by the definitions.
pub mod Decoding
pub mod Lookups
pub mod Types
pub mod Effects
pub mod Trace
pub mod Answers
pub mod Stops
