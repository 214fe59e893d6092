-- The first document's machine, kept: its own text where a later paper changed it. Stores of it are carried over to today's tables (Changeover), and what it would
-- have answered is what is claimed of them then.
pub mod Signatures
pub mod Files
pub mod Verifier
pub mod Machine
pub mod Tables
pub mod Broken
pub mod Calls
