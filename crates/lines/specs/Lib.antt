-- Lines carried out: the call that a line asks for, what a line leaves, which line of an input is ready, and what an input's lines leave.
pub mod Asked
pub mod Carried
pub mod Ready
pub mod Scripts
pub mod Windows
pub mod Told
