-- Lines read and printed: what a command says, reading by parts, and their laws.
pub mod Commands
pub mod Parts
pub mod Numbers
pub mod Files
pub mod Calls
pub mod Lines
pub mod Facts
pub mod Printing
