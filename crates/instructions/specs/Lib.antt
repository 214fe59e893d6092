-- Plans of instructions: what they mean in rows, and the laws of the tests that decide on them.
pub mod Plans
pub mod Operands
