-- Marks and the work list, and what is freed, as the code does it.
pub mod Marking
