-- A row of constraints by its number.
pub mod Answers
