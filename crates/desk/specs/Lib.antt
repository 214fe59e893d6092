-- What the desk's code answers.
pub mod Answers
