-- What a host is told of a call, of a search, and of a row.
pub mod Answers
pub mod Findings
pub mod Rows
