-- Word 1 as tests that are quick to make, and that they say the same; and rows numbered on.
pub mod Tracing
pub mod Checks
pub mod Same
pub mod Numbering
