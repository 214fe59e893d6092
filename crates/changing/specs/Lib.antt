-- What the functions of the changeover promise.
pub mod Cells
pub mod Judged
