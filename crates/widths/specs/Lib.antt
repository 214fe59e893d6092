-- Every call keeps the widths of cells, and cells that hold no row stay as they are.
pub mod Below
pub mod Fits
pub mod Files
pub mod Notes
pub mod Steps
pub mod Calls
pub mod Puts
pub mod Widths
pub mod Untouched
