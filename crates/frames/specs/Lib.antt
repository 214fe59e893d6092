-- What rows of new frames and objects hold, which row of objects is the lowest unused, and how many a task made.
pub mod Initial
pub mod Unused
pub mod Made
