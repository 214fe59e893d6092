-- What taking back writes.
pub mod Back
