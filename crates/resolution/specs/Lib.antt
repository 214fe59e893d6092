-- Classes and cache read off the tables at once, and the laws of their lookups.
pub mod Cached
pub mod Quick
pub mod Unbroken
pub mod Lookups
pub mod Slots
