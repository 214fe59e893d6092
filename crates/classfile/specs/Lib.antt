-- Reading a class file by fixed places, and its laws.
pub mod Lists
pub mod Reading
pub mod Rules
pub mod Listed
pub mod Stages
pub mod Laws
pub mod Searches
