-- What a load goes by, read off the tables, a cache with one more entry, and a load remembered.
pub mod World
pub mod Entering
pub mod Offers
pub mod Remembering
pub mod Writing
