-- Offers by their rows, orders as numbers, what the search's parts promise, and its answer.
pub mod Offered
pub mod Could
pub mod Ordering
pub mod Wanted
pub mod Replayed
pub mod Found
