-- Agreement over tables, and the searches behind it and behind its reasons.
pub mod Shared
pub mod Agreement
pub mod Nodes
pub mod Joining
pub mod Groups
pub mod Search
pub mod Upward
pub mod Pairs
pub mod Looking
pub mod Walks
pub mod Choosing
pub mod Linking
pub mod Laws
