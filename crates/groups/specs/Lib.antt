-- Groups of rows of ties: roots of rows, rows of one name, which row named a request, the lowest row of each group, and groups as numbers beside the ties.
pub mod Firsts
pub mod Roots
pub mod Claims
pub mod Lowest
pub mod Laws
pub mod Numbered
pub mod Grouped
pub mod Kept
