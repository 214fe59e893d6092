-- What posting writes, and the numbers of rows.
pub mod Posting
pub mod Numbers
pub mod Laws
