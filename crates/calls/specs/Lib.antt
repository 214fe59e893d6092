-- What a call with its numbers and the file beside it is, in the definitions.
pub mod Made
