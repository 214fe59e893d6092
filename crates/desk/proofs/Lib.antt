-- Laws that the proofs of the desk's calls cite.
pub mod Laws
pub mod PlaceLaws
pub mod SameLaws
