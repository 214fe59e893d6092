-- What today's machine has in common with the first document's (definition/First). SameCalls and Same hold the statements on calls, Changeover those on tables that
-- are carried over, the files before them their proofs.
pub mod SameSignatures
pub mod SameFiles
pub mod SameTypes
pub mod SameBases
pub mod SameObjects
pub mod Likewise
pub mod SameSteps
pub mod SameRows
pub mod Carries
pub mod Written
pub mod SameCalls
pub mod KeepsNone
pub mod Same
pub mod Changeover
