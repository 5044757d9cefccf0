pub mod JudgedBeside
pub mod Accessors
pub mod ScriptsKeep
mod NilUses
mod NilCode
mod NilHolds
mod NilNeeds
pub mod NilAdmitted
mod RenamingsSaid
