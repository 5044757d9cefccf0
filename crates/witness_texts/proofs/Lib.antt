pub mod OwnerLines
pub mod StartLines
pub mod Runs
