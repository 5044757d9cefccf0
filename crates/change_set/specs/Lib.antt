pub mod Code
pub mod Change
pub mod Changes
pub mod ChangeCode
