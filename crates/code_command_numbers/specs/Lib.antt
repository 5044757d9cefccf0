pub mod KeepsMoves
pub mod SelfNumber
