pub mod Trees
pub mod DoIts
pub mod Methods
