pub mod Parents
pub mod OwnMethods
pub mod Children
pub mod Arrivals
