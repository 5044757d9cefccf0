pub mod RemadeCode
pub mod ImageAfter
pub mod Whole
pub mod SoFar
pub mod MadeAnew
