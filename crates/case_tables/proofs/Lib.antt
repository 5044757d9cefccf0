pub mod Appended
pub mod Lines
pub mod Numbers
pub mod Texts
pub mod ReadPieces
pub mod ReadCase
