pub mod Outcomes
pub mod FilesLoaded
pub mod OneAnswer
pub mod NoWrite
pub mod Shown
