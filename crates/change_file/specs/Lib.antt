pub mod Members
pub mod Partners
pub mod Shown
pub mod Texts
