pub mod Fitting
pub mod Floors
pub mod Shifts
pub mod Wide
