pub mod Given
pub mod Printed
pub mod Explained
pub mod Promises
