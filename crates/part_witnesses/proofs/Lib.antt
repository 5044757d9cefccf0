pub mod Pushed
pub mod InSlots
pub mod Faults
pub mod Evaluated
pub mod Sends
pub mod Assigned
pub mod PassedNames
