pub mod WellWritten
pub mod VariableAbstracted
pub mod AccessorNames
