pub mod WellSpelled
pub mod KeepsRuns
