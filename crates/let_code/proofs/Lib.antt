pub mod Only
pub mod Known
pub mod KnownLets
pub mod Put
