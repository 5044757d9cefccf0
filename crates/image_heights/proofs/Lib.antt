pub mod LowCode
pub mod OneLevel
