pub mod Walked
pub mod Chains
pub mod Doing
pub mod Transcripts
