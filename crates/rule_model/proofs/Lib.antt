mod OneLine
mod SomeLine
pub mod DoItBeside
