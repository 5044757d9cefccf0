pub mod RuledKept
mod RuledBeside
mod SameVerdicts
mod RuledNil
