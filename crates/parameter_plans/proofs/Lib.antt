mod Planned
mod Passed
mod MessagesPassed
mod Made
