mod Turns
mod Found
mod Added
mod Outcomes
mod Blank
mod Heads
mod Made
