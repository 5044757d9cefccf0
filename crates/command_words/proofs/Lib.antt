mod Values
mod Lengths
