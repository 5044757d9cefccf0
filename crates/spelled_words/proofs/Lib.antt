mod Keywords
mod Counts
