mod Appended
mod Begins
