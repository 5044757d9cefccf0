mod FreeNames
mod Meant
