mod Kept
mod Backward
mod OneBack
