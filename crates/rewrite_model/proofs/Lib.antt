mod OnePattern
mod OneRule
mod OneList
