mod Sorted
mod Preorder
mod MatchParts
mod Finding
