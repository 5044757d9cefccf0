pub mod Answers
pub mod Building
pub mod Descent
pub mod Nodes
pub mod Preorder
pub mod Runs
pub mod Walk
