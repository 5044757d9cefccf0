pub mod PieceLemmas
pub mod KeywordRows
pub mod Beginnings
pub mod Texts
