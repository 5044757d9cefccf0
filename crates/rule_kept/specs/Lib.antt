pub mod PatternComments
